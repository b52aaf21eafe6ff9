use Rattle.std.proofs.Common.{◌≡◌, ◌∙◌, ◌++◌, List, ℕ, ap, sym}
use Rattle.px_chain.specs.Clause.{clause_of}
use Rattle.px_chain.proofs.Members.{clause_of-ascending}
use Rattle.px_chain.proofs.Deriving.{begun, not_begun}
use Rattle.px_chain.proofs.checker.derive.Goals as goal

pub returns-in_default-clause-fault : goal.returns-in_default-clause-fault
returns-in_default-clause-fault c = not_begun c.args.premises.now.clauses c.args.chain.now (sym c.in_default.ensures.clause)

pub loop-variable-init : goal.loop-variable-init
loop-variable-init c =
    let clause : c.join.new.self.clause ≡ c.in-Some.first.now =
    c.in_ok-join.ensures.clause ∙ ap (λ (front : List ℕ). clause_of (front ++ c.in-Some.first.now)) c.requires.empty ∙ clause_of-ascending c.in-Some.first.now c.in-Some.ensures.ascends in
    (rw (c.as_slice-variable-items.ensures, clause) (begun c.args.premises.now.clauses c.args.chain.now c.in-Some.first.now (sym c.in-Some.ensures.clause)), c.join.ensures.vars)
