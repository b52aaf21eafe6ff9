use Rattle.std.proofs.Common.{◌∙◌, ℕ, List, ap, subst, sym, take_all}
use Rattle.std.specs.Borrow.{Bor}
use Rattle.std.proofs.lemmas.Result.{err_from_is_err_and}
use Rattle.px_chain.specs.Clause.{Formula, IsOver}
use Rattle.px_gates.specs.Gate.{KeepsFormula}
use Rattle.px_gates.proofs.Formulas.{KeepsFormula-clauses, all_read, with_clauses-more, with_clauses-none}
use Rattle.px_gates.proofs.gates.Gates.add_all.Goals as goal

pub loop-clause-init : goal.loop-clause-init
loop-clause-init c = with_clauses-none c.args.self.now

pub add-requires : goal.add-requires
add-requires c =
    let vars = ap (λ (f : Formula). f.vars) c.loop-clause.invariant in
    rw vars (all_read (λ (clause : Bor (List ℕ)). IsOver c.args.self.now.vars clause.now) c.args.clauses.now c.loop-clause.clause-index _ c.requires c.loop-clause-test.true)

pub returns-in_err-add-clause-kept : goal.returns-in_err-add-clause-kept
returns-in_err-add-clause-kept c =
    let p = err_from_is_err_and c.from_residual.result c.from_residual.ensures.1 in
    rw p.1 (subst (KeepsFormula c.args.self.now) (sym (c.in_err-add.ensures.kept ∙ c.loop-clause.invariant)) (KeepsFormula-clauses c.args.self.now _))

pub loop-clause-preserved : goal.loop-clause-preserved
loop-clause-preserved c =
    with_clauses-more c.args.self.now c.args.clauses.now c.loop-clause.clause-index _ c.loop-clause.self c.add.new.self c.loop-clause-test.true c.loop-clause.invariant c.in_ok-add.ensures.made

pub returns-clause-made : goal.returns-clause-made
returns-clause-made c = rw (take_all c.loop-clause.clause-index c.args.clauses.now c.loop-clause-test.false) at c.loop-clause.invariant
