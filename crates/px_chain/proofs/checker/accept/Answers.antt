use Rattle.std.proofs.Common.{◌∙◌, ◌++◌, ◌∷◌, [], List, ℕ, ap}
use Rattle.px_chain.specs.Clause.{clause_of}
use Rattle.px_chain.proofs.Members.{clause_of-again}
use Rattle.px_chain.proofs.checker.accept.Goals as goal

pub returns-clause-added : goal.returns-clause-added
returns-clause-added c =
    let claimed = c.deref.ensures.value ∙ c.normalise.ensures ∙ ap clause_of (c.in_ok-claimed.ensures.items ∙ c.as_slice.ensures) in
    c.in_ok-add.ensures.ok ∙ ap (λ (clause : List ℕ). c.args.premises.now.clauses ++ clause ∷ []) (ap clause_of claimed ∙ clause_of-again c.args.chain.now.claim)
