-- Answers of a search: assignments that meet every clause, and some that don't.
use Rattle.std.proofs.Common.{◌≡◌, true, false, [], ◌∷◌, refl, arith}
use Rattle.px_chain.specs.declared.chain.Chain.{Chain}
use Rattle.px_chain.specs.Clause.{Formula}
use Rattle.px_chain.specs.Resolution.{derived}
use Rattle.px_sat.specs.declared.answer.Answer.TheVariants.{Found, Refutation, Spent}
use Rattle.px_sat.specs.Answer.{IsSpent, Settles}

-- variable 1 holds, and variable 0 doesn't
abbrev second_alone : Formula
second_alone = record { vars = 2; clauses = (2 ∷ []) ∷ (1 ∷ []) ∷ [] }

abbrev contradiction : Formula
contradiction = record { vars = 1; clauses = (0 ∷ []) ∷ (1 ∷ []) ∷ [] }

-- An assignment has a value for each variable, that of variable 0 first, and meets every clause.
-- A body that negates the values gives true ∷ false ∷ [], which doesn't.
values_that_meet_all : Settles second_alone 1 (Found (false ∷ true ∷ []))
values_that_meet_all = (refl, (refl, (refl, tt)))

negated_values_meet_not_all : Settles second_alone 1 (Found (true ∷ false ∷ [])) → ⊥
negated_values_meet_not_all settles = cc

one_value_too_few : Settles second_alone 1 (Found (false ∷ [])) → ⊥
one_value_too_few settles = cc

-- A refutation has at most as many chains as the budget has conflicts.
refutation_within_the_budget : Settles contradiction 1 (Refutation (record { claim = []; first = 0; rest = (0, 1) ∷ [] } ∷ []))
unfolding derived
refutation_within_the_budget = ((refl, refl), omega arith)

-- A body that answers a refutation without chains at the budget's end refutes nothing.
no_chains_refute_nothing : Settles contradiction 0 (Refutation []) → ⊥
no_chains_refute_nothing settles = settles.0

-- A spent budget has as many conflicts as it allows: none where it is 0, and no log is shorter. A body that counts conflicts from 1 gives Spent []
-- where the budget is 1.
no_budget : Settles contradiction 0 (Spent [])
no_budget = (tt, refl)

log_shorter_than_the_budget : Settles contradiction 1 (Spent []) → ⊥
log_shorter_than_the_budget settles = cc

spent_is_spent : IsSpent (Spent [])
spent_is_spent = tt

found_is_not_spent : IsSpent (Found (false ∷ [])) → ⊥
found_is_not_spent spent = spent
