-- Clauses. A literal is twice its variable, and one more where it is negated: 3 is variable 1 negated.
use Rattle.std.proofs.Common.{◌≡◌, [], ◌∷◌, Some, None, refl}
use Rattle.px_chain.specs.Clause.{clause_of, complement}
use Rattle.px_chain.specs.Resolution.{resolvent}

-- The clause that literals stand for has them in ascending order, each once.
repeated_literals_stand_once : clause_of (3 ∷ 0 ∷ 3 ∷ 1 ∷ 0 ∷ []) ≡ 0 ∷ 1 ∷ 3 ∷ []
repeated_literals_stand_once = refl

literals_ascend : clause_of (9 ∷ 2 ∷ []) ≡ 2 ∷ 9 ∷ []
literals_ascend = refl

no_literals_are_the_empty_clause : clause_of [] ≡ []
no_literals_are_the_empty_clause = refl

learnt_literals_stand_once : clause_of (1 ∷ 13 ∷ 1 ∷ []) ≡ 1 ∷ 13 ∷ []
learnt_literals_stand_once = refl

-- A literal and its complement name each other.
complement_of_positive : complement 2 ≡ 3
complement_of_positive = refl

complement_of_negated : complement 3 ≡ 2
complement_of_negated = refl

-- Two clauses resolve on a variable that stands with one sign in the first and with the other in the second: it leaves both.
-- A body that leaves the first clause's literal of the variable gives 2 ∷ 4 ∷ [].
pivot_leaves : resolvent (2 ∷ 4 ∷ []) 2 (2 ∷ 5 ∷ []) ≡ Some (2 ∷ [])
pivot_leaves = refl

-- A body that leaves it gives 2 ∷ 3 ∷ 5 ∷ [].
pivot_leaves_negated : resolvent (2 ∷ 5 ∷ []) 2 (3 ∷ 4 ∷ []) ≡ Some (2 ∷ 3 ∷ [])
pivot_leaves_negated = refl

-- A clause with both signs keeps the one on which it isn't resolved.
both_signs_leave_one : resolvent (2 ∷ 3 ∷ []) 1 (2 ∷ []) ≡ Some (2 ∷ [])
both_signs_leave_one = refl

equal_signs_do_not_resolve : resolvent (2 ∷ []) 1 (2 ∷ []) ≡ None
equal_signs_do_not_resolve = refl

another_variable_does_not_resolve : resolvent (2 ∷ []) 2 (3 ∷ []) ≡ None
another_variable_does_not_resolve = refl

largest_variable_does_not_resolve : resolvent (2 ∷ []) 4294967295 (3 ∷ []) ≡ None
largest_variable_does_not_resolve = refl
