-- Trails: values, levels and reasons, and what stays of a trail. Literals are numbered as in clauses: 9 is variable 4 negated.
use Rattle.std.proofs.Common.{◌≡◌, ℕ, true, false, List, [], ◌∷◌, ◌++◌, Some, None, Option, refl}
use Rattle.px_chain.specs.Clause.{clause_of}
use Rattle.px_trail.specs.Assignment.{truth_of}
use Rattle.px_trail.specs.Trail.{Step, decisions_of, level_of, literals_of, reason_of, up_to, value_of}

abbrev decided : ℕ → Step
decided literal = record { literal = literal; reason = None }

-- a literal that follows from the clause of a number
abbrev follows : ℕ → ℕ → Step
follows literal number = record { literal = literal; reason = Some number }

-- Variable 0 gives 1 by clause 0, that gives 2 by clause 1, and 0 and 2 give 3 by clause 2. Variable 5 holds by clause 3.
abbrev implications : List (List ℕ)
implications = (1 ∷ 2 ∷ []) ∷ (3 ∷ 4 ∷ []) ∷ (1 ∷ 5 ∷ 6 ∷ []) ∷ (10 ∷ []) ∷ []

-- what propagation gives of the decisions on variable 0, and on variable 4, which doesn't hold
abbrev two_decisions : List Step
two_decisions = follows 10 3 ∷ decided 0 ∷ follows 2 0 ∷ follows 4 1 ∷ follows 6 2 ∷ decided 9 ∷ []

-- and of decisions on variables 6 and 0, before variable 4 is decided
abbrev three_decisions : List Step
three_decisions = decided 12 ∷ follows 10 3 ∷ decided 0 ∷ follows 2 0 ∷ follows 4 1 ∷ follows 6 2 ∷ decided 9 ∷ []

-- The literals in order, and those that were decided.
literals_in_order : literals_of two_decisions ≡ 10 ∷ 0 ∷ 2 ∷ 4 ∷ 6 ∷ 9 ∷ []
literals_in_order = refl

decisions_in_order : decisions_of two_decisions ≡ 0 ∷ 9 ∷ []
decisions_in_order = refl

nothing_is_assigned_at_first : literals_of [] ≡ []
nothing_is_assigned_at_first = refl

-- Values. A body that turns a negated literal's value says that variable 0 is false and variable 4 true.
value_of_decided : value_of two_decisions 0 ≡ Some true
value_of_decided = refl

value_of_variable_1 : value_of two_decisions 1 ≡ Some true
value_of_variable_1 = refl

value_of_variable_2 : value_of two_decisions 2 ≡ Some true
value_of_variable_2 = refl

value_of_variable_3 : value_of two_decisions 3 ≡ Some true
value_of_variable_3 = refl

value_of_negated : value_of two_decisions 4 ≡ Some false
value_of_negated = refl

value_of_undecided : value_of two_decisions 5 ≡ Some true
value_of_undecided = refl

value_of_unassigned : value_of two_decisions 6 ≡ None
value_of_unassigned = refl

value_past_all_variables : value_of two_decisions 8 ≡ None
value_past_all_variables = refl

value_of_largest_variable : value_of two_decisions 4294967295 ≡ None
value_of_largest_variable = refl

-- The truth of a literal: whether it was assigned, where its variable was. A body that tells that of the complement says Some false of 0 and 9, and
-- Some true of 1 and 8; then a clause whose literals are all false is taken for one with a true literal.
truth_of_decided : truth_of two_decisions 0 ≡ Some true
truth_of_decided = refl

truth_of_its_complement : truth_of two_decisions 1 ≡ Some false
truth_of_its_complement = refl

truth_of_negated : truth_of two_decisions 9 ≡ Some true
truth_of_negated = refl

truth_of_the_negated_variable : truth_of two_decisions 8 ≡ Some false
truth_of_the_negated_variable = refl

truth_of_unassigned : truth_of two_decisions 12 ≡ None
truth_of_unassigned = refl

-- Levels: how many decisions stood, a decision counting itself. A body that doesn't count it says 0 of variable 0 and of all others.
level_of_decided : level_of two_decisions 0 ≡ Some 1
level_of_decided = refl

level_of_variable_1 : level_of two_decisions 1 ≡ Some 1
level_of_variable_1 = refl

level_of_variable_2 : level_of two_decisions 2 ≡ Some 1
level_of_variable_2 = refl

level_of_variable_3 : level_of two_decisions 3 ≡ Some 1
level_of_variable_3 = refl

level_of_second_decision : level_of two_decisions 4 ≡ Some 2
level_of_second_decision = refl

level_of_undecided : level_of two_decisions 5 ≡ Some 0
level_of_undecided = refl

level_of_unassigned : level_of two_decisions 6 ≡ None
level_of_unassigned = refl

level_past_all_variables : level_of two_decisions 8 ≡ None
level_past_all_variables = refl

level_of_largest_variable : level_of two_decisions 4294967295 ≡ None
level_of_largest_variable = refl

-- Reasons: the clause from which a literal follows. A body that names the first clause each time says Some 0 of variables 2, 3 and 5.
reason_of_decided : reason_of two_decisions 0 ≡ None
reason_of_decided = refl

reason_of_variable_1 : reason_of two_decisions 1 ≡ Some 0
reason_of_variable_1 = refl

reason_of_variable_2 : reason_of two_decisions 2 ≡ Some 1
reason_of_variable_2 = refl

reason_of_variable_3 : reason_of two_decisions 3 ≡ Some 2
reason_of_variable_3 = refl

reason_of_second_decision : reason_of two_decisions 4 ≡ None
reason_of_second_decision = refl

reason_of_undecided : reason_of two_decisions 5 ≡ Some 3
reason_of_undecided = refl

reason_of_unassigned : reason_of two_decisions 6 ≡ None
reason_of_unassigned = refl

reason_past_all_variables : reason_of two_decisions 8 ≡ None
reason_past_all_variables = refl

reason_of_largest_variable : reason_of two_decisions 4294967295 ≡ None
reason_of_largest_variable = refl

-- Going back keeps the first so many decisions, with what came up to the next one.
back_to_as_many : literals_of (up_to 3 three_decisions) ≡ 12 ∷ 10 ∷ 0 ∷ 2 ∷ 4 ∷ 6 ∷ 9 ∷ []
back_to_as_many = refl

-- A body that keeps one decision too many keeps 9 here,
back_to_two : up_to 2 three_decisions ≡ decided 12 ∷ follows 10 3 ∷ decided 0 ∷ follows 2 0 ∷ follows 4 1 ∷ follows 6 2 ∷ []
back_to_two = refl

-- and here all up to 6.
back_to_one : up_to 1 three_decisions ≡ decided 12 ∷ follows 10 3 ∷ []
back_to_one = refl

back_to_none : up_to 0 three_decisions ≡ []
back_to_none = refl

-- what follows from no decision stays
back_to_none_keeps_undecided : up_to 0 two_decisions ≡ follows 10 3 ∷ []
back_to_none_keeps_undecided = refl

value_that_was_taken_back : value_of (up_to 1 three_decisions) 0 ≡ None
value_that_was_taken_back = refl

level_that_was_taken_back : level_of (up_to 1 three_decisions) 2 ≡ None
level_that_was_taken_back = refl

reason_that_was_taken_back : reason_of (up_to 1 three_decisions) 2 ≡ None
reason_that_was_taken_back = refl

value_that_stays : value_of (up_to 1 three_decisions) 5 ≡ Some true
value_that_stays = refl

level_that_stays : level_of (up_to 1 three_decisions) 5 ≡ Some 1
level_that_stays = refl

reason_that_stays : reason_of (up_to 1 three_decisions) 5 ≡ Some 3
reason_that_stays = refl

-- A clause that is learnt has the number after the last, and its literals stand once.
learnt_clause_is_last : implications ++ clause_of (1 ∷ 13 ∷ 1 ∷ []) ∷ [] ≡ (1 ∷ 2 ∷ []) ∷ (3 ∷ 4 ∷ []) ∷ (1 ∷ 5 ∷ 6 ∷ []) ∷ (10 ∷ []) ∷ (1 ∷ 13 ∷ []) ∷ []
learnt_clause_is_last = refl

-- Then variable 0 doesn't hold, by clause 4, where variable 6 is decided.
abbrev after_learning : List Step
after_learning = decided 12 ∷ follows 10 3 ∷ follows 1 4 ∷ []

value_by_learnt_clause : value_of after_learning 0 ≡ Some false
value_by_learnt_clause = refl

level_by_learnt_clause : level_of after_learning 0 ≡ Some 1
level_by_learnt_clause = refl

reason_by_learnt_clause : reason_of after_learning 0 ≡ Some 4
reason_by_learnt_clause = refl

value_that_follows_no_more : value_of after_learning 1 ≡ None
value_that_follows_no_more = refl

level_that_follows_no_more : level_of after_learning 1 ≡ None
level_that_follows_no_more = refl

reason_that_follows_no_more : reason_of after_learning 1 ≡ None
reason_that_follows_no_more = refl
