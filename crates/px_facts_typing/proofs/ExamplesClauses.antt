-- Which clause handles an exception, and which one a jump runs.
use Rattle.std.proofs.Common.{◌≡◌, ℕ, List, [], ◌∷◌, Option, Some, None, true, refl}
use Rattle.px_program.specs.Alone.{alone}
use Rattle.px_program.specs.declared.program.Clause.{Clause}
use Rattle.px_program.specs.declared.program.ClauseKind.{ClauseKind}
use Rattle.px_program.specs.declared.program.ClauseKind.TheVariants as kinds
use Rattle.px_program.specs.declared.program.Method.{Method}
use Rattle.px_unwind.specs.Clauses.{exit_in, handler_in}

-- a clause for a range, whose block isn't asked for
over : ClauseKind → ℕ → ℕ → Option ℕ → Clause
over kind from to class = record { kind = kind; from = from; to = to; start = 20; stop = 21; class = class }

-- a method with these clauses
method_of : List Clause → Method
method_of clauses = record { name = []; owner = 0; is_static = true; params = []; ret = None; locals = []; max_stack = 8; code = []; clauses = clauses }

-- the handler of an exception; among the types of the library 4 is DivideByZeroException and 5 OverflowException, both on 3, ArithmeticException, which is on
-- 2, SystemException
handler : List Clause → ℕ → ℕ → ℕ → Option ℕ
handler clauses at after class = handler_in (alone [] (method_of clauses)) 0 at after class

-- the clause that a jump runs
exit : List Clause → ℕ → ℕ → ℕ → Option ℕ
exit clauses from to after = exit_in (method_of clauses) from to after

-- CLASSES

caught_by_its_class : handler (over kinds.Catch 2 6 (Some 4) ∷ []) 3 0 4 ≡ Some 0
unfolding handler method_of over
caught_by_its_class = refl

-- a body that takes equal classes alone would find none
caught_by_a_base : handler (over kinds.Catch 2 6 (Some 2) ∷ []) 3 0 4 ≡ Some 0
unfolding handler method_of over
caught_by_a_base = refl

-- a body that asks whether what is caught is of the class would find it
not_by_a_derived_class : handler (over kinds.Catch 2 6 (Some 4) ∷ []) 3 0 3 ≡ None
unfolding handler method_of over
not_by_a_derived_class = refl

not_by_another_class : handler (over kinds.Catch 2 6 (Some 5) ∷ []) 3 0 4 ≡ None
unfolding handler method_of over
not_by_another_class = refl

not_by_no_known_class : handler (over kinds.Catch 2 6 None ∷ []) 3 0 4 ≡ None
unfolding handler method_of over
not_by_no_known_class = refl

-- KINDS

filter_handles : handler (over kinds.Filter 2 6 None ∷ []) 3 0 4 ≡ Some 0
unfolding handler method_of over
filter_handles = refl

finally_handles : handler (over kinds.Finally 2 6 None ∷ []) 3 0 4 ≡ Some 0
unfolding handler method_of over
finally_handles = refl

fault_handles : handler (over kinds.Fault 2 6 None ∷ []) 3 0 4 ≡ Some 0
unfolding handler method_of over
fault_handles = refl

-- RANGES

held_at_the_start : handler (over kinds.Finally 2 6 None ∷ []) 2 0 4 ≡ Some 0
unfolding handler method_of over
held_at_the_start = refl

not_held_before : handler (over kinds.Finally 2 6 None ∷ []) 1 0 4 ≡ None
unfolding handler method_of over
not_held_before = refl

-- a body whose ranges include their ends would find it
not_held_at_the_end : handler (over kinds.Finally 2 6 None ∷ []) 6 0 4 ≡ None
unfolding handler method_of over
not_held_at_the_end = refl

-- NUMBERS

first_of_two : handler (over kinds.Finally 2 6 None ∷ over kinds.Catch 0 9 (Some 4) ∷ []) 3 0 4 ≡ Some 0
unfolding handler method_of over
first_of_two = refl

-- a body that ignores where it begins would find the first again
second_from_there_on : handler (over kinds.Finally 2 6 None ∷ over kinds.Catch 0 9 (Some 4) ∷ []) 3 1 4 ≡ Some 1
unfolding handler method_of over
second_from_there_on = refl

none_from_there_on : handler (over kinds.Finally 2 6 None ∷ over kinds.Catch 0 9 (Some 4) ∷ []) 3 2 4 ≡ None
unfolding handler method_of over
none_from_there_on = refl

-- a body that counts only those that it meets would say 0
others_are_counted : handler (over kinds.Catch 2 6 (Some 5) ∷ over kinds.Catch 2 6 (Some 4) ∷ []) 3 0 4 ≡ Some 1
unfolding handler method_of over
others_are_counted = refl

no_such_method : handler_in (alone [] (method_of (over kinds.Finally 2 6 None ∷ []))) 1 3 0 4 ≡ None
unfolding method_of over
no_such_method = refl

-- EXITS: the first clause is inside the second

inner_first : exit (over kinds.Finally 3 5 None ∷ over kinds.Finally 1 8 None ∷ []) 4 9 0 ≡ Some 0
unfolding exit method_of over
inner_first = refl

-- a body that ignores where it begins would find the inner one again
outer_second : exit (over kinds.Finally 3 5 None ∷ over kinds.Finally 1 8 None ∷ []) 4 9 1 ≡ Some 1
unfolding exit method_of over
outer_second = refl

no_third : exit (over kinds.Finally 3 5 None ∷ over kinds.Finally 1 8 None ∷ []) 4 9 2 ≡ None
unfolding exit method_of over
no_third = refl

stays_in_the_outer : exit (over kinds.Finally 3 5 None ∷ over kinds.Finally 1 8 None ∷ []) 4 6 1 ≡ None
unfolding exit method_of over
stays_in_the_outer = refl

stays_in_both : exit (over kinds.Finally 3 5 None ∷ over kinds.Finally 1 8 None ∷ []) 4 3 0 ≡ None
unfolding exit method_of over
stays_in_both = refl

leaves_the_outer_alone : exit (over kinds.Finally 3 5 None ∷ over kinds.Finally 1 8 None ∷ []) 6 9 0 ≡ Some 1
unfolding exit method_of over
leaves_the_outer_alone = refl

-- a jump into a range isn't one out of it
enters : exit (over kinds.Finally 3 5 None ∷ []) 0 4 0 ≡ None
unfolding exit method_of over
enters = refl

-- a body whose ranges include their ends would find none
leaves_to_the_end : exit (over kinds.Finally 3 5 None ∷ []) 4 5 0 ≡ Some 0
unfolding exit method_of over
leaves_to_the_end = refl

-- .. and here it would find one
begins_at_the_end : exit (over kinds.Finally 3 5 None ∷ []) 5 6 0 ≡ None
unfolding exit method_of over
begins_at_the_end = refl

-- only finally blocks run where nothing is thrown
catch_is_no_exit : exit (over kinds.Catch 3 5 (Some 4) ∷ []) 4 9 0 ≡ None
unfolding exit method_of over
catch_is_no_exit = refl

filter_is_no_exit : exit (over kinds.Filter 3 5 None ∷ []) 4 9 0 ≡ None
unfolding exit method_of over
filter_is_no_exit = refl

fault_is_no_exit : exit (over kinds.Fault 3 5 None ∷ []) 4 9 0 ≡ None
unfolding exit method_of over
fault_is_no_exit = refl
