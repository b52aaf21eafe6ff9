-- Runs of methods with two `int32` parameters: their events, the gap of each, and how they end.
use Rattle.std.proofs.Common.{◌≡◌, List, [], ◌∷◌, ◌++◌, map, Bool, false, true, ℕ, zero, suc, ◌-◌, Ok, Some, codes, pos, neg_ℤ, refl}
use Rattle.std.specs.Fmt.{digits}
use Rattle.px_program.specs.declared.instr.Code.{Code}
use Rattle.px_program.specs.declared.instr.Test.{Test}
use Rattle.px_program.specs.declared.instr.Test.TheVariants.{Eq, Ne, Gt, Ge, Lt, Le}
use Rattle.px_program.specs.declared.program.Place.TheVariants.{I4}
use Rattle.px_program.specs.declared.program.Program.{Program}
use Rattle.px_program.specs.declared.record.Bounds.{Bounds}
use Rattle.px_program.specs.declared.record.End.TheVariants.{Returned, StepBound}
use Rattle.px_program.specs.declared.record.Event.{Event}
use Rattle.px_program.specs.declared.record.SiteKind.TheVariants.{Branch}
use Rattle.px_program.specs.declared.record.Value.TheVariants.{Number}
use Rattle.px_program.specs.Alone.{alone}
use Rattle.px_rank.specs.Distance.{distance_of, gap_of}
use Rattle.px_words.specs.Word.{word}
use Rattle.px_domain.specs.declared.domain.Part.{Part}
use Rattle.px_domain.specs.declared.domain.Part.TheVariants.{Scalar}
use Rattle.px_domain.specs.Grammar.{domain_of, groups_at, part_at, group_at, scalar_at, range_at, span_at, number_at}
use Rattle.px_facts_run.proofs.Givens.{integers}
use Rattle.px_interp.specs.Run.{Course, course_of}
use Rattle.px_interp.specs.Table.{run}
use Rattle.px_facts_run.proofs.Methods.{Sized, add, br, branch_on, brfalse, brtrue, instance_of, laid_from, ldarg, ldc, method_of, nop, ret, sub}

-- HOW RUNS ARE WRITTEN

abbrev of_two_bytes : Code → Sized
of_two_bytes code = (2, code)

-- the program of a method whose instructions have two bytes each
abbrev program_of : List Code → Program
program_of rows = alone [] (method_of (I4 ∷ I4 ∷ []) (laid_from 0 (map of_two_bytes rows)))

-- the whole domain
abbrev all_int32 : Part
all_int32 = Scalar I4 (neg_ℤ (pos 2147483648)) (pos 2147483647)

abbrev whole : List Part
whole = all_int32 ∷ all_int32 ∷ []

-- so many steps at most
abbrev within : ℕ → Bounds
within steps = record { steps = steps; depth = 1; length = 1 }

-- a side of the branch at an offset
abbrev branch : ℕ → ℕ → Event
branch offset side = record { site = record { method = 0; offset = offset; kind = Branch; arity = 2 }; side = side }

-- a run that returns a number
abbrev returns : ℕ → List Event → List ℕ → Course
returns n events gaps = record { events = events; gaps = gaps; end = Some (Returned (Number n)) }

-- a run that comes to its bound
abbrev is_cut : List Event → List ℕ → Course
is_cut events gaps = record { events = events; gaps = gaps; end = Some StepBound }

whole_read : domain_of (integers (I4 ∷ I4 ∷ [])) (codes "(*)(*)") ≡ Ok whole
unfolding domain_of groups_at part_at group_at scalar_at range_at digits
whole_read = refl

-- COMPARISONS AT THE ENDS OF THE RANGE

abbrev least : ℕ
least = 0x8000_0000

abbrev greatest : ℕ
greatest = 0x7fff_ffff

abbrev ones : ℕ
ones = 0xffff_ffff

-- compares the arguments, and returns 1 where the branch jumps and 0 where it falls through
abbrev compares : Test → Bool → Program
compares test signed = program_of (ldarg 0 ∷ ldarg 1 ∷ branch_on test signed 10 ∷ ldc 0 ∷ ret ∷ ldc 1 ∷ ret ∷ [])

-- the run that took this side of its branch, with this gap
abbrev took : ℕ → ℕ → Course
took side gap = returns side (branch 4 side ∷ []) (gap ∷ [])

-- `beq`
eq_of_0_and_7 : course_of (compares Eq true) whole (within 9) (0 ∷ 7 ∷ []) ≡ took 0 7
unfolding run word gap_of distance_of
eq_of_0_and_7 = refl

eq_of_7_and_7 : course_of (compares Eq true) whole (within 9) (7 ∷ 7 ∷ []) ≡ took 1 1
unfolding run word gap_of distance_of
eq_of_7_and_7 = refl

eq_of_ends : course_of (compares Eq true) whole (within 9) (least ∷ greatest ∷ []) ≡ took 0 ones
unfolding run word gap_of distance_of
eq_of_ends = refl

-- `bne.un`
ne_of_0_and_0 : course_of (compares Ne false) whole (within 9) (0 ∷ 0 ∷ []) ≡ took 0 1
unfolding run word gap_of distance_of
ne_of_0_and_0 = refl

ne_of_0_and_ones : course_of (compares Ne false) whole (within 9) (0 ∷ ones ∷ []) ≡ took 1 ones
unfolding run word gap_of distance_of
ne_of_0_and_ones = refl

-- `bgt` and `bgt.un`. A body that compares the arguments the other way takes the other side.
gt_of_greatest_and_least : course_of (compares Gt true) whole (within 9) (greatest ∷ least ∷ []) ≡ took 1 ones
unfolding run word gap_of distance_of
gt_of_greatest_and_least = refl

gt_of_least_and_greatest : course_of (compares Gt true) whole (within 9) (least ∷ greatest ∷ []) ≡ took 0 0x1_0000_0000
unfolding run word gap_of distance_of
gt_of_least_and_greatest = refl

gt_of_ones_and_0 : course_of (compares Gt false) whole (within 9) (ones ∷ 0 ∷ []) ≡ took 1 ones
unfolding run word gap_of distance_of
gt_of_ones_and_0 = refl

gt_of_0_and_ones : course_of (compares Gt false) whole (within 9) (0 ∷ ones ∷ []) ≡ took 0 0x1_0000_0000
unfolding run word gap_of distance_of
gt_of_0_and_ones = refl

gt_of_neighbours : course_of (compares Gt false) whole (within 9) (least ∷ greatest ∷ []) ≡ took 1 1
unfolding run word gap_of distance_of
gt_of_neighbours = refl

-- `bge` and `bge.un`
ge_of_least_and_least : course_of (compares Ge true) whole (within 9) (least ∷ least ∷ []) ≡ took 1 1
unfolding run word gap_of distance_of
ge_of_least_and_least = refl

ge_of_least_and_greatest : course_of (compares Ge true) whole (within 9) (least ∷ greatest ∷ []) ≡ took 0 ones
unfolding run word gap_of distance_of
ge_of_least_and_greatest = refl

ge_of_0_and_ones : course_of (compares Ge false) whole (within 9) (0 ∷ ones ∷ []) ≡ took 0 ones
unfolding run word gap_of distance_of
ge_of_0_and_ones = refl

ge_of_ones_and_ones : course_of (compares Ge false) whole (within 9) (ones ∷ ones ∷ []) ≡ took 1 1
unfolding run word gap_of distance_of
ge_of_ones_and_ones = refl

-- `blt` and `blt.un`
lt_of_least_and_greatest : course_of (compares Lt true) whole (within 9) (least ∷ greatest ∷ []) ≡ took 1 ones
unfolding run word gap_of distance_of
lt_of_least_and_greatest = refl

lt_of_greatest_and_least : course_of (compares Lt true) whole (within 9) (greatest ∷ least ∷ []) ≡ took 0 0x1_0000_0000
unfolding run word gap_of distance_of
lt_of_greatest_and_least = refl

lt_of_3_and_3 : course_of (compares Lt true) whole (within 9) (3 ∷ 3 ∷ []) ≡ took 0 1
unfolding run word gap_of distance_of
lt_of_3_and_3 = refl

lt_of_neighbours : course_of (compares Lt false) whole (within 9) (greatest ∷ least ∷ []) ≡ took 1 1
unfolding run word gap_of distance_of
lt_of_neighbours = refl

-- `ble` and `ble.un`
le_of_greatest_and_greatest : course_of (compares Le true) whole (within 9) (greatest ∷ greatest ∷ []) ≡ took 1 1
unfolding run word gap_of distance_of
le_of_greatest_and_greatest = refl

le_of_greatest_and_least : course_of (compares Le true) whole (within 9) (greatest ∷ least ∷ []) ≡ took 0 ones
unfolding run word gap_of distance_of
le_of_greatest_and_least = refl

le_of_ones_and_0 : course_of (compares Le false) whole (within 9) (ones ∷ 0 ∷ []) ≡ took 0 ones
unfolding run word gap_of distance_of
le_of_ones_and_0 = refl

le_of_0_and_ones : course_of (compares Le false) whole (within 9) (0 ∷ ones ∷ []) ≡ took 1 0x1_0000_0000
unfolding run word gap_of distance_of
le_of_0_and_ones = refl

-- PATHS, GAPS AND ENDS

-- whether the first argument is 7
abbrev is_seven : Program
is_seven = program_of (ldarg 0 ∷ ldc 7 ∷ branch_on Eq true 10 ∷ ldc 0 ∷ ret ∷ ldc 1 ∷ ret ∷ [])

-- A body that drops the events has none here. One whose gaps are 1 less has 6.
-- One that halves constants has the gap 3, and one that takes its site from what follows the branch has it at 6.
seven_at_0 : course_of is_seven whole (within 9) (0 ∷ 0 ∷ []) ≡ returns 0 (branch 4 0 ∷ []) (7 ∷ [])
unfolding run word gap_of distance_of
seven_at_0 = refl

-- A body that goes the other way at a branch returns 0.
seven_at_7 : course_of is_seven whole (within 9) (7 ∷ 0 ∷ []) ≡ returns 1 (branch 4 1 ∷ []) (1 ∷ [])
unfolding run word gap_of distance_of
seven_at_7 = refl

-- 21 where the first argument isn't 0, and else 20
abbrev if_true : Program
if_true = program_of (ldarg 0 ∷ brtrue 8 ∷ ldc 20 ∷ ret ∷ ldc 21 ∷ ret ∷ [])

-- A body whose `brtrue` is `brfalse` takes the other side in each.
brtrue_on_0 : course_of if_true whole (within 9) (0 ∷ 9 ∷ []) ≡ returns 20 (branch 2 0 ∷ []) (1 ∷ [])
unfolding run word gap_of distance_of
brtrue_on_0 = refl

brtrue_on_1 : course_of if_true whole (within 9) (1 ∷ 9 ∷ []) ≡ returns 21 (branch 2 1 ∷ []) (1 ∷ [])
unfolding run word gap_of distance_of
brtrue_on_1 = refl

brtrue_on_minus_1 : course_of if_true whole (within 9) (ones ∷ 9 ∷ []) ≡ returns 21 (branch 2 1 ∷ []) (1 ∷ [])
unfolding run word gap_of distance_of
brtrue_on_minus_1 = refl

brtrue_on_5 : course_of if_true whole (within 9) (5 ∷ 9 ∷ []) ≡ returns 21 (branch 2 1 ∷ []) (5 ∷ [])
unfolding run word gap_of distance_of
brtrue_on_5 = refl

-- 21 where the first argument is 0, and else 20
abbrev if_false : Program
if_false = program_of (ldarg 0 ∷ brfalse 8 ∷ ldc 20 ∷ ret ∷ ldc 21 ∷ ret ∷ [])

brfalse_on_0 : course_of if_false whole (within 9) (0 ∷ 9 ∷ []) ≡ returns 21 (branch 2 1 ∷ []) (1 ∷ [])
unfolding run word gap_of distance_of
brfalse_on_0 = refl

brfalse_on_1 : course_of if_false whole (within 9) (1 ∷ 9 ∷ []) ≡ returns 20 (branch 2 0 ∷ []) (1 ∷ [])
unfolding run word gap_of distance_of
brfalse_on_1 = refl

brfalse_on_minus_2 : course_of if_false whole (within 9) ((ones - 1) ∷ 9 ∷ []) ≡ returns 20 (branch 2 0 ∷ []) (2 ∷ [])
unfolding run word gap_of distance_of
brfalse_on_minus_2 = refl

-- loops while the first argument isn't 0
abbrev loops : Program
loops = program_of (ldarg 0 ∷ brtrue 0 ∷ ldc 3 ∷ ret ∷ [])

a_loop_that_is_left : course_of loops whole (within 5) (0 ∷ 0 ∷ []) ≡ returns 3 (branch 2 0 ∷ []) (1 ∷ [])
unfolding run word gap_of distance_of
a_loop_that_is_left = refl

a_loop_to_the_bound : course_of loops whole (within 5) (1 ∷ 0 ∷ []) ≡ is_cut (branch 2 1 ∷ branch 2 1 ∷ []) (1 ∷ 1 ∷ [])
unfolding run word gap_of distance_of
a_loop_to_the_bound = refl

abbrev sum : Program
sum = program_of (ldarg 0 ∷ ldarg 1 ∷ add ∷ ret ∷ [])

abbrev difference : Program
difference = program_of (ldarg 0 ∷ ldarg 1 ∷ sub ∷ ret ∷ [])

-- A run takes as many steps as it may, and no more.
no_steps : course_of sum whole (within 0) (1 ∷ 2 ∷ []) ≡ is_cut [] []
unfolding run word gap_of distance_of
no_steps = refl

a_step_too_few : course_of sum whole (within 3) (1 ∷ 2 ∷ []) ≡ is_cut [] []
unfolding run word gap_of distance_of
a_step_too_few = refl

-- A body that takes a step less comes to its bound.
-- One that takes the difference for the sum returns 0xffff_ffff.
as_many_steps_as_needed : course_of sum whole (within 4) (1 ∷ 2 ∷ []) ≡ returns 3 [] []
unfolding run word gap_of distance_of
as_many_steps_as_needed = refl

-- Sums and differences wrap.
a_sum_that_wraps : course_of sum whole (within 4) (ones ∷ 2 ∷ []) ≡ returns 1 [] []
unfolding run word gap_of distance_of
a_sum_that_wraps = refl

a_difference : course_of difference whole (within 4) (5 ∷ 3 ∷ []) ≡ returns 2 [] []
unfolding run word gap_of distance_of
a_difference = refl

a_difference_that_wraps : course_of difference whole (within 4) (0 ∷ 1 ∷ []) ≡ returns ones [] []
unfolding run word gap_of distance_of
a_difference_that_wraps = refl

-- goes over a part of its code
abbrev skips : Program
skips = program_of (nop ∷ br 8 ∷ ldc 0 ∷ ret ∷ nop ∷ ldarg 1 ∷ ret ∷ [])

-- A body to which `br` goes on to the next instruction returns 0.
nop_and_br : course_of skips whole (within 5) (1 ∷ 2 ∷ []) ≡ returns 2 [] []
unfolding run word gap_of distance_of
nop_and_br = refl

-- MANY INSTRUCTIONS

-- so many times 1 is added
abbrev ones_added : ℕ → List Code
ones_added zero = []
ones_added (suc n) = ldc 1 ∷ add ∷ ones_added n

-- 9 where the second argument isn't 0, and else the first with 1 added to it a hundred times
abbrev hundred_added : Program
hundred_added = program_of ((ldarg 1 ∷ brtrue 408 ∷ ldarg 0 ∷ []) ++ (ones_added 100 ++ (ret ∷ ldc 9 ∷ ret ∷ [])))

through_all : course_of hundred_added whole (within 204) (5 ∷ 0 ∷ []) ≡ returns 105 (branch 2 0 ∷ []) (1 ∷ [])
unfolding run word gap_of distance_of
through_all = refl

a_step_too_few_for_all : course_of hundred_added whole (within 203) (5 ∷ 0 ∷ []) ≡ is_cut (branch 2 0 ∷ []) (1 ∷ [])
unfolding run word gap_of distance_of
a_step_too_few_for_all = refl

over_most : course_of hundred_added whole (within 4) (5 ∷ 1 ∷ []) ≡ returns 9 (branch 2 1 ∷ []) (1 ∷ [])
unfolding run word gap_of distance_of
over_most = refl

-- A RECEIVER

-- the program of an instance method of `String`, whose first argument is its receiver
abbrev in_string : List Code → Program
in_string rows = alone [] (instance_of 17 (I4 ∷ I4 ∷ []) (laid_from 0 (map of_two_bytes rows)))

-- The words are those of the parameters after it. A body that gives the first word to the receiver returns 7 for 5, and then gets stuck.
first_after_the_receiver : course_of (in_string (ldarg 1 ∷ ret ∷ [])) whole (within 9) (5 ∷ 7 ∷ []) ≡ returns 5 [] []
unfolding run
first_after_the_receiver = refl

last_after_the_receiver : course_of (in_string (ldarg 2 ∷ ret ∷ [])) whole (within 9) (5 ∷ 7 ∷ []) ≡ returns 7 [] []
unfolding run
last_after_the_receiver = refl
