-- Whole reports, line by line.
use Rattle.std.proofs.Common.{◌≡◌, List, [], ◌∷◌, ◌++◌, map, true, ℕ, codes, pos, neg_ℤ, refl}
use Rattle.std.specs.Fmt.{digits}
use Rattle.px_program.specs.declared.instr.Code.TheVariants.{Outside}
use Rattle.px_program.specs.declared.instr.Test.TheVariants.{Eq}
use Rattle.px_program.specs.declared.program.Place.{Place}
use Rattle.px_program.specs.declared.program.Place.TheVariants.{I4, U1}
use Rattle.px_program.specs.declared.program.Program.{Program}
use Rattle.px_program.specs.declared.record.Bounds.{Bounds}
use Rattle.px_program.specs.declared.record.End.{End}
use Rattle.px_program.specs.declared.record.End.TheVariants.{Returned, Threw, AssertFailed, Assumed, StepBound, DepthBound, HeapBound, Outside as OutsideAt}
use Rattle.px_program.specs.declared.record.Event.{Event}
use Rattle.px_program.specs.declared.record.Limits.{Limits}
use Rattle.px_program.specs.declared.record.Record.{Record}
use Rattle.px_program.specs.declared.record.SiteKind.{SiteKind}
use Rattle.px_program.specs.declared.record.SiteKind.TheVariants as kinds
use Rattle.px_program.specs.declared.record.Value.TheVariants.{Nothing, Number, Null, Object}
use Rattle.px_program.specs.Alone.{alone}
use Rattle.px_domain.specs.declared.domain.Part.{Part}
use Rattle.px_domain.specs.declared.domain.Part.TheVariants.{Scalar}
use Rattle.px_tests.specs.declared.findings.Findings.{Findings}
use Rattle.px_tests.specs.declared.findings.Input.TheVariants.{Raw, Method}
use Rattle.px_tests.specs.Text.{text_of, raw_text, method_text, bounds_text, limits_text, test_head, path_part, end_part, counts_line}
use Rattle.px_facts_run.proofs.Methods.{Sized, branch_on, laid_from, ldarg, ldc, method_of, ret}

-- HOW REPORTS ARE WRITTEN HERE

-- each text with a line feed after it
abbrev lines : List (List ℕ) → List ℕ
lines [] = []
lines (text ∷ texts) = text ++ 10 ∷ lines texts

abbrev program_of : List Place → List Sized → Program
program_of params code = alone [] (method_of params (laid_from 0 code))

-- the bounds and limits where no others are given
abbrev bounds : Bounds
bounds = record { steps = 2000; depth = 128; length = 16 }

abbrev limits : Limits
limits = record { runs = 1000; spent = 64; conflicts = 1000 }

abbrev event : ℕ → SiteKind → ℕ → Event
event offset kind side = record { site = record { method = 0; offset = offset; kind = kind; arity = 2 }; side = side }

abbrev run_of : List ℕ → List Event → End → Record
run_of words events end = record { words = words; events = events; gaps = map (λ event. 1) events; end = end }

abbrev findings : List Part → List Record → ℕ → Findings
findings domain records refuted = record { domain = domain; bounds = bounds; limits = limits; records = records; refuted = refuted }

-- WHETHER A NUMBER IS 7

-- `ldarg.0`, `ldc.i4.7`, `beq.s`, and 1 or 0 that is returned
abbrev is_seven : Program
is_seven = program_of (I4 ∷ []) ((1, ldarg 0) ∷ (1, ldc 7) ∷ (2, branch_on Eq true 6) ∷ (1, ldc 0) ∷ (1, ret) ∷ (1, ldc 1) ∷ (1, ret) ∷ [])

abbrev other : ℕ → Record
other word = run_of (word ∷ []) (event 2 kinds.Branch 0 ∷ []) (Returned (Number 0))

abbrev seven : Record
seven = run_of (7 ∷ []) (event 2 kinds.Branch 1 ∷ []) (Returned (Number 1))

abbrev from_0_to : ℕ → List Part
from_0_to last = Scalar I4 (pos 0) (pos last) ∷ []

-- Both sides are tested.
-- A body whose tests have half their numbers has two tests of number 0.
-- One that drops the arguments has none after `args`, and one that writes the depth for the length has 128 twice.
both_sides : text_of is_seven (Raw (codes "int32")) (findings (from_0_to 9) (other 0 ∷ seven ∷ []) 0) ≡ lines (
    codes "pex report 1"
    ∷ codes "input raw int32"
    ∷ codes "domain (0..9)"
    ∷ codes "bounds steps 2000 depth 128 length 16"
    ∷ codes "limits runs 1000 spent 64 conflicts 1000"
    ∷ codes "test 0 args (0) path 0:2:B:0 end returned 0"
    ∷ codes "test 1 args (7) path 0:2:B:1 end returned 1"
    ∷ codes "exhausted"
    ∷ codes "tests 2 refuted 0 spent 0 untried 0 bounded 0 outside 0 failing 0"
    ∷ [])
unfolding text_of raw_text method_text bounds_text limits_text test_head path_part end_part counts_line digits
both_sides = refl

-- One side leads nowhere.
one_side : text_of is_seven (Raw (codes "int32")) (findings (from_0_to 5) (other 0 ∷ []) 1) ≡ lines (
    codes "pex report 1"
    ∷ codes "input raw int32"
    ∷ codes "domain (0..5)"
    ∷ codes "bounds steps 2000 depth 128 length 16"
    ∷ codes "limits runs 1000 spent 64 conflicts 1000"
    ∷ codes "test 0 args (0) path 0:2:B:0 end returned 0"
    ∷ codes "exhausted"
    ∷ codes "tests 1 refuted 1 spent 0 untried 0 bounded 0 outside 0 failing 0"
    ∷ [])
unfolding text_of raw_text method_text bounds_text limits_text test_head path_part end_part counts_line digits
one_side = refl

-- OTHER DOMAINS AND ARGUMENTS

-- returns its first argument
abbrev identity : List Place → Program
identity params = program_of params ((1, ldarg 0) ∷ (1, ret) ∷ [])

-- the least of `int32`
abbrev least : Record
least = run_of (2147483648 ∷ []) [] (Returned (Number 2147483648))

-- A range that begins at the place's low end.
-- A body that looks at the low end alone writes `(*)`.
half_a_range : text_of (identity (I4 ∷ [])) (Raw (codes "int32")) (findings (Scalar I4 (neg_ℤ (pos 2147483648)) (pos 5) ∷ []) (least ∷ []) 0) ≡ lines (
    codes "pex report 1"
    ∷ codes "input raw int32"
    ∷ codes "domain (-2147483648..5)"
    ∷ codes "bounds steps 2000 depth 128 length 16"
    ∷ codes "limits runs 1000 spent 64 conflicts 1000"
    ∷ codes "test 0 args (-2147483648) path - end returned -2147483648"
    ∷ codes "exhausted"
    ∷ codes "tests 1 refuted 0 spent 0 untried 0 bounded 0 outside 0 failing 0"
    ∷ [])
unfolding text_of raw_text method_text bounds_text limits_text test_head path_part end_part counts_line digits
half_a_range = refl

abbrev whole_places : List Part
whole_places = Scalar I4 (neg_ℤ (pos 2147483648)) (pos 2147483647) ∷ Scalar U1 (pos 0) (pos 255) ∷ []

abbrev least_of_two : Record
least_of_two = run_of (2147483648 ∷ 0 ∷ []) [] (Returned (Number 2147483648))

-- Two parameters with all numbers of their places.
two_parameters : text_of (identity (I4 ∷ U1 ∷ [])) (Raw (codes "int32,uint8")) (findings whole_places (least_of_two ∷ []) 0) ≡ lines (
    codes "pex report 1"
    ∷ codes "input raw int32,uint8"
    ∷ codes "domain (*)(*)"
    ∷ codes "bounds steps 2000 depth 128 length 16"
    ∷ codes "limits runs 1000 spent 64 conflicts 1000"
    ∷ codes "test 0 args (-2147483648)(0) path - end returned -2147483648"
    ∷ codes "exhausted"
    ∷ codes "tests 1 refuted 0 spent 0 untried 0 bounded 0 outside 0 failing 0"
    ∷ [])
unfolding text_of raw_text method_text bounds_text limits_text test_head path_part end_part counts_line digits
two_parameters = refl

-- returns 7
abbrev constant : Program
constant = program_of [] ((1, ldc 7) ∷ (1, ret) ∷ [])

-- No parameters.
no_parameters : text_of constant (Raw (codes "-")) (findings [] (run_of [] [] (Returned (Number 7)) ∷ []) 0) ≡ lines (
    codes "pex report 1"
    ∷ codes "input raw -"
    ∷ codes "domain -"
    ∷ codes "bounds steps 2000 depth 128 length 16"
    ∷ codes "limits runs 1000 spent 64 conflicts 1000"
    ∷ codes "test 0 args - path - end returned 7"
    ∷ codes "exhausted"
    ∷ codes "tests 1 refuted 0 spent 0 untried 0 bounded 0 outside 0 failing 0"
    ∷ [])
unfolding text_of raw_text method_text bounds_text limits_text test_head path_part end_part counts_line digits
no_parameters = refl

-- A method of an assembly. Odd bytes of its name are escaped.
-- A body that writes methods as raw ones has `input raw Demo.T::a b%`.
a_method : text_of constant (Method (codes "Demo.T::a b%")) (findings [] (run_of [] [] (Returned (Number 7)) ∷ []) 0) ≡ lines (
    codes "pex report 1"
    ∷ codes "input method Demo.T::a%20b%25"
    ∷ codes "domain -"
    ∷ codes "bounds steps 2000 depth 128 length 16"
    ∷ codes "limits runs 1000 spent 64 conflicts 1000"
    ∷ codes "test 0 args - path - end returned 7"
    ∷ codes "exhausted"
    ∷ codes "tests 1 refuted 0 spent 0 untried 0 bounded 0 outside 0 failing 0"
    ∷ [])
unfolding text_of raw_text method_text bounds_text limits_text test_head path_part end_part counts_line digits
a_method = refl

-- EVERY KIND OF SITE AND OF END

-- has an instruction at 1 that isn't run
abbrev stops : Program
stops = program_of [] ((1, ldc 7) ∷ (2, Outside (codes "opcode-FE-06") 0xfe06) ∷ (1, ret) ∷ [])

-- a path with a site of each kind
abbrev each_kind : List Event
each_kind =
    event 0 kinds.Shape 0
    ∷ event 1 kinds.Branch 1
    ∷ event 2 kinds.Switch 2
    ∷ event 3 kinds.Bounds 0
    ∷ event 4 kinds.Zero 1
    ∷ event 5 kinds.Overflow 0
    ∷ event 6 kinds.Length 1
    ∷ event 7 kinds.Index 3
    ∷ event 8 kinds.Assume 1
    ∷ event 9 kinds.Assert 0
    ∷ []

abbrev ended : End → Record
ended end = run_of [] [] end

abbrev each_end : List Record
each_end =
    run_of [] each_kind (Returned Nothing)
    ∷ ended (Returned (Number 0xffff_ffff))
    ∷ ended (Returned Null)
    ∷ ended (Returned Object)
    ∷ ended (Threw 4)
    ∷ ended AssertFailed
    ∷ ended Assumed
    ∷ ended StepBound
    ∷ ended DepthBound
    ∷ ended HeapBound
    ∷ ended (OutsideAt 0 1)
    ∷ []

-- A body that writes a length as an index has `0:6:I:1`, one that writes what is assumed as failed has `assert-failed` twice,
-- one that leaves out the depth has `bounded 2`, and one that writes the tests for the refuted sides has `refuted 11`.
each_kind_and_end : text_of stops (Raw (codes "-")) (findings [] each_end 5) ≡ lines (
    codes "pex report 1"
    ∷ codes "input raw -"
    ∷ codes "domain -"
    ∷ codes "bounds steps 2000 depth 128 length 16"
    ∷ codes "limits runs 1000 spent 64 conflicts 1000"
    ∷ codes "test 0 args - path 0:0:P:0,0:1:B:1,0:2:S:2,0:3:N:0,0:4:Z:1,0:5:V:0,0:6:L:1,0:7:I:3,0:8:U:1,0:9:T:0 end returned"
    ∷ codes "test 1 args - path - end returned -1"
    ∷ codes "test 2 args - path - end returned null"
    ∷ codes "test 3 args - path - end returned object"
    ∷ codes "test 4 args - path - end threw System.DivideByZeroException"
    ∷ codes "test 5 args - path - end assert-failed"
    ∷ codes "test 6 args - path - end assumed"
    ∷ codes "test 7 args - path - end step-bound"
    ∷ codes "test 8 args - path - end depth-bound"
    ∷ codes "test 9 args - path - end heap-bound"
    ∷ codes "test 10 args - path - end outside 0:1 opcode-FE-06"
    ∷ codes "exhausted"
    ∷ codes "tests 11 refuted 5 spent 0 untried 0 bounded 3 outside 1 failing 2"
    ∷ [])
unfolding text_of raw_text method_text bounds_text limits_text test_head path_part end_part counts_line digits
each_kind_and_end = refl
