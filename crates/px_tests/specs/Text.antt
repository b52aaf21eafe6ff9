-- The text of a report: a line each for the input, the domain, the bounds, the limits, every test, the verdict and the counts.
use Rattle.std.specs.Prelude.{ℕ, zero, suc, List, [], ◌∷◌, ◌++◌, codes, decimal, length, count_by, Bool, true, false, Option, Some, None, slice_get}
use Rattle.std.specs.List.{flat_map}
use Rattle.px_domain.specs.declared.domain.Part.{Part}
use Rattle.px_domain.specs.Text.{args_text, domain_text}
use Rattle.px_io.specs.Pieces.{name_text}
use Rattle.px_program.specs.declared.program.Program.{Program}
use Rattle.px_program.specs.declared.record.Bounds.{Bounds}
use Rattle.px_program.specs.declared.record.End.{End}
use Rattle.px_program.specs.declared.record.End.TheVariants as ends
use Rattle.px_program.specs.declared.record.Event.{Event}
use Rattle.px_program.specs.declared.record.Limits.{Limits}
use Rattle.px_program.specs.declared.record.Record.{Record}
use Rattle.px_program.specs.declared.record.SiteKind.{SiteKind}
use Rattle.px_program.specs.declared.record.SiteKind.TheVariants as kinds
use Rattle.px_tests.specs.declared.findings.Findings.{Findings}
use Rattle.px_tests.specs.declared.findings.Input.{Input}
use Rattle.px_tests.specs.declared.findings.Input.TheVariants.{Raw, Method}
use Rattle.px_tests.specs.Ends.{end_text}

abbrev pub kind_text : SiteKind → List ℕ
kind_text kinds.Shape = codes "P"
kind_text kinds.Branch = codes "B"
kind_text kinds.Switch = codes "S"
kind_text kinds.Bounds = codes "N"
kind_text kinds.Zero = codes "Z"
kind_text kinds.Overflow = codes "V"
kind_text kinds.Length = codes "L"
kind_text kinds.Index = codes "I"
kind_text kinds.Assume = codes "U"
kind_text kinds.Assert = codes "T"

-- METHOD:OFFSET:KIND:SIDE
abbrev pub event_text : Event → List ℕ
event_text e = decimal e.site.method ++ (codes ":" ++ (decimal e.site.offset ++ (codes ":" ++ (kind_text e.site.kind ++ (codes ":" ++ (decimal e.side ++ []))))))

abbrev pub comma_event_text : Event → List ℕ
comma_event_text e = codes "," ++ event_text e

abbrev pub path_text : List Event → List ℕ
path_text [] = codes "-"
path_text (e ∷ es) = event_text e ++ flat_map comma_event_text es

unfoldable pub test_head : ℕ → List ℕ
test_head n = codes "test " ++ (decimal n ++ (codes " args " ++ []))

unfoldable pub path_part : List Event → List ℕ
path_part events = codes " path " ++ path_text events

unfoldable pub end_part : Program → End → List ℕ
end_part program end = codes " end " ++ (end_text program end ++ codes "\n")

-- the line of a test
abbrev pub test_text : Program → List Part → ℕ → Record → List ℕ
test_text program domain n r = test_head n ++ (args_text domain r.words ++ (path_part r.events ++ end_part program r.end))

abbrev pub test_at : Program → List Part → ℕ → Option Record → List ℕ
test_at program domain n None = []
test_at program domain n (Some r) = test_text program domain n r

-- the lines of the first n tests
abbrev pub tests_text : Program → List Part → List Record → ℕ → List ℕ
tests_text program domain records zero = []
tests_text program domain records (suc n) = tests_text program domain records n ++ test_at program domain n (slice_get records n)

-- the run was cut by a bound
abbrev pub is_bounded : End → Bool
is_bounded (ends.Returned value) = false
is_bounded (ends.Threw class) = false
is_bounded ends.AssertFailed = false
is_bounded ends.Assumed = false
is_bounded ends.StepBound = true
is_bounded ends.DepthBound = true
is_bounded ends.HeapBound = true
is_bounded (ends.Outside method at) = false

abbrev pub is_outside : End → Bool
is_outside (ends.Returned value) = false
is_outside (ends.Threw class) = false
is_outside ends.AssertFailed = false
is_outside ends.Assumed = false
is_outside ends.StepBound = false
is_outside ends.DepthBound = false
is_outside ends.HeapBound = false
is_outside (ends.Outside method at) = true

abbrev pub is_failing : End → Bool
is_failing (ends.Returned value) = false
is_failing (ends.Threw class) = true
is_failing ends.AssertFailed = true
is_failing ends.Assumed = false
is_failing ends.StepBound = false
is_failing ends.DepthBound = false
is_failing ends.HeapBound = false
is_failing (ends.Outside method at) = false

unfoldable pub raw_text : List ℕ → List ℕ
raw_text params = codes "pex report 1\ninput raw " ++ (params ++ (codes "\ndomain " ++ []))

unfoldable pub method_text : List ℕ → List ℕ
method_text name = codes "pex report 1\ninput method " ++ (name_text name ++ (codes "\ndomain " ++ []))

-- the first two lines, and the next up to the domain
abbrev pub input_text : Input → List ℕ
input_text (Raw params) = raw_text params
input_text (Method name) = method_text name

unfoldable pub bounds_text : Bounds → List ℕ
bounds_text b = codes "\nbounds steps " ++ (decimal b.steps ++ (codes " depth " ++ (decimal b.depth ++ (codes " length " ++ (decimal b.length ++ (codes "\n" ++ []))))))

unfoldable pub limits_text : Limits → List ℕ
limits_text l = codes "limits runs " ++ (decimal l.runs ++ (codes " spent " ++ (decimal l.spent ++ (codes " conflicts " ++ (decimal l.conflicts ++ (codes "\n" ++ []))))))

-- No side is listed, so the verdict is that the domain is exhausted. The sides that no test takes are refuted.
unfoldable pub counts_line : ℕ → ℕ → ℕ → ℕ → ℕ → List ℕ
counts_line tests refuted bounded outside failing =
    codes "exhausted\ntests " ++ (decimal tests ++ (codes " refuted " ++ (decimal refuted ++ (codes " spent 0 untried 0 bounded " ++ (decimal bounded
    ++ (codes " outside " ++ (decimal outside ++ (codes " failing " ++ (decimal failing ++ (codes "\n" ++ []))))))))))

abbrev pub counts_text : List Record → ℕ → List ℕ
counts_text records refuted =
    counts_line (length records) refuted (count_by (λ r. is_bounded r.end) records) (count_by (λ r. is_outside r.end) records) (count_by (λ r. is_failing r.end) records)

-- the whole text
unfoldable pub text_of : Program → Input → Findings → List ℕ
text_of program input f =
    input_text input ++ (domain_text f.domain ++ (bounds_text f.bounds ++ (limits_text f.limits ++ (tests_text program f.domain f.records (length f.records) ++ counts_text f.records f.refuted))))
