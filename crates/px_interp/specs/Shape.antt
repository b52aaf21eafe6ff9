-- Two runs that begin with the same events come to the same site next, or both end, and in the same way.
use Rattle.std.specs.Prelude.{◌≡◌, ℕ, List, take, slice_get, Option, Some, None}
use Rattle.px_domain.specs.declared.domain.Part.{Part}
use Rattle.px_domain.specs.Domain.{InDomain}
use Rattle.px_program.specs.declared.program.Program.{Program}
use Rattle.px_program.specs.declared.record.Bounds.{Bounds}
use Rattle.px_program.specs.declared.record.End.{End}
use Rattle.px_program.specs.declared.record.End.TheVariants as ends
use Rattle.px_program.specs.declared.record.Event.{Event}
use Rattle.px_program.specs.declared.record.Value.{Value}
use Rattle.px_program.specs.declared.record.Value.TheVariants as values
use Rattle.px_interp.specs.Run.{course_of, path_of}

-- values of one kind; numbers may differ
abbrev pub SameValueKind : Value → Value → Type 0
SameValueKind values.Nothing values.Nothing = Unit {0}
SameValueKind (values.Number m) (values.Number n) = Unit {0}
SameValueKind values.Null values.Null = Unit {0}
SameValueKind values.Object values.Object = Unit {0}
SameValueKind _ _ = ⊥

-- ends of one kind; a returned number may differ
abbrev pub SameEndKind : End → End → Type 0
SameEndKind (ends.Returned v) (ends.Returned w) = SameValueKind v w
SameEndKind (ends.Threw a) (ends.Threw b) = a ≡ b
SameEndKind ends.AssertFailed ends.AssertFailed = Unit {0}
SameEndKind ends.Assumed ends.Assumed = Unit {0}
SameEndKind ends.StepBound ends.StepBound = Unit {0}
SameEndKind ends.DepthBound ends.DepthBound = Unit {0}
SameEndKind ends.HeapBound ends.HeapBound = Unit {0}
SameEndKind (ends.Outside m o) (ends.Outside n p) = (m ≡ n) × (o ≡ p)
SameEndKind _ _ = ⊥

abbrev pub SameEnds : Option End → Option End → Type 0
SameEnds (Some x) (Some y) = SameEndKind x y
SameEnds _ _ = ⊥

-- the next events, where both runs have one, are at one site; where neither has one, the ends are alike
abbrev pub SameNext : Option Event → Option Event → Option End → Option End → Type 0
SameNext (Some e) (Some f) x y = e.site ≡ f.site
SameNext None None x y = SameEnds x y
SameNext _ _ x y = ⊥

abbrev pub SameShape : Program → List Part → Bounds → Type 0
SameShape program domain bounds = (v w : List ℕ) (k : ℕ) → InDomain domain v → InDomain domain w
    → take k (path_of program domain bounds v) ≡ take k (path_of program domain bounds w)
    → SameNext (slice_get (path_of program domain bounds v) k) (slice_get (path_of program domain bounds w) k) (course_of program domain bounds v).end (course_of program domain bounds w).end
