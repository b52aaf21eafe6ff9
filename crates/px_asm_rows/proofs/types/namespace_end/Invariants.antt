use Rattle.std.proofs.Common.{◌≡◌, ◌<◌, length, slice_index}
use Rattle.std.specs.Prelude.{IfSome}
use Rattle.px_asm_rows.proofs.types.namespace_end.Given as goal

-- the dot that was met last
abbrev pub invariant-loop-at : goal.invariant-loop-at
invariant-loop-at l = IfSome l.end (λ at. (0 < at) × (at < length l.name) × (slice_index l.name at ≡ 46))
