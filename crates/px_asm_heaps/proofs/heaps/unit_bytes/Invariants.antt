use Rattle.std.proofs.Common.{◌≡◌, take}
use Rattle.px_asm_heaps.specs.Heaps.{unit_bytes}
use Rattle.px_asm_heaps.proofs.heaps.unit_bytes.Given as goal

-- the units so far are written
abbrev pub invariant-loop-unit : goal.invariant-loop-unit
invariant-loop-unit l = l.bytes.items ≡ unit_bytes (take l.unit-index l.units)
