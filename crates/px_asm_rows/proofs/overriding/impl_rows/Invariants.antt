use Rattle.std.proofs.Common.{take}
use Rattle.std.specs.List.{AllZip, flat_map}
use Rattle.std.specs.Prelude.{slice_get}
use Rattle.px_asm_law_written.specs.Holds.{IsImplRow, pair_of}
use Rattle.px_asm_rows.proofs.overriding.impl_rows.Given as goal

abbrev pub invariant-loop-number : goal.invariant-loop-number
invariant-loop-number l = AllZip (IsImplRow l.rows) (flat_map (λ number. pair_of number (slice_get l.rows.layout.slots number)) (take l.number-index l.numbers)) l.made.items
