use Rattle.std.proofs.Common.{◌≡◌, take}
use Rattle.std.specs.List.{flat_map}
use Rattle.px_asm_law_written.specs.Tokens.{fields_in}
use Rattle.std.specs.Prelude.{slice_get}
use Rattle.px_asm_rows.proofs.fields.fields_of.Given as goal

abbrev pub invariant-loop-number : goal.invariant-loop-number
invariant-loop-number l = l.fields.items ≡ flat_map (λ number. fields_in (slice_get l.types number)) (take l.number-index l.numbers)
