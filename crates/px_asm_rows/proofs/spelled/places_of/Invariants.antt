use Rattle.std.proofs.Common.{◌≡◌, ◌++◌, map}
use Rattle.std.specs.List.{range_with_len}
use Rattle.px_program.specs.declared.program.Place.TheVariants as places
use Rattle.px_asm_law_written.specs.Holds.{integer_places}
use Rattle.px_asm_rows.proofs.spelled.places_of.Given as goal

abbrev pub invariant-loop-number : goal.invariant-loop-number
invariant-loop-number l = l.made.items ≡ integer_places ++ map places.Ref (range_with_len 0 l.number)
