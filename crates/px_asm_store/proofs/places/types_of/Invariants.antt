use Rattle.std.proofs.Common.{◌≡◌, true, take}
use Rattle.std.specs.List.{AllZip, list_all}
use Rattle.px_asm_heaps.specs.Spelling.{is_spelled}
use Rattle.px_asm_described.specs.Describes.{IsTypeOf}
use Rattle.px_asm_store.proofs.places.types_of.Given as goal

abbrev pub invariant-loop-place : goal.invariant-loop-place
invariant-loop-place l = record {
  are : AllZip (IsTypeOf l.rows) (take l.place-index l.places) l.types;
  spelled : list_all is_spelled l.types ≡ true;
}
