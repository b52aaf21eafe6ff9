use Rattle.std.proofs.Common.{◌+◌, ◌≤◌, length}
use Rattle.px_program.specs.Formed.{FitsPlace}
use Rattle.px_asm_store.proofs.PlaceEnds.{IsAround, arrays_left}
use Rattle.px_asm_store.proofs.places.innermost.Given as goal

abbrev pub invariant-loop-element : goal.invariant-loop-element
invariant-loop-element l = record {
  fits : FitsPlace l.program.types l.inner;
  count : l.arrays + arrays_left l.program l.inner ≤ length l.program.types + 1;
  around : IsAround l.program l.fn.place l.inner l.arrays;
}

abbrev pub decreases-loop-element : goal.decreases-loop-element
decreases-loop-element l = arrays_left l.program l.inner
