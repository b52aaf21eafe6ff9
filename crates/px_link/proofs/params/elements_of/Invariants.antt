use Rattle.std.proofs.Common.{◌≡◌, drop, length}
use Rattle.px_link.specs.Raw.{elements_from, elements_of}
use Rattle.px_link.proofs.params.elements_of.Given as goal

-- what is found goes on to the elements of all
abbrev pub invariant-loop-place : goal.invariant-loop-place
invariant-loop-place l =
    elements_of l.places l.arrays ≡ elements_from l.found.items (drop (length l.yielded) l.places) (drop (length l.yielded) l.arrays)
