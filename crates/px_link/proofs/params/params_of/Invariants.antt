use Rattle.std.proofs.Common.{◌≡◌, ◌++◌, drop, length}
use Rattle.px_link.specs.Raw.{params_of}
use Rattle.px_link.proofs.params.params_of.Given as goal

-- the parameters so far, and those of the rest, are all
abbrev pub invariant-loop-place : goal.invariant-loop-place
invariant-loop-place l =
    params_of l.elements l.places l.arrays ≡ l.params.items ++ params_of l.elements (drop (length l.yielded) l.places) (drop (length l.yielded) l.arrays)
