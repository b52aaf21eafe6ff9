use Rattle.std.specs.Prelude.{slice_get}
use Rattle.px_link.proofs.Placing.{ArePlacedBelow}
use Rattle.px_link.proofs.layout.placed_methods.Given as goal

-- the methods so far
abbrev pub invariant-loop-n : goal.invariant-loop-n
invariant-loop-n l = ArePlacedBelow (slice_get l.rows) l.n l.placed.items
