use Rattle.px_link.specs.Layout.{type_row}
use Rattle.px_link.proofs.Placing.{ArePlacedBelow}
use Rattle.px_link.proofs.layout.placed_types.Given as goal

-- the types so far
abbrev pub invariant-loop-n : goal.invariant-loop-n
invariant-loop-n l = ArePlacedBelow (type_row l.keys) l.n l.placed.items
