use Rattle.std.proofs.Common.{◌≡◌}
use Rattle.px_tree.specs.Tree.{paths_of, sides_below}
use Rattle.px_tree.proofs.side.sides.Given as goal

abbrev pub invariant-loop-maker : goal.invariant-loop-maker
invariant-loop-maker l = l.out.items ≡ sides_below (paths_of l.records) l.maker
