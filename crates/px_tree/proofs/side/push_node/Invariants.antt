use Rattle.std.proofs.Common.{◌≡◌, ◌++◌, map}
use Rattle.px_tree.specs.Tree.{side_at, below}
use Rattle.px_tree.proofs.side.push_node.Given as goal

abbrev pub invariant-loop-side : goal.invariant-loop-side
invariant-loop-side l = l.out.items ≡ l.fn.out.items ++ map (side_at l.maker l.depth) (below l.side)
