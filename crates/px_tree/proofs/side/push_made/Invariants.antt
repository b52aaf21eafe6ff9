use Rattle.std.proofs.Common.{◌≡◌, ◌++◌}
use Rattle.px_tree.specs.Tree.{paths_of, sides_of_path}
use Rattle.px_tree.proofs.side.push_made.Given as goal

abbrev pub invariant-loop-depth : goal.invariant-loop-depth
invariant-loop-depth l = l.out.items ≡ l.fn.out.items ++ sides_of_path (paths_of l.records) l.maker l.depth
