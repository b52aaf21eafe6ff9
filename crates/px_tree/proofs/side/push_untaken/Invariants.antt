use Rattle.std.proofs.Common.{◌≡◌, ◌++◌, take}
use Rattle.std.specs.Prelude.{filter}
use Rattle.px_tree.specs.Tree.{paths_of, is_untaken}
use Rattle.px_tree.proofs.side.push_untaken.Given as goal

abbrev pub invariant-loop-side : goal.invariant-loop-side
invariant-loop-side l = l.out.items ≡ l.fn.out.items ++ filter (is_untaken (paths_of l.records)) (take l.side-index l.side-items)
