use Rattle.std.proofs.Common.{◌≡◌, drop}
use Rattle.std.specs.List.{list_any}
use Rattle.px_tree.specs.Tree.{paths_of, path_at, takes, is_taken}
use Rattle.px_tree.proofs.side.is_taken.Given as goal

abbrev pub invariant-loop-n : goal.invariant-loop-n
invariant-loop-n l = list_any (takes (path_at (paths_of l.records) l.side.maker) l.side.depth l.side.side) (drop l.n (paths_of l.records)) ≡ is_taken (paths_of l.records) l.side
