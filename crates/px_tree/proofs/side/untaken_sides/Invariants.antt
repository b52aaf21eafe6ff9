use Rattle.std.proofs.Common.{◌≡◌}
use Rattle.std.specs.Prelude.{filter}
use Rattle.px_tree.specs.Tree.{paths_of, is_untaken, sides_below}
use Rattle.px_tree.proofs.side.untaken_sides.Given as goal

abbrev pub invariant-loop-maker : goal.invariant-loop-maker
invariant-loop-maker l = l.out.items ≡ filter (is_untaken (paths_of l.records)) (sides_below (paths_of l.records) l.maker)
