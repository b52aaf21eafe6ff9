use Rattle.std.proofs.Common.{◌≡◌, ◌+◌, ◌≤◌, drop, length}
use Rattle.px_tree.specs.Passed.{passed_nodes}
use Rattle.px_tree.proofs.side.passed_nodes.Given as goal

abbrev pub invariant-loop-depth : goal.invariant-loop-depth
invariant-loop-depth l = record { within : l.depth ≤ length l.path; so_far : passed_nodes (drop l.depth l.maker) (drop l.depth l.path) + l.depth ≡ passed_nodes l.maker l.path }
