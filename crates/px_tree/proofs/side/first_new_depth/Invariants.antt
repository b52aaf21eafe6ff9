use Rattle.std.proofs.Common.{◌≡◌, ◌<◌, ◌≤◌, ℕ, length, take, nat_lt}
use Rattle.std.specs.List.{list_any}
use Rattle.px_tree.specs.Tree.{paths_of, passes}
use Rattle.px_tree.proofs.side.first_new_depth.Given as goal

abbrev pub invariant-loop-earlier : goal.invariant-loop-earlier
invariant-loop-earlier l = record {
  within : l.first ≤ length l.path;
  first : (depth : ℕ) → depth < length l.path → list_any (passes l.path depth) (take l.earlier (paths_of l.records)) ≡ nat_lt depth l.first;
}
