use Rattle.std.proofs.Common.{◌≡◌, ◌++◌, vec_len}
use Rattle.px_verify_kinds.specs.Stacks.{Extends, IsStack, kinds_of}
use Rattle.px_verify_kinds.proofs.stacks.Stacks.push_all.Given as goal

-- what is left above the stack so far is all of it
abbrev pub invariant-loop-kind : goal.invariant-loop-kind
invariant-loop-kind l = record {
  there : IsStack l.self l.at;
  whole : l.left.items ++ kinds_of l.self l.at ≡ l.fn.kinds.items ++ kinds_of l.initial.self l.fn.below;
  kept : Extends l.initial.self l.self;
}

abbrev pub decreases-loop-kind : goal.decreases-loop-kind
decreases-loop-kind l = vec_len l.left
