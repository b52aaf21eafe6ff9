use Rattle.std.proofs.Common.{◌≡◌, ◌++◌, length}
use Rattle.px_verify_kinds.specs.Stacks.{IsStack, kinds_of}
use Rattle.px_verify_kinds.proofs.stacks.Stacks.kinds.Given as goal

-- what was taken above what is left is the stack
abbrev pub invariant-loop-kind : goal.invariant-loop-kind
invariant-loop-kind l = record {
  there : IsStack l.self l.at;
  whole : l.kinds.items ++ kinds_of l.self l.at ≡ kinds_of l.self l.fn.stack;
}

abbrev pub decreases-loop-kind : goal.decreases-loop-kind
decreases-loop-kind l = length (kinds_of l.self l.at)
