use Rattle.std.proofs.Common.{length}
use Rattle.px_verify_kinds.specs.Stacks.{IsStack, kinds_of}
use Rattle.px_verify_kinds.proofs.Walked.{Walked}
use Rattle.px_verify_kinds.proofs.stacks.Stacks.merged.Given as goal

abbrev pub invariant-loop-at : goal.invariant-loop-at
invariant-loop-at l = record {
  there : IsStack l.self l.at;
  given : IsStack l.self l.other;
  walked : Walked l.program.types (kinds_of l.self l.fn.standing) (kinds_of l.self l.fn.given) l.kinds.items l.changes (kinds_of l.self l.at) (kinds_of l.self l.other);
}

abbrev pub decreases-loop-at : goal.decreases-loop-at
decreases-loop-at l = length (kinds_of l.self l.at)
