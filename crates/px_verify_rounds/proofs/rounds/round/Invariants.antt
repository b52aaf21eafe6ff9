use Rattle.px_verify_rounds.specs.Rounds.{InRound, highest, to_do}
use Rattle.px_verify_rounds.specs.Typings.{IsValid, table_of}
use Rattle.px_verify_rounds.proofs.rounds.round.Given as goal

abbrev pub invariant-loop-at : goal.invariant-loop-at
invariant-loop-at l = record {
  within : InRound l.program l.method (table_of l.fn.typing) l.fn.work (table_of l.typing) l.work;
  valid : IsValid l.typing;
}

abbrev pub decreases-loop-at : goal.decreases-loop-at
decreases-loop-at l = to_do l.program.types (highest l.program.types l.method) (table_of l.typing) l.work
