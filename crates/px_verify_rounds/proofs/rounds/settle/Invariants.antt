use Rattle.px_verify_rounds.specs.Rounds.{Between, highest, to_do}
use Rattle.px_verify_rounds.specs.Typings.{IsValid, table_of}
use Rattle.px_verify_rounds.proofs.rounds.settle.Given as goal

abbrev pub invariant-rounds : goal.invariant-rounds
invariant-rounds l = record {
  between : Between l.program l.method (table_of l.typing) l.work;
  valid : IsValid l.typing;
}

abbrev pub decreases-rounds : goal.decreases-rounds
decreases-rounds l = to_do l.program.types (highest l.program.types l.method) (table_of l.typing) l.work
