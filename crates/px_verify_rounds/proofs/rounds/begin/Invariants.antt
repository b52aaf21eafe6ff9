use Rattle.px_verify_rounds.specs.Typings.{IsValid, table_of}
use Rattle.px_verify_rounds.proofs.Begins.{Beginning}
use Rattle.px_verify_rounds.proofs.rounds.begin.Given as goal

abbrev pub invariant-loop-clause : goal.invariant-loop-clause
invariant-loop-clause l = record {
  beginning : Beginning l.program.types l.method (table_of l.fn.typing) l.fn.set l.clause-index (table_of l.typing) l.set;
  valid : IsValid l.typing;
}
