use Rattle.px_verify.specs.Clashes.{NotingStarts}
use Rattle.px_verify.proofs.clashes.note_starts.Given as goal

abbrev pub invariant-loop-clause : goal.invariant-loop-clause
invariant-loop-clause l = NotingStarts l.program.types l.initial.typing l.initial.least l.method.clauses l.clause-index l.typing l.least
