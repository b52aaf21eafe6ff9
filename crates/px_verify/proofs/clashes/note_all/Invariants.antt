use Rattle.px_verify.specs.Clashes.{Noting}
use Rattle.px_verify.proofs.clashes.note_all.Given as goal

abbrev pub invariant-loop-at : goal.invariant-loop-at
invariant-loop-at l = Noting l.program.types l.initial.typing l.given l.fn.least l.to l.at-index l.typing l.least
