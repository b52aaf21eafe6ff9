use Rattle.px_verify.specs.Clashes.{NotingBy}
use Rattle.px_verify.proofs.clashes.least_clash.Given as goal

abbrev pub invariant-loop-instr : goal.invariant-loop-instr
invariant-loop-instr l = NotingBy l.program l.method l.initial.typing l.initial.least l.instr-index l.typing l.least
