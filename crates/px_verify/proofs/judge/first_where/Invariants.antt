use Rattle.px_verify.specs.Judged.{Scanning}
use Rattle.px_verify.proofs.judge.first_where.Given as goal

abbrev pub invariant-loop-instr : goal.invariant-loop-instr
invariant-loop-instr l = Scanning l.program l.method l.least l.initial.typing l.instr-index l.typing
