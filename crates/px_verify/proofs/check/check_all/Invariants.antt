use Rattle.px_verify.specs.Judged.{AreTypedBelow}
use Rattle.px_verify.proofs.check.check_all.Given as goal

abbrev pub invariant-loop-number : goal.invariant-loop-number
invariant-loop-number l = AreTypedBelow l.program l.number
