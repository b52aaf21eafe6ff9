use Rattle.std.proofs.Common.{arith}
use Rattle.std.proofs.lemmas.Result.{err_from_is_err_and}
use Rattle.px_io.proofs.Piecewise.{puts_each_err}
use Rattle.px_command.specs.Lines.{other_text}
use Rattle.px_command.proofs.stacks.put_others.Goals as goal

pub returns-in_err-put_other : goal.returns-in_err-put_other
returns-in_err-put_other g c =
    puts_each_err other_text _ c.loop-kind.kind-index _ (omega arith) c.loop-kind.invariant c.in_err-put_other.ensures (err_from_is_err_and _ c.from_residual.ensures.1)
