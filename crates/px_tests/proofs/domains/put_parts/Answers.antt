use Rattle.std.proofs.Common.{arith}
use Rattle.std.proofs.lemmas.Result.{err_from_is_err_and}
use Rattle.px_io.proofs.Piecewise.{puts_each_err}
use Rattle.px_domain.specs.Text.{part_text}
use Rattle.px_tests.proofs.domains.put_parts.Goals as goal

pub returns-in_err-put_part : goal.returns-in_err-put_part
returns-in_err-put_part g c =
    puts_each_err part_text _ c.loop-part.part-index _ (omega arith) c.loop-part.invariant c.in_err-put_part.ensures (err_from_is_err_and _ c.from_residual.ensures.1)
