use Rattle.std.proofs.Common.{arith}
use Rattle.std.proofs.lemmas.Result.{err_from_is_err_and}
use Rattle.px_io.proofs.Piecewise.{puts_each_err}
use Rattle.px_tests.specs.Numbers.{spaced_text}
use Rattle.px_tests.proofs.domains.put_all_spaced.Goals as goal

pub returns-in_err-put_spaced : goal.returns-in_err-put_spaced
returns-in_err-put_spaced g c =
    puts_each_err (spaced_text c.args.place) _ c.loop-word.word-index _ (omega arith) c.loop-word.invariant c.in_err-put_spaced.ensures (err_from_is_err_and _ c.from_residual.ensures.1)
