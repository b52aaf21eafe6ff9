use Rattle.std.proofs.Common.{arith}
use Rattle.std.proofs.lemmas.Result.{err_from_is_err_and}
use Rattle.px_io.proofs.Piecewise.{puts_each_err}
use Rattle.px_tests.specs.Text.{comma_event_text}
use Rattle.px_tests.proofs.lines.put_comma_events.Goals as goal

pub returns-in_err-put_comma_event : goal.returns-in_err-put_comma_event
returns-in_err-put_comma_event g c =
    puts_each_err comma_event_text _ c.loop-event.event-index _ (omega arith) c.loop-event.invariant c.in_err-put_comma_event.ensures (err_from_is_err_and _ c.from_residual.ensures.1)
