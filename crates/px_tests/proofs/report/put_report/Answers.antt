use Rattle.std.proofs.lemmas.Result.{err_from_is_err_and}
use Rattle.px_io.proofs.Putting.{puts_err, puts_two}
use Rattle.px_tests.proofs.report.put_report.Goals as goal

pub returns : goal.returns
returns g c =
    puts_two c.in_ok-put_input.ensures
    (puts_two c.in_ok-put_domain.ensures
    (puts_two c.in_ok-put_bounds.ensures (puts_two c.in_ok-put_limits.ensures (puts_two c.in_ok-put_tests.ensures c.put_counts.ensures))))

pub returns-in_err-put_input : goal.returns-in_err-put_input
returns-in_err-put_input g c =
    let p = err_from_is_err_and _ c.from_residual.ensures.1 in
    puts_err g.O.Sink.written g.O.Sink.faults _ _ _ _ _ p.0 _ p.1 c.in_err-put_input.ensures

pub returns-in_err-put_domain : goal.returns-in_err-put_domain
returns-in_err-put_domain g c =
    let p = err_from_is_err_and _ c.from_residual-in_err-put_domain.ensures.1 in
    puts_two c.in_ok-put_input.ensures (puts_err g.O.Sink.written g.O.Sink.faults _ _ _ _ _ p.0 _ p.1 c.in_err-put_domain.ensures)

pub returns-in_err-put_bounds : goal.returns-in_err-put_bounds
returns-in_err-put_bounds g c =
    let p = err_from_is_err_and _ c.from_residual-in_err-put_bounds.ensures.1 in
    puts_two c.in_ok-put_input.ensures
    (puts_two c.in_ok-put_domain.ensures (puts_err g.O.Sink.written g.O.Sink.faults _ _ _ _ _ p.0 _ p.1 c.in_err-put_bounds.ensures))

pub returns-in_err-put_limits : goal.returns-in_err-put_limits
returns-in_err-put_limits g c =
    let p = err_from_is_err_and _ c.from_residual-in_err-put_limits.ensures.1 in
    puts_two c.in_ok-put_input.ensures
    (puts_two c.in_ok-put_domain.ensures
    (puts_two c.in_ok-put_bounds.ensures (puts_err g.O.Sink.written g.O.Sink.faults _ _ _ _ _ p.0 _ p.1 c.in_err-put_limits.ensures)))

pub returns-in_err-put_tests : goal.returns-in_err-put_tests
returns-in_err-put_tests g c =
    let p = err_from_is_err_and _ c.from_residual-in_err-put_tests.ensures.1 in
    puts_two c.in_ok-put_input.ensures
    (puts_two c.in_ok-put_domain.ensures
    (puts_two c.in_ok-put_bounds.ensures
    (puts_two c.in_ok-put_limits.ensures (puts_err g.O.Sink.written g.O.Sink.faults _ _ _ _ _ p.0 _ p.1 c.in_err-put_tests.ensures))))
