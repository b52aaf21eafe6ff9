use Rattle.std.proofs.lemmas.Result.{err_from_is_err_and}
use Rattle.px_io.proofs.Putting.{puts_err, puts_two}
use Rattle.px_tests.specs.Text.{end_part}
use Rattle.px_tests.proofs.report.put_end_part.Goals as goal

pub returns : goal.returns
unfolding end_part
returns g c = puts_two c.in_ok-put_end_mark.ensures c.put_line_end.ensures

pub returns-in_err-put_end_mark : goal.returns-in_err-put_end_mark
unfolding end_part
returns-in_err-put_end_mark g c =
    let p = err_from_is_err_and c.from_residual.result c.from_residual.ensures.1 in
    puts_err g.O.Sink.written g.O.Sink.faults c.args.out.now c.put_end_mark.new.out _ _ c.in_err-put_end_mark.field-0.0 p.0 c.from_residual.result p.1 c.in_err-put_end_mark.ensures
