use Rattle.std.proofs.lemmas.Result.{err_from_is_err_and}
use Rattle.px_io.proofs.Putting.{puts_err, puts_two}
use Rattle.px_tests.proofs.report.put_line_end.Goals as goal

pub returns : goal.returns
returns g c = puts_two c.in_ok-put_end.ensures c.put_pieces.ensures

pub returns-in_err-put_end : goal.returns-in_err-put_end
returns-in_err-put_end g c =
    let p = err_from_is_err_and c.from_residual.result c.from_residual.ensures.1 in
    puts_err g.O.Sink.written g.O.Sink.faults c.args.out.now c.put_end.new.out _ _ c.in_err-put_end.field-0.0 p.0 c.from_residual.result p.1 c.in_err-put_end.ensures
