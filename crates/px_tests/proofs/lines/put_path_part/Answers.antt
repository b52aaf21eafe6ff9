use Rattle.std.proofs.lemmas.Result.{err_from_is_err_and}
use Rattle.px_io.proofs.Putting.{puts_err, puts_two}
use Rattle.px_tests.specs.Text.{path_part}
use Rattle.px_tests.proofs.lines.put_path_part.Goals as goal

pub returns : goal.returns
unfolding path_part
returns g c = puts_two c.in_ok-put_path_mark.ensures c.put_path.ensures

pub returns-in_err-put_path_mark : goal.returns-in_err-put_path_mark
unfolding path_part
returns-in_err-put_path_mark g c =
    let p = err_from_is_err_and c.from_residual.result c.from_residual.ensures.1 in
    puts_err g.O.Sink.written g.O.Sink.faults c.args.out.now c.put_path_mark.new.out _ _ c.in_err-put_path_mark.field-0.0 p.0 c.from_residual.result p.1 c.in_err-put_path_mark.ensures
