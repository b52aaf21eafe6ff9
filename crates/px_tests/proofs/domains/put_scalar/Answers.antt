use Rattle.std.proofs.Common.{◌++◌, codes}
use Rattle.std.proofs.lemmas.Result.{err_from_is_err_and}
use Rattle.px_domain.specs.Text.{range_text}
use Rattle.px_io.proofs.Putting.{puts_err, puts_more}
use Rattle.px_tests.proofs.domains.put_scalar.Goals as goal

pub returns-in_err-put_open : goal.returns-in_err-put_open
returns-in_err-put_open g c =
    let p = err_from_is_err_and _ c.from_residual.ensures.1 in
    puts_err g.O.Sink.written g.O.Sink.faults _ _ (codes "(") (range_text c.args.range.now.place c.args.range.now.low c.args.range.now.high ++ codes ")") _ p.0 _ p.1 c.in_err-put_open.ensures

pub returns : goal.returns
returns g c = puts_more g.O.Sink.written g.O.Sink.faults _ _ _ (codes "(") (range_text c.args.range.now.place c.args.range.now.low c.args.range.now.high ++ codes ")") _ _ c.in_ok-put_open.ensures c.put_range_close.ensures
