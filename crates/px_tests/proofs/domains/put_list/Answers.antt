use Rattle.std.proofs.Common.{◌++◌, codes}
use Rattle.std.proofs.lemmas.Result.{err_from_is_err_and}
use Rattle.px_domain.specs.Text.{numbers_text}
use Rattle.px_io.proofs.Putting.{puts_err, puts_more}
use Rattle.px_tests.proofs.domains.put_list.Goals as goal

pub returns-in_err-put_list_open : goal.returns-in_err-put_list_open
returns-in_err-put_list_open g c =
    let p = err_from_is_err_and _ c.from_residual.ensures.1 in
    puts_err g.O.Sink.written g.O.Sink.faults _ _ (codes "([") (numbers_text c.args.place c.args.words.now ++ codes "])") _ p.0 _ p.1 c.in_err-put_list_open.ensures

pub returns : goal.returns
returns g c = puts_more g.O.Sink.written g.O.Sink.faults _ _ _ (codes "([") (numbers_text c.args.place c.args.words.now ++ codes "])") _ _ c.in_ok-put_list_open.ensures c.put_numbers_close.ensures
