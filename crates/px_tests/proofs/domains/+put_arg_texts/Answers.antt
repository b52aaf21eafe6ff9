use Rattle.std.proofs.Common.{arith}
use Rattle.std.proofs.lemmas.Result.{err_from_is_err_and}
use Rattle.px_io.proofs.Putting.{puts_as, puts_err, puts_two}
use Rattle.px_tests.proofs.Heads.{args_split}
use Rattle.px_tests.proofs.domains.+put_arg_texts.Goals as goal

pub returns-in_ok-put_arg-in-len1-up : goal.returns-in_ok-put_arg-in-len1-up
returns-in_ok-put_arg-in-len1-up g t c =
    puts_as g.O.Sink.written g.O.Sink.faults c.args.out.now c.put_arg_texts.new.out _ _ _
    (args_split c.args.parts.now c.args.words.now c.split_at.result.0.now c.split_at.result.1.now _ c.word_count.result (omega (arith, c.in-len1-up.len_at_least)) c.word_count.ensures c.split_at.ensures.front c.split_at.ensures.back)
    (puts_two c.in_ok-put_arg-in-len1-up.ensures c.put_arg_texts.ensures)

pub returns-in_err-put_arg-in-len1-up : goal.returns-in_err-put_arg-in-len1-up
returns-in_err-put_arg-in-len1-up g t c =
    let p = err_from_is_err_and c.from_residual.result c.from_residual.ensures.1 in
    puts_as g.O.Sink.written g.O.Sink.faults c.args.out.now c.put_arg.new.out _ _ _
    (args_split c.args.parts.now c.args.words.now c.split_at.result.0.now c.split_at.result.1.now _ c.word_count.result (omega (arith, c.in-len1-up.len_at_least)) c.word_count.ensures c.split_at.ensures.front c.split_at.ensures.back)
    (puts_err g.O.Sink.written g.O.Sink.faults c.args.out.now c.put_arg.new.out _ _ c.in_err-put_arg-in-len1-up.field-0.0 p.0 c.from_residual.result p.1 c.in_err-put_arg-in-len1-up.ensures)
