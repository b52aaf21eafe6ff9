use Rattle.std.proofs.Common.{◌∙◌}
use Rattle.std.proofs.lemmas.Result.{err_from_is_err_and}
use Rattle.px_domain.proofs.Arguments.{group_failed, end_failed, all_read, one_on}
use Rattle.px_domain.proofs.args.read_each.Goals as goal

pub returns-in_err-arg : goal.returns-in_err-arg
returns-in_err-arg c =
    let exit = err_from_is_err_and c.from_residual.result c.from_residual.ensures.1 in
    rw (exit.1, exit.2) (group_failed c.args.parts.now c.args.cursor.text.now c.loop-part.cursor.text.now c.args.cursor.at c.loop-part.part-index c.loop-part.cursor.at c.in_err-arg.field-0.0 c.loop-part.words _
    c.loop-part-test.true c.loop-part.invariant.text c.in_err-arg.ensures.gathers c.loop-part.invariant.reading)

pub loop-part-preserved : goal.loop-part-preserved
loop-part-preserved c = record {
  text = c.in_ok-arg.ensures.text ∙ c.loop-part.invariant.text;
  reading = one_on c.args.parts.now c.args.cursor.text.now c.loop-part.cursor.text.now c.args.cursor.at c.loop-part.part-index c.loop-part.cursor.at c.arg.new.self.at c.loop-part.words c.append.new.self c.in_ok-arg.field-0 _
      c.loop-part-test.true c.loop-part.invariant.text c.in_ok-append.ensures c.in_ok-arg.ensures.gathers c.loop-part.invariant.reading;
}

pub returns-in_err-end : goal.returns-in_err-end
returns-in_err-end c =
    let exit = err_from_is_err_and c.from_residual-in_err-end.result c.from_residual-in_err-end.ensures.1 in
    rw (exit.1, exit.2) (end_failed c.args.parts.now c.args.cursor.text.now c.loop-part.cursor.text.now c.args.cursor.at c.loop-part.part-index c.loop-part.cursor.at c.in_err-end.field-0.0 c.loop-part.words
    c.loop-part-test.false c.loop-part.invariant.text c.in_err-end.ensures c.loop-part.invariant.reading)

pub returns : goal.returns
returns c =
    all_read c.args.parts.now c.args.cursor.text.now c.loop-part.cursor.text.now c.args.cursor.at c.loop-part.part-index c.loop-part.cursor.at c.loop-part.words
    c.loop-part-test.false c.loop-part.invariant.text c.in_ok-end.ensures c.loop-part.invariant.reading
