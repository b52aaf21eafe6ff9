use Rattle.std.proofs.Common.{◌≤◌, ◌+◌, arith, ◌∙◌, sym, ap, Ok, List}
use Rattle.std.proofs.lemmas.Result.{err_from_is_err_and}
use Rattle.px_domain.specs.declared.domain.Part.{Part}
use Rattle.px_domain.specs.Domain.{word_count}
use Rattle.px_domain.proofs.Groups.{group_failed, end_failed, all_read, one_on, parts_of_groups, words_within}
use Rattle.px_domain.proofs.read.read_groups.Goals as goal

pub returns-in_err-part : goal.returns-in_err-part
returns-in_err-part c =
    let exit = err_from_is_err_and c.from_residual.result c.from_residual.ensures.1 in
    rw (exit.1, exit.2) (group_failed c.args.params.now c.args.cursor.text.now c.loop-given.cursor.text.now c.args.cursor.at c.loop-given.given-index c.loop-given.words c.loop-given.cursor.at c.in_err-part.field-0.0 c.loop-given.parts.items _
    c.loop-given-test.true c.loop-given.invariant.text c.in_err-part.ensures.reads c.loop-given.invariant.reading)

pub loop-given-preserved : goal.loop-given-preserved
loop-given-preserved c =
    let few : c.loop-given.words + word_count c.in_ok-part.part ≤ 256 =
    words_within c.args.params.now c.loop-given.cursor.text.now c.loop-given.given-index c.loop-given.words c.loop-given.cursor.at c.part.new.self.at c.in_ok-part.part _ c.loop-given-test.true c.requires c.in_ok-part.ensures.reads in
    record {
      text = c.in_ok-part.ensures.text ∙ c.loop-given.invariant.text;
      few = omega (arith, few, c.word_count.ensures);
      reading = one_on c.args.params.now c.args.cursor.text.now c.loop-given.cursor.text.now c.args.cursor.at c.loop-given.given-index c.loop-given.words (c.loop-given.words + c.word_count.result) c.loop-given.cursor.at c.part.new.self.at
          c.loop-given.parts.items c.push.new.self.items c.in_ok-part.part _ c.loop-given-test.true c.loop-given.invariant.text c.in_ok-push.ensures.items (ap (λ n. c.loop-given.words + n) c.word_count.ensures)
          c.in_ok-part.ensures.reads c.loop-given.invariant.reading;
    }

pub returns-in_err-end : goal.returns-in_err-end
returns-in_err-end c =
    let exit = err_from_is_err_and c.from_residual-in_err-end.result c.from_residual-in_err-end.ensures.1 in
    rw (exit.1, exit.2) (end_failed c.args.params.now c.args.cursor.text.now c.loop-given.cursor.text.now c.args.cursor.at c.loop-given.given-index c.loop-given.words c.loop-given.cursor.at c.in_err-end.field-0.0 c.loop-given.parts.items
    c.loop-given-test.false c.loop-given.invariant.text c.in_err-end.ensures c.loop-given.invariant.reading)

pub new-requires : goal.new-requires
new-requires c =
    parts_of_groups c.args.params.now c.args.cursor.text.now c.args.cursor.at c.loop-given.parts.items c.requires
    (all_read c.args.params.now c.args.cursor.text.now c.loop-given.cursor.text.now c.args.cursor.at c.loop-given.given-index c.loop-given.words c.loop-given.cursor.at c.loop-given.parts.items
    c.loop-given-test.false c.loop-given.invariant.text c.in_ok-end.ensures c.loop-given.invariant.reading)

pub returns : goal.returns
returns c =
    all_read c.args.params.now c.args.cursor.text.now c.loop-given.cursor.text.now c.args.cursor.at c.loop-given.given-index c.loop-given.words c.loop-given.cursor.at c.loop-given.parts.items
    c.loop-given-test.false c.loop-given.invariant.text c.in_ok-end.ensures c.loop-given.invariant.reading
    ∙ ap (λ (parts : List Part). Ok parts) (sym c.in_ok-new.ensures)
