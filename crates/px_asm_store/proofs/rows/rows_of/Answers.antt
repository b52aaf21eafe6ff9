use Rattle.std.proofs.Common.{◌≡◌, ◌+◌, ◌<◌, length, get_or, subst, ◌∙◌, arith}
use Rattle.std.proofs.lemmas.List.{length-set}
use Rattle.std.proofs.lemmas.Option.{slice_get-get_or}
use Rattle.px_program.proofs.Types.{each_at}
use Rattle.px_asm_store.proofs.RowSetting.{AreSet, all_set, one_set}
use Rattle.px_asm_store.proofs.rows.rows_of.Goals as goal

pub loop-number-preserved : goal.loop-number-preserved
loop-number-preserved c =
    let numbers = c.args.numbers.now in
    let rows = c.loop-number.rows.items in
    let n = c.loop-number.number-index in
    let number = get_or numbers n 0 in
    let at = slice_get-get_or numbers n 0 c.loop-number-test.true in
    let below : number < c.args.count = each_at (λ m. m < c.args.count) numbers c.requires.below n number at in
    record {
      row = omega (arith, c.loop-number.invariant.row);
      count = length-set rows number c.loop-number.row ∙ c.loop-number.invariant.count;
      set = one_set (λ place. place + c.args.first) numbers rows n number c.loop-number.row c.requires.once at (omega (arith, below, c.loop-number.invariant.count)) c.loop-number.invariant.row c.loop-number.invariant.set;
    }

pub returns : goal.returns
returns c =
    let numbers = c.args.numbers.now in
    let all : c.loop-number.number-index ≡ length numbers = omega arith in
    all_set (λ place. place + c.args.first) numbers c.loop-number.rows.items (subst (λ n. AreSet (λ place. place + c.args.first) numbers n c.loop-number.rows.items) all c.loop-number.invariant.set)
