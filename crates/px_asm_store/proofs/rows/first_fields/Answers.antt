use Rattle.std.proofs.Common.{◌≡◌, ◌+◌, ◌<◌, List, length, get_or, refl, sym, ap, subst, ◌∙◌, arith}
use Rattle.std.specs.Prelude.{Some, slice_get}
use Rattle.std.proofs.lemmas.List.{length-set}
use Rattle.std.proofs.lemmas.Option.{slice_get-get_or, slice_get_read}
use Rattle.px_program.proofs.Types.{each_at}
use Rattle.px_program.specs.declared.program.TypeInfo.{TypeInfo}
use Rattle.px_asm_law_written.specs.Tokens.{fields_in, first_field}
use Rattle.px_asm_store.proofs.RowCounts.{next_field, types_below}
use Rattle.px_asm_store.proofs.RowSetting.{AreSet, all_set, one_set}
use Rattle.px_asm_store.proofs.rows.first_fields.Goals as goal

pub loop-number-preserved : goal.loop-number-preserved
loop-number-preserved c =
    let p = c.args.program.now in
    let numbers = c.as_slice-number-items.result.now in
    let rows = c.loop-number.rows.items in
    let n = c.loop-number.number-index in
    let number = get_or numbers n 0 in
    let info = c.index-types-type_index.result in
    let at = subst (λ l. slice_get l n ≡ Some number) c.as_slice-number-items.ensures (slice_get-get_or numbers n 0 c.loop-number-test.true) in
    let below : number < length p.types = each_at (λ m. m < length p.types) p.layout.types (types_below p c.requires) n number at in
    let there = subst (λ (types : List TypeInfo). slice_get types number ≡ Some info) c.as_slice-types.ensures (slice_get_read c.as_slice-types.result.now (length c.as_slice-types.result.now) number info refl (omega (arith, below, ap length c.as_slice-types.ensures)) c.index-types-type_index.is) in
    record {
      row = c.in_ok-row.ensures.behind ∙ ap (λ r. r + length (fields_in (Some info))) c.loop-number.invariant.row ∙ sym (next_field p n number info at there);
      few = c.in_ok-row.ensures.few;
      count = length-set rows number c.loop-number.row ∙ c.loop-number.invariant.count;
      set = one_set (first_field p) p.layout.types rows n number c.loop-number.row c.requires.types_once at (omega (arith, below, c.loop-number.invariant.count)) c.loop-number.invariant.row c.loop-number.invariant.set;
    }

pub returns-clause-rows : goal.returns-clause-rows
returns-clause-rows c =
    let p = c.args.program.now in
    let all : c.loop-number.number-index ≡ length p.layout.types = omega (arith, ap length c.as_slice-number-items.ensures) in
    all_set (first_field p) p.layout.types c.loop-number.rows.items (subst (λ n. AreSet (first_field p) p.layout.types n c.loop-number.rows.items) all c.loop-number.invariant.set)
