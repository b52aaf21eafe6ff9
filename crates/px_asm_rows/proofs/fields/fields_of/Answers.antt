use Rattle.px_asm_rows.proofs.TableFacts.{read_again, table_fields_more}
use Rattle.std.proofs.Common.{◌<◌, ◌++◌, true, false, length, get_or, map, ap, ◌∙◌}
use Rattle.px_link_methods.proofs.Pieces.{each_item}
use Rattle.px_asm_rows.proofs.fields.fields_of.Goals as goal

pub loop-number-preserved : goal.loop-number-preserved
loop-number-preserved c =
    let types = c.args.types.now in
    let numbers = c.args.numbers.now in
    let i = c.loop-number.number-index in
    let number = get_or numbers i 0 in
    let less = c.loop-number-test.true in
    let before = c.loop-number.fields.items in
    let between = c.push_fields.new.fields.items in
    table_fields_more types numbers i number c.index-types-number.result before between c.push_fields-in-loop-number.new.fields.items c.loop-number.invariant less (read_again numbers i 0 number less)
    (each_item (λ number. number < length types) numbers i 0 c.requires less) c.index-types-number.is
    (c.in_ok-push_fields.ensures ∙ ap (λ l. before ++ map (λ place. (false, place)) l) c.as_slice.ensures)
    (c.in_ok-push_fields-2.ensures ∙ ap (λ l. between ++ map (λ place. (true, place)) l) c.as_slice-in-loop-number.ensures)
