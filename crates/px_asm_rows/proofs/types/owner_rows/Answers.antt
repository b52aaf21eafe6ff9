use Rattle.std.proofs.Common.{◌+◌, ◌<◌, length, get_or, ap, ◌∙◌}
use Rattle.px_link_methods.proofs.Pieces.{each_item, mapped_more}
use Rattle.px_asm_described.specs.Writable.{owner_place}
use Rattle.px_asm_rows.proofs.TableTypes.{table_owner_row}
use Rattle.px_asm_rows.proofs.types.owner_rows.Goals as goal

pub loop-number-preserved : goal.loop-number-preserved
loop-number-preserved c =
    let p = c.args.rows.now in
    let numbers = c.args.numbers.now in
    let i = c.loop-number.number-index in
    let number = get_or numbers i 0 in
    let less = c.loop-number-test.true in
    let same = c.as_slice.ensures ∙ ap (λ q. q.methods) c.program.ensures.same in
    let there : number < length p.methods = each_item (λ number. number < length p.methods) numbers i 0 c.requires less in
    mapped_more (λ number. owner_place p number + 2) numbers i 0 c.loop-number.owners.items c.push.new.self.items c.type_row.result c.loop-number.invariant less
    (table_owner_row p c.as_slice.result.now number c.index-as_slice-number.result c.type_row.result same there c.index-as_slice-number.is c.type_row.ensures.row) c.in_ok-push.ensures.items
