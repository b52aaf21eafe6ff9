use Rattle.std.proofs.Common.{◌∙◌, ap}
use Rattle.px_asm_image.specs.Metadata.{has_rows}
use Rattle.std.specs.Prelude.{if◌then◌else◌}
use Rattle.px_asm_image.proofs.Pushed.{bit_more, bit_of}
use Rattle.px_asm_image.proofs.rows.mask_of.Goals as goal

pub loop-table-preserved : goal.loop-table-preserved
loop-table-preserved c =
    let l = c.loop-table in
    let rows = c.index-tables-table in
    let bit = bit_of c.is_empty.result rows.result c.from.result c.is_empty.ensures c.from.ensures ∙ ap (λ r. if has_rows r then 1 else 0) rows.is in
    let more = bit_more c.args.tables.now l.mask _ l.table c.from.result rows.result c.loop-table-test.true c.requires bit l.invariant.bits l.invariant.small in
    record { bits = more.0; small = more.1 }
