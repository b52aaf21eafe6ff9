use Rattle.std.proofs.Common.{◌∙◌, ◌++◌, ap}
use Rattle.byteorder.specs.Endian.{little_bytes}
use Rattle.px_asm_image.specs.Metadata.{table_bytes}
use Rattle.px_asm_image.proofs.Pushed.{tables_pushed}
use Rattle.px_asm_image.proofs.rows.tables_stream.Goals as goal

pub returns : goal.returns
returns c =
    let tables = c.args.tables.now in
    let mask = c.to_le_bytes.ensures ∙ ap (little_bytes 8) c.mask_of.ensures in
    let masked = c.in_ok-extend_from_slice.ensures.items ∙ ap (λ bytes. c.in_ok-out.out.items ++ bytes) mask in
    let rows = c.in_ok-push_tables.ensures ∙ ap (λ counts. c.push_counts.new.out.items ++ table_bytes counts 0 tables) c.counts_of.ensures in
    tables_pushed tables _ _ _ _ _ c.in_ok-out.ensures.items masked c.in_ok-extend_from_slice-2.ensures.items c.in_ok-push_counts.ensures rows
