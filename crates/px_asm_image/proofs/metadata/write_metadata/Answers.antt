use Rattle.std.proofs.Common.{◌∙◌, ap, arith, length}
use Rattle.px_asm_image.specs.Metadata.{tables_stream}
use Rattle.px_asm_image.proofs.Whole.{streams_short, whole_is}
use Rattle.px_asm_image.proofs.metadata.write_metadata.Goals as goal

pub write_streams-requires : goal.write_streams-requires
write_streams-requires c =
    let tables = ap length (c.deref.ensures.value ∙ c.in_ok-tables.ensures ∙ ap tables_stream c.as_slice.ensures) in
    omega (arith, streams_short c.args.content.now c.requires, tables, ap length c.as_slice-2.ensures, ap length c.as_slice-3.ensures, ap length c.as_slice-4.ensures)

pub returns : goal.returns
returns c =
    let tables = c.deref.ensures.value ∙ c.in_ok-tables.ensures ∙ ap tables_stream c.as_slice.ensures in
    whole_is c.args.content.now c.write_streams.result _ _ _ _ c.requires tables c.as_slice-2.ensures c.as_slice-3.ensures c.as_slice-4.ensures c.write_streams.ensures
