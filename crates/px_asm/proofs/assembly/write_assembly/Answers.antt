use Rattle.std.proofs.Common.{rules}
use Rattle.px_asm_law_relink.proofs.Writing.{linked_is_writable}
use Rattle.px_asm.proofs.Assembled.{assembled_of}
use Rattle.px_asm.proofs.assembly.write_assembly.Goals as goal

pub tables_of-requires : goal.tables_of-requires
tables_of-requires c = linked_is_writable c.args.program.now c.requires.linked c.requires.runs

pub returns : goal.returns
returns c =
    assembled_of c.args.program.now c.in_ok-written.written.content c.write_image.result _ _ _ _ c.deref.ensures.value c.deref-2.ensures.value c.requires.linked c.requires.runs
    c.in_ok-written.ensures (c.fits.ensures.0 (search rules)) c.in_ok-metadata.ensures c.write_image.ensures
