use Rattle.std.proofs.Common.{refl, sym, ◌∙◌, subst, arith}
use Rattle.std.specs.Str.{IsAscii}
use Rattle.px_asm_described.specs.Writable.{IsText}
use Rattle.px_asm_rows.proofs.TableTexts.{table_digits, table_plain_text, table_text_append}
use Rattle.px_asm_rows.proofs.fields.field_name.Goals as goal

pub returns : goal.returns
returns c =
    let plain : IsText c.in_ok-name.name.items = subst IsText (sym c.in_ok-name.ensures.items) (table_plain_text _ refl) in
    let digits : IsText c.as_bytes.result.now = subst IsText (sym c.format.ensures.text ∙ sym c.as_bytes.ensures.value) (table_digits c.args.number (omega arith) (subst IsAscii c.format.ensures.text c.format.ensures.ascii)) in
    subst IsText (sym c.in_ok-extend_from_slice.ensures.items) (table_text_append c.in_ok-name.name.items c.as_bytes.result.now plain digits)
