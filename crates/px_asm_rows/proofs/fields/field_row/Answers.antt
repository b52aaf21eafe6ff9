use Rattle.std.proofs.Common.{◌%◌, ◌^◌, sym, ap, ◌∙◌}
use Rattle.px_tables.specs.Counts.{has_bit}
use Rattle.px_asm_store.proofs.StoreStays.{string_stays}
use Rattle.px_asm_rows.proofs.fields.field_row.Goals.{then-is_static, else-is_static}
use Rattle.px_asm_rows.proofs.fields.field_row.Goals as goal

pub returns-clause-row : goal.returns-clause-row
returns-clause-row c = record {
  static = elim c.if-is_static.branch [
    | then-is_static w ↦ ap (λ flags. has_bit (flags % 2 ^ 16) 4) w.flags-is ∙ sym w.if-is_static.true
    | else-is_static w ↦ ap (λ flags. has_bit (flags % 2 ^ 16) 4) w.flags-is ∙ sym w.if-is_static.false
  ];
  some_name = c.deref.result.now;
  name = string_stays c.name.new.self.strings c.field_sig.new.self.strings c.in_ok-sig.ensures.grows.strings c.in_ok-name-2.name c.deref.result.now c.in_ok-name-2.ensures.stands;
  type = c.type_of-item.result;
  sig = c.in_ok-sig.ensures.stands;
  is = c.type_of-item.ensures.is;
}
