use Rattle.std.proofs.Common.{take}
use Rattle.std.specs.List.{AllZip}
use Rattle.px_asm_law_written.specs.Holds.{IsFieldDef}
use Rattle.px_asm_law_written.specs.Store.{StoreGrows}
use Rattle.px_asm_rows.proofs.fields.field_rows.Given as goal

abbrev pub invariant-loop-number : goal.invariant-loop-number
invariant-loop-number l = AllZip (IsFieldDef l.rows l.store) (take l.number l.fields) l.made.items × StoreGrows l.initial.store l.store
