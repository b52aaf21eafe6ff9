use Rattle.std.proofs.Common.{take}
use Rattle.std.specs.List.{AllZip}
use Rattle.px_asm_rows.specs.Tables.{IsTypeDefOf}
use Rattle.px_asm_law_written.specs.Store.{StoreGrows}
use Rattle.px_asm_rows.proofs.types.class_rows.Given as goal

abbrev pub invariant-loop-number : goal.invariant-loop-number
invariant-loop-number l = AllZip (IsTypeDefOf l.rows l.store) (take l.number-index l.numbers) l.made.items × StoreGrows l.initial.store l.store
