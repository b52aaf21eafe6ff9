use Rattle.std.proofs.Common.{take}
use Rattle.std.specs.List.{AllZip}
use Rattle.px_asm_law_written.specs.Holds.{IsSpecRow}
use Rattle.px_asm_law_written.specs.Store.{StoreGrows}
use Rattle.px_asm_rows.proofs.spelled.rows_of.Given as goal

abbrev pub invariant-loop-place : goal.invariant-loop-place
invariant-loop-place l = AllZip (IsSpecRow l.rows l.store) (take l.place-index l.places) l.made.items × StoreGrows l.initial.store l.store
