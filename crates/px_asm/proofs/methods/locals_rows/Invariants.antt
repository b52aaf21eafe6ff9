use Rattle.std.proofs.Common.{take}
use Rattle.std.specs.List.{AllZip}
use Rattle.px_asm_law_written.specs.Holds.{IsLocals}
use Rattle.px_asm_law_written.specs.Store.{StoreGrows}
use Rattle.px_asm.proofs.methods.locals_rows.Given as goal

abbrev pub invariant-loop-number : goal.invariant-loop-number
invariant-loop-number l = AllZip (IsLocals l.rows l.store) (take l.number-index l.numbers) l.made.items × StoreGrows l.initial.store l.store
