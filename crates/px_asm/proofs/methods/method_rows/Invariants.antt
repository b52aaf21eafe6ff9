use Rattle.std.proofs.Common.{ℕ, List, take}
use Rattle.std.specs.List.{AllZip}
use Rattle.px_asm_law_written.specs.Holds.{IsMethodDef}
use Rattle.px_asm_law_written.specs.Store.{Store, StoreGrows}
use Rattle.px_asm_rows.specs.Tables.{HasAddress, HeapsGrow}
use Rattle.px_asm.proofs.methods.method_rows.Given as goal

-- the rows so far, in all stores that have the heaps
abbrev pub invariant-loop-at : goal.invariant-loop-at
invariant-loop-at l = ((s : Store) (bodies : List ℕ) → AllZip (HasAddress l.rows s bodies) l.numbers l.addresses → HeapsGrow l.store s → AllZip (IsMethodDef l.rows s bodies) (take l.at l.numbers) l.made.items) × StoreGrows l.initial.store l.store
