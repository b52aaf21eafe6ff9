use Rattle.std.proofs.Common.{take}
use Rattle.std.specs.List.{AllZip}
use Rattle.px_asm_rows.specs.Tables.{HasAddress}
use Rattle.px_asm_law_written.specs.Store.{AreReferences}
use Rattle.px_asm.proofs.methods.addresses_of.Given as goal

abbrev pub invariant-loop-number : goal.invariant-loop-number
invariant-loop-number l = AllZip (HasAddress l.rows l.store l.bodies.items) (take l.number-index l.numbers) l.addresses.items × AreReferences l.rows l.store
