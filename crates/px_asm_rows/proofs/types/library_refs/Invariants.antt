use Rattle.std.proofs.Common.{map, take}
use Rattle.std.specs.List.{AllZip}
use Rattle.px_asm_heaps.specs.Heaps.{HasString}
use Rattle.std.specs.Prelude.{codes}
use Rattle.px_asm_law_written.specs.Holds.{IsTypeRef, system}
use Rattle.px_asm_law_written.specs.Store.{StoreGrows}
use Rattle.px_asm_rows.proofs.types.library_refs.Given as goal

abbrev pub invariant-loop-info : goal.invariant-loop-info
invariant-loop-info l = AllZip (IsTypeRef l.store) (map system (take l.info-index l.info-items)) l.made.items × (HasString l.store.strings l.namespace (codes "System") × StoreGrows l.initial.store l.store)
