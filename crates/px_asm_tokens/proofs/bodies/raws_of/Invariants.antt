use Rattle.std.proofs.Common.{take}
use Rattle.std.specs.List.{AllZip}
use Rattle.px_asm_law_written.specs.Holds.{IsInstrIn}
use Rattle.px_asm_law_written.specs.Store.{AreReferences, StoreGrows}
use Rattle.px_asm_tokens.proofs.bodies.raws_of.Given as goal

abbrev pub invariant-loop-instr : goal.invariant-loop-instr
invariant-loop-instr l = record {
  are : AllZip (IsInstrIn l.rows l.store) (take l.instr-index l.code) l.raws;
  grows : StoreGrows l.fn.store l.store;
  kept : AreReferences l.rows l.store;
}
