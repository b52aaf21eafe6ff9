use Rattle.std.proofs.Common.{take}
use Rattle.std.specs.List.{AllZip}
use Rattle.px_link.specs.Layout.{IsSlot}
use Rattle.px_link.proofs.layout.slots_of.Given as goal

-- the slots of the rows so far
abbrev pub invariant-loop-row : goal.invariant-loop-row
invariant-loop-row l = AllZip (IsSlot l.meta l.numbers.keys) (take l.row-index l.rows) l.slots
