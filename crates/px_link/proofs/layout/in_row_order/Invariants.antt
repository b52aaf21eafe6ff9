use Rattle.std.proofs.Common.{◌≡◌, take}
use Rattle.px_link.specs.Placed.{numbers_placed}
use Rattle.px_link.proofs.layout.in_row_order.Given as goal

-- the numbers so far
abbrev pub invariant-loop-one : goal.invariant-loop-one
invariant-loop-one l = l.numbers ≡ numbers_placed (take l.one-index l.one-items)
