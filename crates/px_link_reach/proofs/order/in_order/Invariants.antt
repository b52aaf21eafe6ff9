use Rattle.std.proofs.Common.{◌≡◌, take}
use Rattle.px_link_reach.specs.Parts.{rows_named}
use Rattle.px_link_reach.proofs.order.in_order.Given as goal

abbrev pub invariant-loop-method : goal.invariant-loop-method
invariant-loop-method l = l.rows.items ≡ rows_named (take l.method-index l.method-items)
