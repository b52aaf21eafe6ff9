use Rattle.std.proofs.Common.{take}
use Rattle.px_link_reach.proofs.Listing.{ArePartial}
use Rattle.px_link_reach.proofs.overriding.lists_of.Given as goal

abbrev pub invariant-loop-row : goal.invariant-loop-row
invariant-loop-row l = ArePartial l.parents (take l.row-index l.order) l.lists.items
