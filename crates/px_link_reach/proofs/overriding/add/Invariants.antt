use Rattle.px_link_reach.proofs.Adding.{AreAdding}
use Rattle.px_link_reach.proofs.Chains.{owners_left}
use Rattle.px_link_reach.proofs.overriding.add.Given as goal

abbrev pub invariant-loop-method : goal.invariant-loop-method
invariant-loop-method l = AreAdding l.parents l.fn.row l.at l.fn.lists l.lists

abbrev pub decreases-loop-method : goal.decreases-loop-method
decreases-loop-method l = owners_left l.parents l.at
