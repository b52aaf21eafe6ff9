use Rattle.px_link_reach.specs.Parts.{AreNamed}
use Rattle.px_link_reach.proofs.order.with_owners.Given as goal

abbrev pub invariant-loop-n : goal.invariant-loop-n
invariant-loop-n l = AreNamed l.parents l.n l.named.items
