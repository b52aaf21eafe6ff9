use Rattle.px_link_reach.proofs.Chains.{owners_left}
use Rattle.px_link.proofs.Slots.{IsWalkTo}
use Rattle.px_link.proofs.layout.overridden_among.Given as goal

-- so far it overrides none of those that have numbers
abbrev pub invariant-loop-other : goal.invariant-loop-other
invariant-loop-other l = IsWalkTo l.meta l.numbers.keys l.fn.row l.at

abbrev pub decreases-loop-other : goal.decreases-loop-other
decreases-loop-other l = owners_left l.meta l.at
