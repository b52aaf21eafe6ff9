use Rattle.std.proofs.Common.{◌-◌, ◌^◌}
use Rattle.px_link_reach.specs.Finding.{AreUnderWay}
use Rattle.px_link_reach.proofs.methods.reach.Given as goal

-- the first methods are looked at
abbrev pub invariant-loop-number : goal.invariant-loop-number
invariant-loop-number l = AreUnderWay l.tokens l.image l.overriding.lists l.starts l.number l.found.rows.keys l.found.virtual_targets.keys l.known

-- fewer than 2^32 methods are met
abbrev pub decreases-loop-number : goal.decreases-loop-number
decreases-loop-number l = 2 ^ 32 - l.number
