use Rattle.px_meta.specs.Faults.{IsFaultless}
use Rattle.px_link_types.proofs.Nesting.{IsWalk, outers_left}
use Rattle.px_link_types.proofs.naming.outers_of.Given as goal

abbrev pub invariant-loop-outer : goal.invariant-loop-outer
invariant-loop-outer l = record { walk : IsWalk l.meta l.fn.row l.outers.items l.at; faultless : IsFaultless l.meta }

abbrev pub decreases-loop-outer : goal.decreases-loop-outer
decreases-loop-outer l = outers_left l.meta l.at
