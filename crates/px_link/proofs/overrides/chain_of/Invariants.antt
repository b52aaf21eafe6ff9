use Rattle.px_meta.specs.Faults.{IsFaultless}
use Rattle.px_link.proofs.Bases.{IsWalk, bases_left}
use Rattle.px_link.proofs.overrides.chain_of.Given as goal

abbrev pub invariant-loop-base : goal.invariant-loop-base
invariant-loop-base l = record { walk : IsWalk l.meta l.fn.row l.chain.items l.at; faultless : IsFaultless l.meta }

abbrev pub decreases-loop-base : goal.decreases-loop-base
decreases-loop-base l = bases_left l.meta l.at
