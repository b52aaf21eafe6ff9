use Rattle.std.proofs.Common.{◌≡◌, ◌-◌, length}
use Rattle.px_trail.specs.Propagation.{trail_of}
use Rattle.px_trail.specs.Trail.{GoesOn, IsTrail}
use Rattle.px_trail.proofs.propagation.propagate.Given as goal

abbrev pub invariant-loop-outcome : goal.invariant-loop-outcome
invariant-loop-outcome l =
    (l.assignment.vars ≡ l.premises.vars) × GoesOn (trail_of l.premises l.initial.assignment) (trail_of l.premises l.assignment) × IsTrail (trail_of l.premises l.assignment)

abbrev pub decreases-loop-outcome : goal.decreases-loop-outcome
decreases-loop-outcome l = l.assignment.vars - length l.assignment.steps
