use Rattle.std.proofs.Common.{◌≡◌}
use Rattle.px_trail.specs.Propagation.{trail_of}
use Rattle.px_trail.proofs.Rounds.{HasGone}
use Rattle.px_trail.proofs.propagation.round.Given as goal

abbrev pub invariant-loop-number : goal.invariant-loop-number
invariant-loop-number l =
    (l.assignment.vars ≡ l.premises.vars) × HasGone (trail_of l.premises l.initial.assignment) (trail_of l.premises l.assignment) l.number l.changed
