use Rattle.std.proofs.Common.{◌<◌, length, arith}
use Rattle.px_trail.specs.Outcome.{IsOutcome}
use Rattle.px_trail.specs.Propagation.{trail_of}
use Rattle.px_trail.proofs.Lookups.{few_steps}
use Rattle.px_trail.proofs.Rounds.{not_some}
use Rattle.px_trail.proofs.propagation.propagate.Goals as goal

pub loop-outcome-smaller : goal.loop-outcome-smaller
loop-outcome-smaller c =
    let next = c.round.new.assignment in
    let more = not_some c.round.result (length c.loop-outcome.assignment.steps < length next.steps) (IsOutcome (trail_of c.args.premises.now next)) c.in_default.not-Some c.round.ensures.outcome in
    omega (arith, more, few_steps next.vars next.steps c.round.ensures.trail.assignment, c.round.ensures.goes_on.vars)
