use Rattle.std.proofs.Common.{◌+◌, ◌∙◌, sym, subst, arith}
use Rattle.px_trail.specs.Propagation.{trail_of}
use Rattle.px_trail.proofs.Rounds.{HasGone, HasGone-settled, HasGone-unit, round-quiet}
use Rattle.px_trail.proofs.Trails.{false_clause-conflict}
use Rattle.px_trail.proofs.propagation.round.Goals as goal
use Rattle.px_trail.proofs.propagation.round.Goals.{in-Settled, in-Unit}

pub returns-in-False-clause-outcome : goal.returns-in-False-clause-outcome
returns-in-False-clause-outcome c =
    (c.in-False.ensures.found, false_clause-conflict (trail_of c.args.premises.now c.visit.new.assignment) c.loop-number.number c.in-False.ensures.trail c.in-False.ensures.found)

pub loop-number-preserved : goal.loop-number-preserved
loop-number-preserved c =
    let old = trail_of c.args.premises.now c.args.assignment.now in
    let now = trail_of c.args.premises.now c.loop-number.assignment in
    let next = trail_of c.args.premises.now c.visit.new.assignment in
    let n = c.loop-number.number in (
      c.visit.ensures.goes_on.vars ∙ c.loop-number.invariant.0,
      elim c.match-visit.branch [
        | in-Unit w ↦ subst (HasGone old next (n + 1)) (sym w.changed-is)
            (HasGone-unit old now next n c.loop-number.changed c.visit.ensures.goes_on c.visit.ensures.trail w.in-Unit.ensures.found c.loop-number.invariant.1)
        | in-Settled w ↦ subst (HasGone old next (n + 1)) (sym w.changed-is)
            (HasGone-settled old now next n c.loop-number.changed c.visit.ensures.goes_on c.visit.ensures.trail w.in-Settled.ensures.found c.loop-number.invariant.1)
      ],
    )

pub returns-else-changed-clause-outcome : goal.returns-else-changed-clause-outcome
returns-else-changed-clause-outcome c =
    let old = trail_of c.args.premises.now c.args.assignment.now in
    let now = trail_of c.args.premises.now c.loop-number.assignment in
    round-quiet old now c.loop-number.number (omega (arith, c.len-number-end.ensures, c.loop-number-test.false))
    (subst (HasGone old now c.loop-number.number) c.if-changed.false c.loop-number.invariant.1)
