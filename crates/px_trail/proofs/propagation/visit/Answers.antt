use Rattle.std.proofs.Common.{◌<◌, ◌∙◌, ◌∷◌, [], Some, ap, sym, subst, refl, arith}
use Rattle.px_chain.specs.Clause.{variable_of}
use Rattle.px_chain.proofs.Members.{has_from_all}
use Rattle.px_trail.specs.Propagation.{trail_of}
use Rattle.px_trail.specs.Trail.{FollowFrom, Step, decisions_of}
use Rattle.px_trail.proofs.Lookups.{unassigned-known}
use Rattle.px_trail.proofs.Rounds.{GoesOn-unit, follow-unit}
use Rattle.px_trail.proofs.propagation.visit.Goals as goal

pub assign-requires-clause-over : goal.assign-requires-clause-over
assign-requires-clause-over c =
    let over = has_from_all (λ l. variable_of l < c.args.premises.now.vars) c.clause.result.now c.clause.ensures.over c.in-Unit.l c.in-Unit.ensures.within in
    omega (arith, over, c.requires.vars)

pub assign-requires-clause-unassigned : goal.assign-requires-clause-unassigned
assign-requires-clause-unassigned c = unassigned-known c.args.assignment.now.steps c.in-Unit.l c.in-Unit.ensures.unassigned

pub returns-in-Unit-clause-goes_on : goal.returns-in-Unit-clause-goes_on
returns-in-Unit-clause-goes_on c =
    let s : Step = record { literal = c.in-Unit.l; reason = Some c.args.number } in
    let goes = GoesOn-unit (trail_of c.args.premises.now c.args.assignment.now) c.in-Unit.l c.args.number c.clause.result.now c.clause.ensures.clause c.in-Unit.ensures in
    record {
      vars = c.assign.ensures.vars;
      clauses = refl;
      more = s ∷ [];
      steps = c.assign.ensures.steps;
      decisions = ap decisions_of c.assign.ensures.steps ∙ goes.decisions;
    }

pub returns-in-Unit-clause-trail : goal.returns-in-Unit-clause-trail
returns-in-Unit-clause-trail c = record {
  assignment = c.assign.ensures.formed;
  follow = subst (FollowFrom c.args.premises.now.clauses []) (sym c.assign.ensures.steps)
      (follow-unit (trail_of c.args.premises.now c.args.assignment.now) c.in-Unit.l c.args.number c.clause.result.now c.clause.ensures.clause c.in-Unit.ensures c.requires.trail);
}
