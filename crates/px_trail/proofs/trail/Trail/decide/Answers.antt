use Rattle.std.proofs.Common.{◌+◌, ◌∙◌, List, [], None, length, ap, sym, subst}
use Rattle.px_trail.specs.Trail.{FollowFrom, Step, View, decisions_of}
use Rattle.px_trail.proofs.Levels.{count_push}
use Rattle.px_trail.proofs.Trails.{follow-push}
use Rattle.px_trail.proofs.trail.Trail.decide.Goals as goal

pub invariant_of-self : goal.invariant_of-self
invariant_of-self c =
    let s : Step = record { literal = c.args.x; reason = None } in (
      c.assign.ensures.vars ∙ c.self.invariant.0,
      record {
        assignment = c.assign.ensures.formed;
        follow = subst (FollowFrom c.self.inside.premises.clauses []) (sym c.assign.ensures.steps)
            (follow-push c.self.inside.premises.clauses [] c.self.inside.assignment.steps s c.self.invariant.1.follow tt);
      },
    )

pub returns-clause-decisions : goal.returns-clause-decisions
returns-clause-decisions c =
    let s : Step = record { literal = c.args.x; reason = None } in
    ap (λ (ss : List Step). length (decisions_of ss)) c.assign.ensures.steps
    ∙ sym (count_push c.self.inside.assignment.steps s)
    ∙ ap (λ (v : View). length (decisions_of v.steps) + 1) c.self.view_is
