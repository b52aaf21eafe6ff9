use Rattle.std.proofs.Common.{◌<◌, ◌∙◌, ◌++◌, ◌∷◌, [], List, length, ap, sym, subst, arith}
use Rattle.px_trail.specs.Trail.{Step, decisions_of, up_to}
use Rattle.px_trail.proofs.Levels.{last_counts, up_to-all, up_to-front}
use Rattle.px_trail.proofs.assignment.PartialAssignment.back_to.Goals as goal

pub loop-self-preserved : goal.loop-self-preserved
loop-self-preserved c =
    let w = c.undo.ensures.steps in
    let more : c.args.level < length (decisions_of c.loop-self.self.steps) = omega (arith, c.decided.ensures, c.loop-self-test.true) in
    let more_then : c.args.level < length (decisions_of (c.undo.new.self.steps ++ w.0 ∷ [])) = subst (λ (ss : List Step). c.args.level < length (decisions_of ss)) w.1 more in (
      c.undo.ensures.vars ∙ c.loop-self.invariant.0,
      sym (up_to-front c.args.level c.undo.new.self.steps w.0 more_then) ∙ sym (ap (up_to c.args.level) w.1) ∙ c.loop-self.invariant.1,
      omega (arith, more_then, last_counts c.undo.new.self.steps w.0),
    )

pub returns-clause-steps : goal.returns-clause-steps
returns-clause-steps c =
    sym (up_to-all c.args.level c.loop-self.self.steps (omega (arith, c.decided.ensures, c.loop-self-test.false))) ∙ c.loop-self.invariant.1
