use Rattle.std.proofs.Common.{◌∙◌, refl}
use Rattle.px_trail.specs.Propagation.{trail_of}
use Rattle.px_trail.specs.Trail.{up_to}
use Rattle.px_trail.proofs.Trails.{IsTrail-like, IsTrail-up_to}
use Rattle.px_trail.proofs.trail.Trail.back_to.Goals as goal

pub invariant_of-self : goal.invariant_of-self
invariant_of-self c = (
  c.back_to.ensures.vars ∙ c.self.invariant.0,
  IsTrail-like c.self.inside.assignment.vars c.self.inside.premises.clauses (up_to c.args.level c.self.inside.assignment.steps) (trail_of c.self.inside.premises c.back_to.new.self)
      c.back_to.ensures.vars refl c.back_to.ensures.steps (IsTrail-up_to (trail_of c.self.inside.premises c.self.inside.assignment) c.args.level c.self.invariant.1),
)
