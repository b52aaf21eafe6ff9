use Rattle.std.proofs.Common.{◌∙◌, ◌++◌, ◌∷◌, [], List, ℕ, ap}
use Rattle.px_sat.proofs.Descents.{decides_by}
use Rattle.px_sat.proofs.descent.decide.Goals as goal

pub returns-clause-decides : goal.returns-clause-decides
returns-clause-decides c =
    decides_by c.args.trail.now c.decide.new.self c.propagate.new.self c.args.x c.push.new.self.items c.propagate.result c.decide.ensures.steps c.propagate.ensures.goes_on
    (c.in_ok-push.ensures.items ∙ ap (λ (ds : List ℕ). ds ++ c.args.x ∷ []) c.requires.decisions) c.propagate.ensures.outcome
