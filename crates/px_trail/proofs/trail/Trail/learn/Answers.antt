use Rattle.std.proofs.Common.{◌≡◌, ◌∙◌, ◌++◌, ◌∷◌, [], refl, sym}
use Rattle.px_chain.specs.Clause.{clause_of}
use Rattle.px_trail.specs.Propagation.{trail_of}
use Rattle.px_trail.specs.Trail.{IsTrail}
use Rattle.px_trail.proofs.Trails.{IsTrail-like, IsTrail-more, ok_or_err}
use Rattle.px_trail.proofs.trail.Trail.learn.Goals as goal

pub invariant_of-self : goal.invariant_of-self
invariant_of-self c =
    let old = trail_of c.self.inside.premises c.self.inside.assignment in
    let next = trail_of c.add.new.self c.self.inside.assignment in
    let more = c.self.inside.premises.clauses ++ clause_of c.args.clause.now ∷ [] in (
      c.self.invariant.0 ∙ sym c.add.ensures.vars,
      ok_or_err c.add.result (c.add.new.self.clauses ≡ more) (c.add.new.self.clauses ≡ c.self.inside.premises.clauses) (IsTrail next) c.add.ensures.ok c.add.ensures.err
          (λ e. IsTrail-like old.vars more old.steps next refl e refl (IsTrail-more old (clause_of c.args.clause.now ∷ []) c.self.invariant.1))
          (λ e. IsTrail-like old.vars old.clauses old.steps next refl e refl c.self.invariant.1),
    )
