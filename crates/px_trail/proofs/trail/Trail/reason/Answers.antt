use Rattle.std.proofs.Common.{◌≡◌, ℕ, Option, sym, subst, rules}
use Rattle.std.specs.Option.{IfSome}
use Rattle.px_trail.specs.Trail.{Explains, IsTrail, reason_of}
use Rattle.px_trail.proofs.Trails.{explains}
use Rattle.px_trail.proofs.trail.Trail.reason.Goals as goal

pub returns-clause-explains : goal.returns-clause-explains
returns-clause-explains c =
    let e : c.and_then.result ≡ reason_of c.args.self.now.steps c.args.variable = search rules in
    let P : Option ℕ → Type 0 = λ o. IfSome o (λ number. Explains c.args.self.now c.args.variable number) in
    subst P (sym e) (explains c.args.self.now c.args.variable (subst IsTrail c.self.view_is c.self.invariant.1))
