use Rattle.std.proofs.Common.{ℕ, sym, subst, MatchOption}
use Rattle.px_meta.specs.Overriding.{Overrides}
use Rattle.px_meta.specs.Tokens.{IsOverridden}
use Rattle.px_meta.proofs.metadata.Meta.overridden.Goals as goal

pub returns-in_err-other : goal.returns-in_err-other
returns-in_err-other c =
    let v = c.args.self.now in
    subst (λ o. MatchOption o ((other : ℕ) → IsOverridden v c.args.token other → ⊥) (IsOverridden v c.args.token)) (sym c.from_residual-in_err-other.ensures)
    (λ other is. c.in_err-other.ensures.overridden is.row (subst (λ r. Overrides v r is.row) (sym c.in_ok-row.ensures.0) is.overrides))
