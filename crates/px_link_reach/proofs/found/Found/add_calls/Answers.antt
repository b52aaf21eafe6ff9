use Rattle.std.proofs.Common.{[], ◌∷◌, subst}
use Rattle.std.specs.Prelude.{IfSome}
use Rattle.px_link_reach.specs.Met.{IsOwned}
use Rattle.px_link_reach.proofs.Keeping.{both_ok, kept_more}
use Rattle.px_link_reach.proofs.found.Found.add_calls.Goals as goal

pub returns-in-Some-2-clause-kept : goal.returns-in-Some-2-clause-kept
returns-in-Some-2-clause-kept c =
    let v = c.args.tokens.now in
    let target = c.in-Some.target in
    let owned = subst (λ o. IfSome o (IsOwned v)) c.in-Some.is c.in_ok-target.ensures.owned in
    both_ok c.add.result c.add.ensures.rows c.add.ensures.few
    (λ is few. kept_more v c.args.overriding.now.lists c.args.self.now.rows.keys c.args.self.now.virtual_targets.keys c.add.new.rows.keys (target ∷ []) c.requires.kept (owned, tt) is few)
