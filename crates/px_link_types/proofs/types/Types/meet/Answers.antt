use Rattle.std.proofs.Common.{sym, ap, subst}
use Rattle.std.specs.List.{AllByRecursion}
use Rattle.px_link_types.specs.Keys.{IsKey}
use Rattle.px_link_types.proofs.Visiting.{kept_more}
use Rattle.px_link_types.proofs.types.Types.meet.Goals as goal

pub invariant_of-self : goal.invariant_of-self
invariant_of-self c =
    let met = c.in-Ok.ensures in
    let there = subst (λ v. AllByRecursion (IsKey v) c.args.met.now) (sym (ap (λ n. n.tables) c.self.view_is)) c.requires.there in
    kept_more c.self.inside.meta.now c.self.inside.keys.keys c.args.met.now c.number_all.new.keys.keys c.self.invariant there met.numbers met.few
