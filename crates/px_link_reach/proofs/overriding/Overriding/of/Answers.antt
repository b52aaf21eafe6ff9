use Rattle.std.proofs.Common.{ap, sym, subst}
use Rattle.px_meta.specs.Rows.{IsRow, methods}
use Rattle.px_meta.proofs.Alike.{item_of}
use Rattle.px_link_reach.specs.Overriders.{AreOverriders, Overriders}
use Rattle.px_link_reach.proofs.overriding.Overriding.of.Goals as goal

pub returns-clause-overriders : goal.returns-clause-overriders
returns-clause-overriders c =
    let v = c.self.inside.meta.now in
    let same = ap (λ (o : Overriders). o.tables) c.self.view_is in
    let row = subst (λ v. IsRow v methods c.args.method) (sym same) c.requires in
    let list = c.index.result.now in
    let is = item_of AreOverriders v methods c.args.method c.self.inside.lists.items list c.self.invariant row c.index.ensures in
    subst (λ v. AreOverriders v c.args.method c.as_slice.result.now) same (subst (λ l. AreOverriders v c.args.method l) (sym c.as_slice.ensures) is)
