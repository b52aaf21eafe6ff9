use Rattle.std.proofs.Common.{sym, subst}
use Rattle.std.specs.Prelude.{IfSome}
use Rattle.px_meta.specs.Rows.{IsRow, methods}
use Rattle.px_meta.proofs.Alike.{item_of}
use Rattle.px_meta.proofs.Overridden.{overridden_row}
use Rattle.px_link_reach.specs.Parts.{IsParent}
use Rattle.px_link_reach.proofs.parents.Parents.of.Goals as goal

pub returns-clause-overridden : goal.returns-clause-overridden
returns-clause-overridden c =
    let v = c.self.inside.meta.now in
    let row = subst (λ v. IsRow v methods c.args.method) (sym c.self.view_is) c.requires in
    subst (λ v. IsParent v c.args.method c.index.result.now) c.self.view_is (item_of IsParent v methods c.args.method c.self.inside.rows.items c.index.result.now c.self.invariant.each row c.index.ensures)

pub returns-clause-there : goal.returns-clause-there
returns-clause-there c =
    let v = c.self.inside.meta.now in
    let row = subst (λ v. IsRow v methods c.args.method) (sym c.self.view_is) c.requires in
    let is = item_of IsParent v methods c.args.method c.self.inside.rows.items c.index.result.now c.self.invariant.each row c.index.ensures in
    subst (λ v. IfSome c.index.result.now (IsRow v methods)) c.self.view_is (overridden_row v c.args.method c.index.result.now is)
