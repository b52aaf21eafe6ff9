use Rattle.std.proofs.Common.{ap, sym, ◌∙◌}
use Rattle.px_meta.specs.Members.{IsMethod}
use Rattle.px_meta.specs.Rows.{methods}
use Rattle.px_meta.specs.declared.meta.MetaMethod.{MetaMethod}
use Rattle.px_meta.proofs.Alike.{item_of}
use Rattle.px_link_reach.proofs.order.owner_of.Goals as goal

pub returns : goal.returns
returns c =
    let is = item_of IsMethod c.args.meta.now methods c.args.method c.methods.result.now c.index-methods-method.result c.methods.ensures c.requires c.index-methods-method.is in
    ap (λ (m : MetaMethod). m.owner) (sym c.index-methods-method.is) ∙ is.owner
