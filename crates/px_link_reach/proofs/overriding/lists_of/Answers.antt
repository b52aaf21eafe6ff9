use Rattle.std.proofs.Common.{◌+◌, refl, ap, sym, subst, ◌∙◌, length, take, arith}
use Rattle.std.proofs.lemmas.List.{take_all}
use Rattle.px_meta.proofs.Rows.{written}
use Rattle.px_link_reach.proofs.Listing.{ArePartial, partial_ended, partial_more}
use Rattle.px_link_reach.proofs.overriding.lists_of.Goals as goal

pub loop-row-preserved : goal.loop-row-preserved
loop-row-preserved c =
    let v = c.args.parents.now in
    let order = c.args.order.now in
    let items = c.loop-row.lists.items in
    let news = c.add.new.lists in
    let k = c.loop-row.row-index in
    let lent = c.deref_mut.ensures.value in
    let size = c.add.auto.lists ∙ ap length lent in
    subst (λ xs. ArePartial v (take (k + 1) order) xs) (sym (written news items c.loop-row.lists.len size (omega arith)))
    (partial_more v order k _ c.deref_mut.result.now news c.requires (omega arith) refl (subst (λ xs. ArePartial v (take k order) xs) (sym lent) c.loop-row.invariant) c.in_ok-add.ensures)

pub returns : goal.returns
returns c = partial_ended c.args.parents.now c.args.order.now (take c.loop-row.row-index c.args.order.now) c.loop-row.lists.items c.requires (take_all c.loop-row.row-index c.args.order.now (omega arith)) c.loop-row.invariant
