use Rattle.std.proofs.Common.{◌∷◌, ◌++◌, [], map, take, ap, sym, ◌∙◌, append_assoc}
use Rattle.std.proofs.lemmas.List.{map_more}
use Rattle.px_link_methods.specs.Slots.{is_other}
use Rattle.px_link_methods.proofs.slots.push_forms.Goals as goal

pub loop-item-preserved : goal.loop-item-preserved
loop-item-preserved c =
    let f = is_other c.args.meta.now in
    let old = c.args.forms.now.items in
    let done = map f (take c.loop-item.item-index c.args.items.now) in
    let one = map_more f c.args.items.now c.loop-item.item-index _ c.loop-item-test.true in
    c.in_ok-push.ensures.items ∙ ap (λ l. l ++ c.is_other.result ∷ []) c.loop-item.invariant ∙ append_assoc old done (c.is_other.result ∷ []) ∙ ap (λ z. old ++ (done ++ z ∷ [])) c.is_other.ensures ∙ ap (λ l. old ++ l) (sym one)
