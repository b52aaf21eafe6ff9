use Rattle.std.proofs.Common.{◌≡◌, true, sym, ap, ◌∙◌, subst}
use Rattle.px_link_types.specs.Keys.{place_key}
use Rattle.px_link_types.specs.Numbers.{is_numbered, place_in}
use Rattle.px_link_methods.specs.Methods.{place_of_type}
use Rattle.px_link_methods.proofs.Pieces.{each_mapped, mapped_more}
use Rattle.px_link_methods.proofs.places.places_of.Goals as goal

pub place-requires : goal.place-requires
place-requires c =
    let keys = c.args.types.now.keys in
    subst (λ key. is_numbered keys key ≡ true) (sym c.place_key.ensures.key)
    (each_mapped (λ key. is_numbered keys key ≡ true) (place_key c.args.meta.now) c.args.items.now c.loop-item.item-index _ c.requires c.loop-item-test.true)

pub loop-item-preserved : goal.loop-item-preserved
loop-item-preserved c =
    let pushed = c.in_ok-push.ensures in
    mapped_more (place_of_type c.args.meta.now c.args.types.now.keys) c.args.items.now c.loop-item.item-index _ c.loop-item.places.items c.push.new.self.items c.place.result c.loop-item.invariant c.loop-item-test.true
    (c.place.ensures ∙ ap (place_in c.args.types.now.keys) c.place_key.ensures.key) pushed.items
