use Rattle.px_link_types.specs.Keys.{place_key}
use Rattle.px_link_methods.proofs.Added.{added_mapped}
use Rattle.px_link_methods.proofs.met.push_places.Goals as goal

pub loop-item-preserved : goal.loop-item-preserved
loop-item-preserved c =
    added_mapped c.args.meta.now (place_key c.args.meta.now) c.args.items.now c.loop-item.item-index _ c.args.keys.now.items c.loop-item.keys.items c.push.new.self.items c.place_key.result c.loop-item.invariant c.loop-item-test.true c.place_key.ensures.key c.place_key.ensures.there c.in_ok-push.ensures.items
