use Rattle.px_link.specs.Layout.{IsSlot}
use Rattle.px_link.proofs.Slots.{zip_more}
use Rattle.px_link.proofs.layout.slots_of.Goals as goal

pub loop-row-preserved : goal.loop-row-preserved
loop-row-preserved c =
    zip_more (IsSlot c.args.meta.now c.args.numbers.now.keys) c.args.rows.now c.loop-row.row-index c.loop-row.slots c.push.new.self c.slot_of.result c.loop-row-test.true c.loop-row.invariant c.slot_of.ensures c.in_ok-push.ensures.ok
