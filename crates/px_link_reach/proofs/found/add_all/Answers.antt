use Rattle.std.proofs.Common.{get_or, refl}
use Rattle.px_link_reach.proofs.Sets.{added_next}
use Rattle.px_link_reach.proofs.found.add_all.Goals as goal

pub loop-row-preserved : goal.loop-row-preserved
loop-row-preserved c =
    let added = c.in_ok-add.ensures in
    record {
      rows = added_next c.args.rows.now.keys c.loop-row.rows.keys c.add.new.rows.keys c.args.more.now c.loop-row.row-index (get_or c.args.more.now c.loop-row.row-index 0) 0 c.loop-row-test.true refl c.loop-row.invariant.rows added.rows;
      few = added.few;
    }
