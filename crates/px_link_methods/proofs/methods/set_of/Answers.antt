use Rattle.px_link_methods.proofs.Standing.{set_more}
use Rattle.px_link_methods.proofs.methods.set_of.Goals as goal

pub loop-row-preserved : goal.loop-row-preserved
loop-row-preserved c =
    let inserted = c.in_ok-insert.ensures in
    set_more c.args.rows.now c.loop-row.row-index c.loop-row.set.keys c.insert.new.self.keys c.requires c.loop-row-test.true c.loop-row.invariant inserted.keys
