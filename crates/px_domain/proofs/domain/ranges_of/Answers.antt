use Rattle.px_domain.proofs.Words.{one_part_more}
use Rattle.px_domain.proofs.domain.ranges_of.Goals as goal

pub loop-part-preserved : goal.loop-part-preserved
loop-part-preserved c =
    one_part_more c.args.parts.now c.loop-part.part-index _ c.loop-part.ranges.items c.push_ranges.new.ranges.items c.loop-part-test.true c.loop-part.invariant c.in_ok-push_ranges.ensures
