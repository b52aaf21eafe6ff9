use Rattle.px_meta.proofs.Rows.{first_push}
use Rattle.px_link_reach.specs.Parts.{IsParent}
use Rattle.px_link_reach.proofs.parents.Parents.new.Goals as goal

pub loop-n-preserved : goal.loop-n-preserved
loop-n-preserved c =
    first_push IsParent c.args.meta.now c.loop-n.n c.loop-n.rows.items c.push.new.self.items c.overridden_row.result c.loop-n.invariant c.overridden_row.ensures.overridden c.in_ok-push.ensures.items
