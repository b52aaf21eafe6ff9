use Rattle.px_link_reach.specs.Met.{calls_of, virtual_target_of}
use Rattle.px_link_reach.proofs.Sets.{added_more}
use Rattle.px_link_reach.proofs.found.Found.add_code.Goals as goal

pub loop-raw-preserved : goal.loop-raw-preserved
loop-raw-preserved c =
    let was = c.loop-raw.invariant in
    let added = c.in_ok-add_calls.ensures in
    let raw = c.raw-item.result in
    let before = c.args.self.now in
    let now = c.loop-raw.self in
    let next = c.add_calls.new.self in
    record {
      rows = added_more (calls_of c.args.tokens.now c.args.overriding.now.lists) before.rows.keys now.rows.keys next.rows.keys c.args.code.now c.loop-raw.raw-index raw raw c.loop-raw-test.true c.raw-item.is was.rows added.rows;
      targets = added_more (virtual_target_of c.args.tokens.now) before.virtual_targets.keys now.virtual_targets.keys next.virtual_targets.keys c.args.code.now c.loop-raw.raw-index raw raw c.loop-raw-test.true c.raw-item.is was.targets added.targets;
      kept = added.kept;
    }
