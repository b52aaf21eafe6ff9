use Rattle.px_simple.proofs.Search.{sorted}
use Rattle.px_simple.proofs.offsets.sorted_targets.Goals as goal

pub returns : goal.returns
returns c = sorted c.args.code.now c.in_ok-targets.targets.items c.sort_unstable.new.self.items c.in_ok-targets.ensures c.sort_unstable.ensures.permutation c.sort_unstable.ensures.sorted
