use Rattle.std.proofs.Common.{arith}
use Rattle.px_meta.specs.Chains.{base_in}
use Rattle.px_meta.proofs.Rows.{of_none, of_push, of_whole}
use Rattle.px_meta.proofs.chain.bases_of.Goals as goal

pub loop-n-init : goal.loop-n-init
loop-n-init c = of_none (base_in c.args.tables.now) _ c.new-bases.ensures.items

pub loop-n-preserved : goal.loop-n-preserved
loop-n-preserved c = of_push (base_in c.args.tables.now) c.loop-n.n c.loop-n.bases.items _ c.base_in.result c.loop-n.invariant c.base_in.ensures.base c.in_ok-push.ensures.items

pub returns : goal.returns
returns c = of_whole (base_in c.args.tables.now) c.loop-n.n _ c.loop-n.bases.items c.loop-n.invariant (omega arith)
