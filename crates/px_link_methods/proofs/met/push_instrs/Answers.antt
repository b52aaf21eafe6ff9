use Rattle.px_link_methods.specs.Methods.{keys_of_instr}
use Rattle.px_link_methods.proofs.Added.{added_piece}
use Rattle.px_link_methods.proofs.met.push_instrs.Goals as goal

pub loop-raw-preserved : goal.loop-raw-preserved
loop-raw-preserved c =
    added_piece c.args.tokens.now (keys_of_instr c.args.tokens.now) c.args.raws.now c.loop-raw.raw-index c.raw-item.result c.args.keys.now.items c.loop-raw.keys.items c.push_instr.new.keys.items c.loop-raw.invariant c.loop-raw-test.true c.raw-item.is c.in_ok-push_instr.ensures
