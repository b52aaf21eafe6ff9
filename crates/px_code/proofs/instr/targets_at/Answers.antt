use Rattle.std.proofs.Common.{◌∙◌}
use Rattle.px_code.proofs.Front.{one_target}
use Rattle.px_code.proofs.instr.targets_at.Goals as goal

pub loop-index-preserved : goal.loop-index-preserved
loop-index-preserved c =
    let l = c.loop-index in
    rw (c.in_ok-push.ensures.ok, c.target_of.ensures, c.number_at-operand.ensures.number)
    (one_target l.targets c.args.next c.args.code.now c.args.from l.index c.args.count c.loop-index-test.true ∙ l.invariant)
