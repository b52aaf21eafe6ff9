use Rattle.std.proofs.Common.{arith}
use Rattle.px_program.proofs.Leaps.{all_known, known_next}
use Rattle.px_program.proofs.type_table.steps_of.Goals as goal

pub loop-number-preserved : goal.loop-number-preserved
loop-number-preserved c =
    let before = c.loop-number.invariant in
    let settled = c.in_ok-settle.ensures in
    record {
      size = settled.size;
      so_far = settled.so_far;
      known = known_next c.args.types.now c.loop-number.steps.items c.settle.new.steps.items c.loop-number.number before.known settled.kept settled.known;
    }

pub returns : goal.returns
returns c = all_known c.args.types.now c.loop-number.steps.items c.loop-number.number (omega (arith, c.loop-number-test.false, c.loop-number.auto.number-end, c.in-Ok.ensures)) c.loop-number.invariant.size c.loop-number.invariant.known
