use Rattle.std.proofs.Common.{ap, ◌∙◌}
use Rattle.std.specs.Prelude.{length}
use Rattle.px_program.specs.Bases.{step_of}
use Rattle.px_program.proofs.Leaps.{count_pushed, step_pushed}
use Rattle.px_program.proofs.type_table.no_steps.Goals as goal

pub loop-number-preserved : goal.loop-number-preserved
loop-number-preserved c =
    let before = c.loop-number.invariant in
    let pushed = c.in_ok-push.ensures.items in
    record {
      size = ap length pushed ∙ count_pushed c.loop-number.steps.items c.loop-number.number before.size;
      none = λ type. ap (λ steps. step_of steps type) pushed ∙ step_pushed c.loop-number.steps.items c.loop-number.number before.size before.none type;
    }
