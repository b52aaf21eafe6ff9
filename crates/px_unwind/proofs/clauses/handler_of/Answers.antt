use Rattle.std.proofs.Common.{sym, ◌∙◌}
use Rattle.px_unwind.specs.Clauses.{handler_in, meets}
use Rattle.px_unwind.proofs.Passing.{passed, passed_before}
use Rattle.px_unwind.proofs.clauses.handler_of.Goals as goal
use Rattle.px_unwind.proofs.clauses.handler_of.Goals.{else-number-after-via-then-number-after+else-meets, else-number-after-via-else-number-after}

pub loop-number-preserved : goal.loop-number-preserved
loop-number-preserved c =
    let first = handler_in c.args.program.now c.args.method c.args.offset c.args.after c.args.class in
    elim c.else-number-after.branch [
      | else-number-after-via-then-number-after+else-meets w ↦
          passed (meets c.args.program.now.types c.args.offset c.args.class) c.args.after c.loop-number.number c.as_slice-clauses.result.now _ first c.loop-number-test.true (λ from. sym w.meets.ensures ∙ w.if-meets.false) c.loop-number.invariant
      | else-number-after-via-else-number-after w ↦
          passed_before (meets c.args.program.now.types c.args.offset c.args.class) c.args.after c.loop-number.number c.as_slice-clauses.result.now first c.loop-number-test.true w.if-number-after.false c.loop-number.invariant
    ]
