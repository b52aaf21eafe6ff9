use Rattle.std.proofs.Common.{sym, ◌∙◌}
use Rattle.px_unwind.specs.Clauses.{exit_in, exits}
use Rattle.px_unwind.proofs.Passing.{passed, passed_before}
use Rattle.px_unwind.proofs.clauses.exits_of.Goals as goal
use Rattle.px_unwind.proofs.clauses.exits_of.Goals.{else-number-after-via-then-number-after+else-exits, else-number-after-via-else-number-after}

pub loop-number-preserved : goal.loop-number-preserved
loop-number-preserved c =
    let first = exit_in c.args.method.now c.args.from c.args.to c.args.after in
    elim c.else-number-after.branch [
      | else-number-after-via-then-number-after+else-exits w ↦
          passed (exits c.args.from c.args.to) c.args.after c.loop-number.number c.as_slice-clause-items.result.now _ first c.loop-number-test.true (λ from. sym w.exits.ensures ∙ w.if-exits.false) c.loop-number.invariant
      | else-number-after-via-else-number-after w ↦
          passed_before (exits c.args.from c.args.to) c.args.after c.loop-number.number c.as_slice-clause-items.result.now first c.loop-number-test.true w.if-number-after.false c.loop-number.invariant
    ]
