use Rattle.std.proofs.Common.{arith, inl, inr}
use Rattle.px_code.proofs.Ends.{no_range}
use Rattle.px_code.proofs.offsets.is_range.Goals as goal
use Rattle.px_code.proofs.offsets.is_range.Goals.{then-to-from-via-then-to-from, then-to-from-via-else-to-from+then-end-to}

pub returns-then-to-from-clause-exact : goal.returns-then-to-from-clause-exact
returns-then-to-from-clause-exact c = no_range c.args.instrs.now c.args.from c.args.to c.requires
    (elim c.then-to-from.branch [
      | then-to-from-via-then-to-from w ↦ inl w.if-to-from.true
      | then-to-from-via-else-to-from+then-end-to w ↦ inr (omega (arith, w.if-end-to.true, c.end_of.ensures, c.from-end.ensures))
    ])
