use Rattle.std.proofs.Common.{arith}
use Rattle.px_chain.proofs.log_checker.meets_conflict.Goals as goal

pub returns : goal.returns
returns c = (
  λ yes. let both = c.clashes.ensures.0 yes in record {
    decisions_over = rw (c.as_slice-decisions.ensures, c.vars-vars.ensures.vars) at (c.is_over.ensures.0 c.if-not-is_over.false);
    last_over = omega arith;
    claim_over = rw (c.as_slice-claim.ensures, c.vars-vars.ensures.vars) at (c.is_over-else-entry-vars.ensures.0 c.if-not-is_over-2.false);
    before = both.0;
    after = both.1;
  },
  λ meets. c.clashes.ensures.1 (meets.before, meets.after),
)
