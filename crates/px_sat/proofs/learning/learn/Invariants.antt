use Rattle.std.proofs.Common.{◌≡◌, ◌≤◌, length}
use Rattle.px_sat.proofs.Opening.{open_in}
use Rattle.px_sat.proofs.Tracing.{IsTraced}
use Rattle.px_sat.proofs.learning.learn.Given as goal

abbrev pub invariant-loop-open : goal.invariant-loop-open
invariant-loop-open l = record {
  traced : IsTraced l.trail l.conflict l.rest.items l.left l.resolver.clause;
  count : l.open ≡ open_in l.trail l.depth l.resolver.clause;
  some : 1 ≤ l.open;
  vars : l.resolver.vars ≡ l.trail.vars;
  same : l.resolver.vars ≡ l.fn.resolver.vars;
}

abbrev pub decreases-loop-open : goal.decreases-loop-open
decreases-loop-open l = length l.left
