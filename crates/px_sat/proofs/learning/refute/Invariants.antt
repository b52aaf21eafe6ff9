use Rattle.std.proofs.Common.{◌≡◌, length}
use Rattle.px_sat.proofs.Tracing.{IsTraced}
use Rattle.px_sat.proofs.learning.refute.Given as goal

abbrev pub invariant-loop-x : goal.invariant-loop-x
invariant-loop-x l =
    IsTraced l.trail l.conflict l.rest.items l.left l.resolver.clause × (l.resolver.vars ≡ l.trail.vars) × (l.resolver.vars ≡ l.fn.resolver.vars)

abbrev pub decreases-loop-x : goal.decreases-loop-x
decreases-loop-x l = length l.left
