use Rattle.std.proofs.Common.{◌≡◌, [], length}
use Rattle.px_sat.specs.Search.{formula_over}
use Rattle.px_sat.proofs.Settling.{HasLearnt}
use Rattle.px_sat.proofs.solver.search.Given as goal

abbrev pub invariant-loop-conflict : goal.invariant-loop-conflict
invariant-loop-conflict l = record {
  learnt : HasLearnt (formula_over l.fn.trail) l.log.items l.trail;
  count : length l.log.items ≡ l.conflict;
  vars : l.resolver.vars ≡ l.trail.vars;
  empty : l.resolver.clause ≡ [];
  order : l.order ≡ l.trail.vars;
}
