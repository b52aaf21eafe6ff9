use Rattle.std.proofs.Common.{◌≡◌}
use Rattle.px_sat.proofs.Descents.{IsDown}
use Rattle.px_sat.proofs.descent.descend.Given as goal

abbrev pub invariant-loop-variable : goal.invariant-loop-variable
invariant-loop-variable l = record {
  down : IsDown l.trail l.decisions.items l.variable-items l.variable-index;
  vars : l.trail.vars ≡ l.fn.trail.vars;
  clauses : l.trail.clauses ≡ l.fn.trail.clauses;
}
