-- The formula keeps its variables.
use Rattle.std.proofs.Common.{◌≡◌}
use Rattle.px_bench.proofs.random.formula.Given as goal

abbrev pub invariant-loop-clause : goal.invariant-loop-clause
invariant-loop-clause l = l.cnf.vars ≡ l.variables
