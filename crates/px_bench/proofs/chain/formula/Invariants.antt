-- The formula keeps its variables.
use Rattle.std.proofs.Common.{◌≡◌, ◌+◌}
use Rattle.px_bench.proofs.chain.formula.Given as goal

abbrev pub invariant-loop-i : goal.invariant-loop-i
invariant-loop-i l = l.cnf.vars ≡ l.steps + 10

abbrev pub invariant-loop-l : goal.invariant-loop-l
invariant-loop-l l = l.cnf.vars ≡ l.steps + 10
