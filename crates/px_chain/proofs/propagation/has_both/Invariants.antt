use Rattle.std.proofs.Common.{ℕ, ◌<◌, ◌*◌, ◌+◌}
use Rattle.px_chain.specs.Closure.{Has}
use Rattle.px_chain.proofs.propagation.has_both.Given as goal

abbrev pub invariant-loop-variable : goal.invariant-loop-variable
invariant-loop-variable l = (v : ℕ) → v < l.variable → Has l.marks (2 * v) → Has l.marks (2 * v + 1) → ⊥
