use Rattle.std.proofs.Common.{◌≡◌, ℕ, ◌<◌, false, get_or, length, unwrap_or}
use Rattle.px_trail.specs.Trail.{value_of}
use Rattle.px_sat.proofs.solver.values.Given as goal

abbrev pub invariant-loop-variable : goal.invariant-loop-variable
invariant-loop-variable l =
    (length l.values.items ≡ l.variable) × ((k : ℕ) → k < l.variable → get_or l.values.items k false ≡ unwrap_or (value_of l.trail.steps k) false)
