-- The parts of a search's answer.
use Rattle.std.specs.Prelude.{◌≡◌, ℕ, ◌<◌, List, Bool, false, length, map, slice_index_or, unwrap_or}
use Rattle.px_chain.specs.declared.chain.Chain.{Chain}
use Rattle.px_chain.specs.declared.chain.LogEntry.{LogEntry}
use Rattle.px_chain.specs.Clause.{Formula}
use Rattle.px_trail.specs.Trail.{View, value_of}

-- the values that the variables have, by variable
pub record AreValues (v : View) (values : List Bool) : Type 0 where
  pub size : length values ≡ v.vars
  pub each : (variable : ℕ) → variable < v.vars → slice_index_or values variable false ≡ unwrap_or (value_of v.steps variable) false

abbrev pub chains_of : List LogEntry → List Chain
chains_of log = map (λ (entry : LogEntry). entry.chain) log

-- the formula that a trail is over
abbrev pub formula_over : View → Formula
formula_over v = record { vars = v.vars; clauses = v.clauses }
