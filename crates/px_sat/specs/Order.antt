-- The order in which variables are decided.
use Rattle.std.specs.Prelude.{◌≡◌, ◌≤◌, ◌^◌, ℕ, List, nat_lt}
use Rattle.px_chain.specs.Clause.{has}

-- the list has the variables below a number, and no others
abbrev pub HasAllBelow : ℕ → List ℕ → Type 0
HasAllBelow vars variables = (variable : ℕ) → has variables variable ≡ nat_lt variable vars

pub record IsOrder (vars : ℕ) (variables : List ℕ) : Type 0 where
  pub few : vars ≤ 2 ^ 31
  pub all : HasAllBelow vars variables
