-- What is learnt from a conflict: the literals of the last level, and the chain.
use Rattle.std.specs.Prelude.{◌≡◌, ℕ, ◌==◌, ◌&&◌, not, Bool, false, List, Option, Some, None}
use Rattle.px_chain.specs.declared.chain.Chain.{Chain}
use Rattle.px_chain.specs.Clause.{IsOver, has, variable_of}
use Rattle.px_trail.specs.Trail.{View, level_of}

-- whether so many decisions stood
abbrev pub is_at : ℕ → Option ℕ → Bool
is_at depth None = false
is_at depth (Some level) = level == depth

-- whether a literal's variable came when so many decisions stood
abbrev pub is_deep : View → ℕ → ℕ → Bool
is_deep v depth l = is_at depth (level_of v.steps (variable_of l))

-- whether a literal's variable came then, and the literal isn't in a clause
abbrev pub is_new : View → ℕ → List ℕ → ℕ → Bool
is_new v depth clause l = not (has clause l) && is_deep v depth l

-- a chain of these steps that claims this clause, which is over so many variables
pub record IsChain (vars first : ℕ) (rest : List (ℕ × ℕ)) (clause : List ℕ) (chain : Chain) : Type 0 where
  pub first_is : chain.first ≡ first
  pub rest_is : chain.rest ≡ rest
  pub claim_is : chain.claim ≡ clause
  pub over : IsOver vars chain.claim
