-- Lines of numbers, each of which leads to the next one, as that of a type and its bases.
use Rattle.std.specs.Prelude.{◌≡◌, ℕ, zero, suc, List, [], ◌∷◌, Option, Some, None, slice_get}
use Rattle.px_program.specs.declared.program.TypeInfo.{TypeInfo}

abbrev pub base_in : Option TypeInfo → Option ℕ
base_in None = None
base_in (Some type) = type.base

-- the base of a type
abbrev pub base_of : List TypeInfo → ℕ → Option ℕ
base_of types type = base_in (slice_get types type)

-- the numbers behind a number in its chain, in order; a chain that comes back to some number has no such list
abbrev pub IsChain : (ℕ → Option ℕ) → ℕ → List ℕ → Type 0
IsChain next type [] = next type ≡ None
IsChain next type (behind ∷ rest) = (next type ≡ Some behind) × IsChain next behind rest

pub record HasEnd (next : ℕ → Option ℕ) (type : ℕ) : Type 0 where
  pub behind : List ℕ
  pub chain : IsChain next type behind

-- the second number is so many steps behind the first
abbrev pub IsBehind : (ℕ → Option ℕ) → ℕ → ℕ → ℕ → Type 0
IsBehind next zero type other = type ≡ other
IsBehind next (suc n) type other = (between : ℕ) × (next type ≡ Some between) × IsBehind next n between other

-- a type is another, or has it among its bases
pub record IsKindOf (types : List TypeInfo) (type other : ℕ) : Type 0 where
  pub steps : ℕ
  pub way : IsBehind (base_of types) steps type other

-- a type has another among its bases
pub record DerivesFrom (types : List TypeInfo) (type other : ℕ) : Type 0 where
  pub steps : ℕ
  pub way : IsBehind (base_of types) (suc steps) type other
