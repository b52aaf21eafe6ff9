-- Walks of chains, by a list of what stands behind each type.
use Rattle.std.specs.Prelude.{◌≡◌, ℕ, ◌+◌, ◌-◌, ◌<◌, ◌≤◌, ◌⊎◌, Bool, false, List, length, Option, Some, None, MatchBool, slice_get, slice_index_or}
use Rattle.px_meta.specs.Chains.{HasEnd}

-- the items are those of the rows, in order
pub record AreOf {X : Type 0} (of : ℕ → X) (count : ℕ) (items : List X) : Type 0 where
  pub count_is : length items ≡ count
  pub each : (n : ℕ) → n < count → slice_get items n ≡ Some (of (n + 1))

-- the type behind a type
abbrev pub next_in : List (Option ℕ) → ℕ → Option ℕ
next_in nexts row = slice_index_or nexts (row - 1) None

-- none is another than those of the list
abbrev pub AreNexts : List (Option ℕ) → Type 0
AreNexts nexts = (row next : ℕ) → next_in nexts row ≡ Some next → (1 ≤ next) × (next ≤ length nexts)

-- whether a chain ends
abbrev pub IsVerdict : List (Option ℕ) → ℕ → Bool → Type 0
IsVerdict nexts row ends = MatchBool ends (HasEnd (next_in nexts) row) (HasEnd (next_in nexts) row → ⊥)

-- the walk in which a type was met first
abbrev pub walk_of : List (Option ℕ) → ℕ → Option ℕ
walk_of met row = slice_index_or met (row - 1) None

-- what came out of a walk that has ended
pub record IsKnown (nexts : List (Option ℕ)) (ends : List Bool) (row walk : ℕ) : Type 0 where
  pub past : walk < length ends
  pub verdict : IsVerdict nexts row (slice_index_or ends walk false)

-- each type that was met was met in a walk that has ended, and its chain ends where that of the walk does
pub record AreKnown (nexts : List (Option ℕ)) (ends : List Bool) (met : List (Option ℕ)) : Type 0 where
  pub size : length met ≡ length nexts
  pub known : (row walk : ℕ) → 1 ≤ row → walk_of met row ≡ Some walk → IsKnown nexts ends row walk

-- the same behind one more walk, with what comes out of it
pub record AreWalked (nexts : List (Option ℕ)) (ends : List Bool) (outcome : Bool) (met : List (Option ℕ)) : Type 0 where
  pub size : length met ≡ length nexts
  pub known : (row walk : ℕ) → 1 ≤ row → walk_of met row ≡ Some walk → IsKnown nexts ends row walk ⊎ ((walk ≡ length ends) × IsVerdict nexts row outcome)

-- whether the chain of each type ends
abbrev pub AreVerdicts : List (Option ℕ) → List Bool → ℕ → Type 0
AreVerdicts nexts ends count = (n : ℕ) → n < count → IsVerdict nexts (n + 1) (slice_index_or ends n false)
