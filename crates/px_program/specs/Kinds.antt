-- Which references may stand for which (Partition I, 8.7.1).
use Rattle.std.specs.Prelude.{◌≡◌, ◌⊎◌, ℕ, zero, suc, List, Some}
use Rattle.px_program.specs.Formed.{IsKindOf, element_of}
use Rattle.px_program.specs.declared.program.TypeInfo.{TypeInfo}

-- In so many layers of arrays of references on both sides, the second is `Object`, or the first or one of its bases.
abbrev pub FitsWithin : List TypeInfo → ℕ → ℕ → ℕ → Type 0
FitsWithin types zero type other = (other ≡ 0) ⊎ IsKindOf types type other
FitsWithin types (suc layers) type other = (inner : ℕ) × (wanted : ℕ) × (element_of types type ≡ Some inner) × (element_of types other ≡ Some wanted) × FitsWithin types layers inner wanted

-- a reference of a type may stand where one of another is asked for
pub record Fits (types : List TypeInfo) (type other : ℕ) : Type 0 where
  pub layers : ℕ
  pub within : FitsWithin types layers type other
