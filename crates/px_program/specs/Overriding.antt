-- Which method takes another's place in a type (Partition III, 4.2).
use Rattle.std.specs.Prelude.{ℕ, ◌<◌, ◌==◌, List, [], ◌∷◌, Option, Some, None, find, slice_get}
use Rattle.px_program.specs.declared.program.TypeInfo.{TypeInfo}

-- pairs in the order of their first numbers, at most one for each
abbrev pub AreByFirst : List (ℕ × ℕ) → Type 0
AreByFirst [] = Unit {0}
AreByFirst (pair ∷ []) = Unit {0}
AreByFirst (pair ∷ next ∷ rest) = (pair.0 < next.0) × AreByFirst (next ∷ rest)

abbrev pub second_in : Option (ℕ × ℕ) → Option ℕ
second_in None = None
second_in (Some pair) = Some pair.1

abbrev pub overrides_in : Option TypeInfo → List (ℕ × ℕ)
overrides_in None = []
overrides_in (Some type) = type.overrides

-- the method that takes the place of another in a type
abbrev pub overrider_in : List TypeInfo → ℕ → ℕ → Option ℕ
overrider_in types type method = second_in (find (λ pair. pair.0 == method) (overrides_in (slice_get types type)))
