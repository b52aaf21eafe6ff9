-- Arguments that stand in a pool.
use Rattle.std.specs.Prelude.{ℕ, List, [], ◌∷◌}
use Rattle.px_domain.specs.Place.{word_bits}
use Rattle.px_program.specs.declared.program.Place.{Place}

-- there is an argument for each parameter, and it stands at the width of the parameter's words
abbrev pub AreArguments : {W : Type 0} → (ℕ → W → Type 0) → List Place → List W → Type 0
AreArguments StandsAt [] [] = Unit {0}
AreArguments StandsAt [] (x ∷ xs) = ⊥
AreArguments StandsAt (place ∷ places) [] = ⊥
AreArguments StandsAt (place ∷ places) (x ∷ xs) = StandsAt (word_bits place) x × AreArguments StandsAt places xs
