-- What the parts of a layout promise each other.
use Rattle.std.specs.Prelude.{◌≡◌, ℕ, ◌<◌, List, map, Option, Some, All, Contains}
use Rattle.std.specs.List.{AllPairs}
use Rattle.px_tables.specs.Metadata.{View}
use Rattle.px_link.specs.Layout.{OverridesAmong, number_among}
use Rattle.px_link.specs.declared.layout.Placed.{Placed}

-- no two numbers have one row
abbrev pub IsApart : (ℕ → Option ℕ) → Type 0
IsApart row = (n m r : ℕ) → row n ≡ Some r → row m ≡ Some r → n ≡ m

abbrev pub numbers_placed : List Placed → List ℕ
numbers_placed placed = map (λ p. p.number) placed

-- all numbers that have a row, each once and with its row
pub record ArePlaced (row : ℕ → Option ℕ) (placed : List Placed) : Type 0 where
  pub each : All (λ p. row p.number ≡ Some p.row) placed
  pub all : (n r : ℕ) → row n ≡ Some r → Contains (numbers_placed placed) n
  pub rising : AllPairs (λ n later. n < later) (numbers_placed placed)

-- the number of the nearest method that a method overrides, of some rows
pub record IsOverridden (v : View) (rows : List ℕ) (method : ℕ) (overridden : Option ℕ) : Type 0 where
  pub nearest : Option ℕ
  pub among : OverridesAmong v rows method nearest
  pub is : overridden ≡ number_among rows nearest
