-- Numbers of arrays as text.
use Rattle.std.specs.Prelude.{ℕ, ◌<◌, ◌≤◌, ◌^◌, List, [], ◌++◌, Option, Some, None, codes, length}
use Rattle.std.specs.Fmt.{signed_decimal}
use Rattle.std.specs.List.{AllByRecursion}
use Rattle.px_domain.specs.Place.{number_of, word_bits}
use Rattle.px_program.specs.declared.program.Place.{Place}

-- argument words of the place
abbrev pub AreWords : Place → List ℕ → Type 0
AreWords place words = AllByRecursion (λ word. word < 2 ^ word_bits place) words

-- the number of a word, after a space
abbrev pub spaced_text : Place → ℕ → List ℕ
spaced_text place word = codes " " ++ (signed_decimal (number_of place word) ++ [])

-- an array of this length has these elements and perhaps more
abbrev pub IsCount : Option ℕ → List ℕ → Type 0
IsCount None elements = Unit {0}
IsCount (Some count) elements = count ≤ length elements
