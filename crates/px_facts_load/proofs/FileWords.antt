-- How the facts write files.
use Rattle.std.specs.Prelude.{ℕ, ◌+◌, ◌/◌, ◌%◌, List, [], ◌∷◌, ◌++◌, take, drop, length, replicate}

-- a copy of a file in which these bytes stand at a place
abbrev pub put : ℕ → List ℕ → List ℕ → List ℕ
put at bytes file = take at file ++ bytes ++ drop (at + length bytes) file

-- a number in four bytes, the low one first
abbrev pub four : ℕ → List ℕ
four n = n % 0x100 ∷ (n / 0x100) % 0x100 ∷ (n / 0x1_0000) % 0x100 ∷ n / 0x100_0000 ∷ []

abbrev pub zeros : ℕ → List ℕ
zeros n = replicate n 0
