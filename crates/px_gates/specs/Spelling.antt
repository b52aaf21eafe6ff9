-- The number that a list of literals spells under an assignment: the bit of lowest weight first.
use Rattle.std.specs.Prelude.{ℕ, ◌+◌, ◌*◌, List, [], ◌∷◌, map, Bool, true, false}
use Rattle.px_chain.specs.Clause.{Valuation, complement, holds}

abbrev pub bit : Bool → ℕ
bit true = 1
bit false = 0

abbrev pub spelled : Valuation → List ℕ → ℕ
spelled a [] = 0
spelled a (l ∷ literals) = bit (holds a l) + 2 * spelled a literals

-- each literal's complement
abbrev pub complements : List ℕ → List ℕ
complements literals = map complement literals
