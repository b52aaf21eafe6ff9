-- What of a leaf is hashed.
use Rattle.std.specs.Prelude.{ℕ}
use Rattle.px_link_types.specs.declared.key.Leaf.{Leaf}
use Rattle.px_link_types.specs.declared.key.Leaf.TheVariants.{Number, Library, Defined}

abbrev pub kind_of : Leaf → ℕ
kind_of (Number integer) = 0
kind_of (Library number) = 1
kind_of (Defined row) = 2

abbrev pub row_of : Leaf → ℕ
row_of (Number integer) = 0
row_of (Library number) = number
row_of (Defined row) = row
