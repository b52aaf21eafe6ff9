-- Chains of types: of bases, and of the types around nested ones (Partition II, 22.32).
use Rattle.std.specs.Prelude.{◌≡◌, ℕ, ◌==◌, List, [], ◌∷◌, Option, Some, None, find}
use Rattle.px_tables.specs.Metadata.{View}
use Rattle.px_meta.specs.Rows.{cell, nested_classes, row_by, rows_in, some_row, type_defs}

-- the base of a type of the assembly, where that is one of the assembly too
abbrev pub base_in : View → ℕ → Option ℕ
base_in v row = row_by v type_defs 2 (cell v type_defs row 3)

-- the type that a row of NestedClass encloses another in
abbrev pub encloser : View → Option ℕ → Option ℕ
encloser v None = None
encloser v (Some n) = some_row v type_defs (cell v nested_classes n 1)

-- the first of some rows of NestedClass that is about a type
abbrev pub nesting_in : View → List ℕ → ℕ → Option ℕ
nesting_in v rows row = find (λ n. cell v nested_classes n 0 == row) rows

-- the type that a type is nested in, by the first row that says so
abbrev pub outer_of : View → ℕ → Option ℕ
outer_of v row = encloser v (nesting_in v (rows_in v nested_classes) row)

-- the types behind a type in its chain, in order; a chain that comes back to some type has no such list
pub data IsChain (next : ℕ → Option ℕ) : ℕ → List ℕ → Type 0 where
  Ends : (row : ℕ) → next row ≡ None → IsChain next row []
  GoesOn : (row behind : ℕ) (rest : List ℕ) → next row ≡ Some behind → IsChain next behind rest → IsChain next row (behind ∷ rest)

-- the chain that begins at a type ends
pub record HasEnd (next : ℕ → Option ℕ) (row : ℕ) : Type 0 where
  pub behind : List ℕ
  pub chain : IsChain next row behind
