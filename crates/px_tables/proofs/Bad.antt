-- Rows that are looked at, one after the other.
use Rattle.std.proofs.Common.{◌≡◌, ◌<◌, ◌+◌, ◌-◌, ℕ, suc, true, false, List, Option, Some, None, refl, arith}
use Rattle.std.specs.Prelude.{is_some}
use Rattle.px_tables.specs.declared.counts.Counts.{Counts}
use Rattle.px_tables.specs.Columns.{columns_of}
use Rattle.px_tables.specs.Counts.{row_size}
use Rattle.px_tables.specs.Rows.{bad_in_columns, bad_in_rows}

one_less : (rows row : ℕ) → row < rows → rows - row ≡ suc (rows - (row + 1))
one_less rows row more = omega arith

-- what is found in the first row that is left
pub bad_here : (counts : Counts) (bytes : List ℕ) (table at row rows : ℕ) (r : Option ℕ) → row < rows → r ≡ bad_in_columns counts bytes at (columns_of table) → is_some r ≡ true
    → bad_in_rows counts bytes table at (rows - row) ≡ r
bad_here counts bytes table at row rows None more is some = cc
bad_here counts bytes table at row rows (Some x) more is some = rw (one_less rows row more, ← is) refl

-- a row in which nothing is found is passed over
pub bad_later : (counts : Counts) (bytes : List ℕ) (table at row rows : ℕ) (r : Option ℕ) → row < rows → r ≡ bad_in_columns counts bytes at (columns_of table) → is_some r ≡ false
    → bad_in_rows counts bytes table at (rows - row) ≡ bad_in_rows counts bytes table (at + row_size counts table) (rows - (row + 1))
bad_later counts bytes table at row rows None more is none = rw (one_less rows row more, ← is) refl
bad_later counts bytes table at row rows (Some x) more is none = cc
