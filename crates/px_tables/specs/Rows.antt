-- Where the rows of the tables stand, and what they hold (Partition II, 24.2.6).
use Rattle.std.specs.Prelude.{ℕ, zero, suc, ◌+◌, ◌-◌, ◌*◌, ◌/◌, ◌==◌, nat_lt, Bool, if◌then◌else◌, List, [], ◌∷◌, ◌++◌, take, drop, replicate, Option, Some, None, option_map, find}
use Rattle.std.specs.List.{list_any, range_with_len}
use Rattle.byteorder.specs.Endian.{little_number}
use Rattle.px_tables.specs.declared.column.Column.{Column}
use Rattle.px_tables.specs.declared.counts.Counts.{Counts}
use Rattle.px_tables.specs.Columns.{columns_of}
use Rattle.px_tables.specs.Counts.{column_size, is_bad, row_size, rows_of}

-- the rows of all tables, one table after the other
pub record Rows : Type 0 where
  pub counts : Counts
  pub bytes : List ℕ

-- where the first row of a table begins, counted from the first row of all: behind all rows of the tables before it
unfoldable pub start_of : Counts → ℕ → ℕ
start_of counts zero = 0
start_of counts (suc table) = start_of counts table + rows_of counts table * row_size counts table

-- where the row of a number begins; numbers count from 1
abbrev pub row_start : Counts → ℕ → ℕ → ℕ
row_start counts table n = start_of counts table + (n - 1) * row_size counts table

-- the number in a column that stands at a place
abbrev pub cell_at : Counts → List ℕ → ℕ → Column → ℕ
cell_at counts rows at column = little_number (column_size counts column) (drop at rows)

-- the numbers in columns of which the first stands at a place
abbrev pub cells_at : Counts → List ℕ → ℕ → List Column → List ℕ
cells_at counts rows at [] = []
cells_at counts rows at (column ∷ columns) = cell_at counts rows at column ∷ cells_at counts rows (at + column_size counts column) columns

-- the cells of a row, and zeros up to nine
unfoldable pub row_of : Counts → List ℕ → ℕ → ℕ → List ℕ
row_of counts rows table n = take 9 (cells_at counts rows (row_start counts table n) (columns_of table) ++ replicate 9 0)

-- the first of so many tables, from one on, whose rows don't lie whole within so many bytes
unfoldable pub first_cut : Counts → ℕ → ℕ → ℕ → Option ℕ
first_cut counts size table n = find (λ t. nat_lt size (start_of counts (suc t))) (range_with_len table n)

-- where the first row that doesn't lie whole within so many bytes begins
unfoldable pub cut_of : Counts → ℕ → Option ℕ
cut_of counts size =
    option_map (λ table. start_of counts table + row_size counts table * ((size - start_of counts table) / row_size counts table))
    (first_cut counts size 0 64)

abbrev pub or_else : Option ℕ → Option ℕ → Option ℕ
or_else None other = other
or_else (Some x) other = Some x

-- where the first index that names no row stands in columns of which the first stands at a place
abbrev pub bad_in_columns : Counts → List ℕ → ℕ → List Column → Option ℕ
bad_in_columns counts rows at [] = None
bad_in_columns counts rows at (column ∷ columns) =
    if is_bad counts column (cell_at counts rows at column) then Some at
    else bad_in_columns counts rows (at + column_size counts column) columns

-- the same in so many rows of a table, of which the first stands at a place
abbrev pub bad_in_rows : Counts → List ℕ → ℕ → ℕ → ℕ → Option ℕ
bad_in_rows counts rows table at zero = None
bad_in_rows counts rows table at (suc n) =
    or_else (bad_in_columns counts rows at (columns_of table)) (bad_in_rows counts rows table (at + row_size counts table) n)

-- the same in tables
abbrev pub bad_in_tables : Counts → List ℕ → List ℕ → Option ℕ
bad_in_tables counts rows [] = None
bad_in_tables counts rows (table ∷ tables) =
    or_else (bad_in_rows counts rows table (start_of counts table) (rows_of counts table)) (bad_in_tables counts rows tables)

-- the tables whose indexes are looked at
abbrev pub tables_with_indexes : List ℕ
tables_with_indexes = 0x01 ∷ 0x02 ∷ 0x04 ∷ 0x06 ∷ 0x0A ∷ 0x11 ∷ 0x19 ∷ 0x1B ∷ 0x29 ∷ []

abbrev pub has_indexes_looked_at : ℕ → Bool
has_indexes_looked_at table = list_any (λ n. n == table) tables_with_indexes

-- where the first index in them that names no row stands
unfoldable pub first_bad : Counts → List ℕ → Option ℕ
first_bad counts rows = bad_in_tables counts rows tables_with_indexes
