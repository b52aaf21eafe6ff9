-- The test of content that can be written.
use Rattle.std.specs.Prelude.{ℕ, suc, ◌+◌, ◌^◌, ◌==◌, ◌&&◌, ◌||◌, not, nat_lt, nat_le, Bool, true, List, [], ◌∷◌, Option, Some, None, length, slice_get, slice_index}
use Rattle.std.specs.List.{list_all, range_with_len}
use Rattle.px_tables.specs.declared.column.Column.{Column}
use Rattle.px_tables.specs.declared.counts.Counts.{Counts}
use Rattle.px_tables.specs.declared.tables.Row.{Row}
use Rattle.px_tables.specs.Columns.{columns_of}
use Rattle.px_tables.specs.Counts.{column_size, is_bad}
use Rattle.px_tables.specs.Rows.{has_indexes_looked_at, start_of}
use Rattle.px_asm_image.specs.declared.content.Content.{Content}
use Rattle.px_asm_image.specs.Layout.{counts_of}

-- a cell fits its column, and names a row where it must; behind the columns it is 0
abbrev pub fits_column : Counts → Bool → Option Column → ℕ → Bool
fits_column counts is_looked_at None cell = cell == 0
fits_column counts is_looked_at (Some column) cell = nat_lt cell (256 ^ column_size counts column) && not (is_looked_at && is_bad counts column cell)

abbrev pub cell_fits : Counts → ℕ → List ℕ → ℕ → Bool
cell_fits counts table cells k = fits_column counts (has_indexes_looked_at table) (slice_get (columns_of table) k) (slice_index cells k)

abbrev pub cells_fit : Counts → ℕ → List ℕ → Bool
cells_fit counts table cells = list_all (cell_fits counts table cells) (range_with_len 0 9)

abbrev pub row_fits : Counts → ℕ → List ℕ → Bool
row_fits counts table cells = (length cells == 9) && cells_fit counts table cells

abbrev pub rows_fit : Counts → ℕ → List Row → Bool
rows_fit counts table rows = list_all (λ row. row_fits counts table row.cells) rows

abbrev pub table_fits : Counts → ℕ → List Row → Bool
table_fits counts table rows = (length rows == 0) || (not (length (columns_of table) == 0) && rows_fit counts table rows)

-- the tables from one on
abbrev pub tables_fit : Counts → ℕ → List (List Row) → Bool
tables_fit counts table [] = true
tables_fit counts table (rows ∷ tables) = table_fits counts table rows && tables_fit counts (suc table) tables

abbrev pub has_few_rows : List (List Row) → Bool
has_few_rows tables = list_all (λ rows. nat_lt (length rows) (2 ^ 24)) tables

unfoldable pub fits : Content → Bool
fits content =
    (nat_le (length content.rows) 64 && has_few_rows content.rows)
    && (tables_fit (counts_of content.rows) 0 content.rows
    && nat_lt (start_of (counts_of content.rows) 64 + length content.strings + length content.user_strings + length content.blob) (2 ^ 30))
