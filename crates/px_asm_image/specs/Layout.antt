-- Metadata as it is written: the rows of tables by their cells, and the heaps (Partition II, 24.2).
use Rattle.std.specs.Prelude.{◌≡◌, ℕ, zero, suc, ◌+◌, ◌<◌, ◌≤◌, ◌^◌, IsTrue, false, List, [], ◌∷◌, Some, Ok, length, slice_get, slice_index, slice_index_or}
use Rattle.px_tables.specs.declared.column.Column.TheVariants.{U8}
use Rattle.px_tables.specs.declared.counts.Counts.{Counts}
use Rattle.px_tables.specs.Columns.{columns_of}
use Rattle.px_tables.specs.Counts.{column_size, is_bad, rows_of}
use Rattle.px_tables.specs.Metadata.{View, metadata_of}
use Rattle.px_tables.specs.Rows.{has_indexes_looked_at, row_of, start_of}
use Rattle.px_tables.specs.declared.tables.Row.{Row}
use Rattle.px_asm_image.specs.declared.content.Content.{Content}

-- the bytes are metadata with the rows of each table in order, and with the heaps as they are
pub record IsMetadataOf (content : Content) (bytes : List ℕ) : Type 0 where
  pub view : View
  pub read : metadata_of bytes ≡ Ok view
  pub counts : (table : ℕ) → rows_of view.counts table ≡ length (slice_index_or content.rows table [])
  pub cells : (table n : ℕ) (row : Row) → slice_get (slice_index_or content.rows table []) n ≡ Some row → row_of view.counts view.rows table (n + 1) ≡ row.cells
  pub strings : view.strings ≡ content.strings
  pub user_strings : view.user_strings ≡ content.user_strings
  pub guid : view.guid ≡ []
  pub blob : view.blob ≡ content.blob

-- how many rows each of so many tables has
unfoldable pub row_counts : ℕ → List (List Row) → List ℕ
row_counts zero tables = []
row_counts (suc n) [] = 0 ∷ row_counts n []
row_counts (suc n) (rows ∷ tables) = length rows ∷ row_counts n tables

-- what the header of the tables says: all indexes of heaps are wide
abbrev pub counts_of : List (List Row) → Counts
counts_of tables = record { heap_sizes = 7; rows = row_counts 64 tables }

-- A row can be written: each cell fits its column and names a row where it must, and the cells behind the columns are 0.
pub record RowFits (counts : Counts) (table : ℕ) (cells : List ℕ) : Type 0 where
  pub nine : length cells ≡ 9
  pub fits : (k : ℕ) → k < length (columns_of table) → slice_index cells k < 256 ^ column_size counts (slice_index_or (columns_of table) k U8)
  pub names : (k : ℕ) → IsTrue (has_indexes_looked_at table) → k < length (columns_of table)
      → is_bad counts (slice_index_or (columns_of table) k U8) (slice_index cells k) ≡ false
  pub zeros : (k : ℕ) → length (columns_of table) ≤ k → slice_index cells k ≡ 0

-- each row of a table can be written
abbrev pub RowsFit : Counts → ℕ → List Row → Type 0
RowsFit counts table rows = (n : ℕ) (row : Row) → slice_get rows n ≡ Some row → RowFits counts table row.cells

-- the content can be written: there are 64 tables at most, one without columns has no rows, each row fits, and sizes are limited
pub record Fits (content : Content) : Type 0 where
  pub few_tables : length content.rows ≤ 64
  pub few_rows : (table : ℕ) → length (slice_index_or content.rows table []) < 2 ^ 24
  pub known : (table : ℕ) → columns_of table ≡ [] → slice_index_or content.rows table [] ≡ []
  pub rows : (table : ℕ) → RowsFit (counts_of content.rows) table (slice_index_or content.rows table [])
  pub short : start_of (counts_of content.rows) 64 + length content.strings + length content.user_strings + length content.blob < 2 ^ 30
