-- What is read of rows as they are written.
use Rattle.std.proofs.Common.{◌≡◌, ◌≤◌, ◌<◌, ◌+◌, ◌-◌, ◌*◌, ◌^◌, ℕ, zero, suc, false, IsTrue, List, [], ◌∷◌, ◌++◌, length, get_or, slice_index, take, drop, replicate, Some, None, refl, sym, ◌∙◌, ap, arith, append_assoc, append-nil, length-append, length-drop, drop-cons, inl, inr}
use Rattle.std.specs.Prelude.{slice_get}
use Rattle.std.specs.List.{sum_by}
use Rattle.std.proofs.lemmas.Bool.{cases_lt}
use Rattle.std.proofs.lemmas.List.{get_or-drop, get_or_past, drop_all}
use Rattle.std.proofs.lemmas.List.Sums.{sum_by-cons}
use Rattle.byteorder.specs.Endian.{little_bytes}
use Rattle.byteorder.specs.Numbers.{length-bytes_low_first}
use Rattle.px_tables.specs.declared.column.Column.{Column}
use Rattle.px_tables.specs.declared.column.Column.TheVariants.{U8}
use Rattle.px_tables.specs.declared.counts.Counts.{Counts}
use Rattle.px_tables.specs.declared.tables.Row.{Row}
use Rattle.px_tables.specs.Columns.{columns_of}
use Rattle.px_tables.specs.Counts.{column_size, is_bad, row_size, rows_of}
use Rattle.px_tables.specs.Rows.{bad_in_columns, bad_in_rows, cells_at, has_indexes_looked_at, row_of, row_start, start_of}
use Rattle.px_tables.proofs.Cells.{cells_all}
use Rattle.px_tables.proofs.Sizes.{few_columns}
use Rattle.px_asm_image.specs.Layout.{RowFits, RowsFit}
use Rattle.px_asm_image.specs.Metadata.{cell_bytes, row_bytes, table_bytes}
use Rattle.px_asm_image.proofs.Placed.{behind_is, ends_inside, number_is}

-- each cell fits its column
abbrev pub CellsFit : Counts → List Column → List ℕ → Type 0
CellsFit counts columns cells = (k : ℕ) → k < length columns → slice_index cells k < 256 ^ column_size counts (get_or columns k U8)

-- no cell is bad
abbrev pub CellsName : Counts → List Column → List ℕ → Type 0
CellsName counts columns cells = (k : ℕ) → k < length columns → is_bad counts (get_or columns k U8) (slice_index cells k) ≡ false

-- behind the first cell stand the others
next_cell : (counts : Counts) (bytes cells rest : List ℕ) (column : Column) (columns : List Column) (at cell : ℕ)
    → drop at bytes ≡ cell_bytes counts (column ∷ columns) (cell ∷ cells) ++ rest → drop (at + column_size counts column) bytes ≡ cell_bytes counts columns cells ++ rest
next_cell counts bytes cells rest column columns at cell there =
    behind_is at (column_size counts column) bytes (little_bytes (column_size counts column) cell) (cell_bytes counts columns cells ++ rest)
    (there ∙ append_assoc (little_bytes (column_size counts column) cell) (cell_bytes counts columns cells) rest) (sym (length-bytes_low_first 0 (column_size counts column) cell))

first_cell : (counts : Counts) (bytes cells rest : List ℕ) (column : Column) (columns : List Column) (at cell : ℕ)
    → drop at bytes ≡ cell_bytes counts (column ∷ columns) (cell ∷ cells) ++ rest → drop at bytes ≡ little_bytes (column_size counts column) cell ++ (cell_bytes counts columns cells ++ rest)
first_cell counts bytes cells rest column columns at cell there = there ∙ append_assoc (little_bytes (column_size counts column) cell) (cell_bytes counts columns cells) rest

cells_read : (counts : Counts) (bytes cells rest : List ℕ) (columns : List Column) (at : ℕ) → drop at bytes ≡ cell_bytes counts columns cells ++ rest → length columns ≤ length cells
    → CellsFit counts columns cells → cells_at counts bytes at columns ≡ take (length columns) cells
cells_read counts bytes cells rest [] at there all fit = refl
cells_read counts bytes [] rest (column ∷ columns) at there all fit = absurd (omega arith)
cells_read counts bytes (cell ∷ cells) rest (column ∷ columns) at there all fit =
    let first = number_is (column_size counts column) at cell bytes _ (first_cell counts bytes cells rest column columns at cell there) (fit 0 (omega arith)) in
    let others = cells_read counts bytes cells rest columns (at + column_size counts column) (next_cell counts bytes cells rest column columns at cell there) (omega arith) (λ k less. fit (suc k) (omega arith)) in
    rw (first, others) refl

none_bad : (counts : Counts) (bytes cells rest : List ℕ) (columns : List Column) (at : ℕ) → drop at bytes ≡ cell_bytes counts columns cells ++ rest → length columns ≤ length cells
    → CellsFit counts columns cells → CellsName counts columns cells → bad_in_columns counts bytes at columns ≡ None
none_bad counts bytes cells rest [] at there all fit name = refl
none_bad counts bytes [] rest (column ∷ columns) at there all fit name = absurd (omega arith)
none_bad counts bytes (cell ∷ cells) rest (column ∷ columns) at there all fit name =
    let first = number_is (column_size counts column) at cell bytes _ (first_cell counts bytes cells rest column columns at cell there) (fit 0 (omega arith)) in
    let others = none_bad counts bytes cells rest columns (at + column_size counts column) (next_cell counts bytes cells rest column columns at cell there) (omega arith)
    (λ k less. fit (suc k) (omega arith)) (λ k less. name (suc k) (omega arith)) in
    rw (first, name 0 (omega arith), others) refl

all_zeros : (xs : List ℕ) → ((k : ℕ) → slice_index xs k ≡ 0) → xs ≡ replicate (length xs) 0
all_zeros [] zeros = refl
all_zeros (x ∷ xs) zeros =
    let first : x ≡ 0 = zeros 0 in
    let others = all_zeros xs (λ k. zeros (suc k)) in
    rw (first, ← others) refl

-- the cells of a row that was written
pub row_read : (counts : Counts) (bytes cells rest : List ℕ) (table n : ℕ) → RowFits counts table cells
    → drop (row_start counts table n) bytes ≡ cell_bytes counts (columns_of table) cells ++ rest → row_of counts bytes table n ≡ cells
row_read counts bytes cells rest table n fit there =
    let size = length (columns_of table) in
    let few : size ≤ 9 = few_columns table in
    let nine = fit.nine in
    let read = cells_read counts bytes cells rest (columns_of table) (row_start counts table n) there (omega arith) fit.fits in
    let left : length (drop size cells) ≡ 9 - size = omega (arith, length-drop size cells) in
    let zeros : drop size cells ≡ replicate (9 - size) 0 = rw left at (all_zeros (drop size cells) (λ k. get_or-drop size cells k 0 ∙ fit.zeros (size + k) (omega arith))) in
    let front : take size cells ++ cells_at counts bytes 0 (drop size (columns_of table)) ≡ cells_at counts bytes (row_start counts table n) (columns_of table) =
    rw (drop_all size (columns_of table) (omega arith), append-nil) (sym read) in
    sym (cells_all counts bytes cells (columns_of table) 0 size table n refl nine (omega arith) few front zeros)

length-cells : (counts : Counts) (columns : List Column) (cells : List ℕ) → length columns ≤ length cells → length (cell_bytes counts columns cells) ≡ sum_by (column_size counts) columns
length-cells counts [] cells all = refl
length-cells counts (column ∷ columns) [] all = absurd (omega arith)
length-cells counts (column ∷ columns) (cell ∷ cells) all =
    let others = length-cells counts columns cells (omega arith) in
    rw (sum_by-cons (column_size counts), length-append (little_bytes (column_size counts column) cell), length-bytes_low_first 0 (column_size counts column) cell, others) refl

length-row : (counts : Counts) (table : ℕ) (cells : List ℕ) → RowFits counts table cells → length (cell_bytes counts (columns_of table) cells) ≡ row_size counts table
unfolding row_size
length-row counts table cells fit =
    let few = few_columns table in
    let nine = fit.nine in
    length-cells counts (columns_of table) cells (omega arith)

-- behind a row stand the others
next_row : (counts : Counts) (table at : ℕ) (row : Row) (rows : List Row) (bytes rest : List ℕ) → RowFits counts table row.cells → drop at bytes ≡ row_bytes counts table (row ∷ rows) ++ rest
    → drop (at + row_size counts table) bytes ≡ row_bytes counts table rows ++ rest
next_row counts table at row rows bytes rest fit there =
    behind_is at (row_size counts table) bytes (cell_bytes counts (columns_of table) row.cells) (row_bytes counts table rows ++ rest)
    (there ∙ append_assoc (cell_bytes counts (columns_of table) row.cells) (row_bytes counts table rows) rest) (sym (length-row counts table row.cells fit))

-- a row among those of its table
pub row_there : (counts : Counts) (table at n : ℕ) (row : Row) (rows : List Row) (bytes rest : List ℕ) → RowsFit counts table rows → drop at bytes ≡ row_bytes counts table rows ++ rest
    → slice_get rows n ≡ Some row → (others : List ℕ) × (drop (at + n * row_size counts table) bytes ≡ cell_bytes counts (columns_of table) row.cells ++ others)
row_there counts table at n row [] bytes rest fit there is = absurd (cc)
row_there counts table at zero row (first ∷ rows) bytes rest fit there is =
    let e : at + zero * row_size counts table ≡ at = omega arith in
    let same : first ≡ row = cc in
    (row_bytes counts table rows ++ rest, rw (e, ← same) (there ∙ append_assoc (cell_bytes counts (columns_of table) first.cells) (row_bytes counts table rows) rest))
row_there counts table at (suc n) row (first ∷ rows) bytes rest fit there is =
    let found = row_there counts table (at + row_size counts table) n row rows bytes rest (λ k r e. fit (suc k) r e) (next_row counts table at first rows bytes rest (fit 0 first refl) there) is in
    let e : at + suc n * row_size counts table ≡ at + row_size counts table + n * row_size counts table = omega arith in
    (found.0, rw e (found.1))

pub none_bad_rows : (counts : Counts) (table at : ℕ) (rows : List Row) (bytes rest : List ℕ) → RowsFit counts table rows → IsTrue (has_indexes_looked_at table)
    → drop at bytes ≡ row_bytes counts table rows ++ rest → bad_in_rows counts bytes table at (length rows) ≡ None
none_bad_rows counts table at [] bytes rest fit looked there = refl
none_bad_rows counts table at (row ∷ rows) bytes rest fit looked there =
    let fits = fit 0 row refl in
    let few = few_columns table in
    let nine = fits.nine in
    let first = none_bad counts bytes row.cells (row_bytes counts table rows ++ rest) (columns_of table) at
    (there ∙ append_assoc (cell_bytes counts (columns_of table) row.cells) (row_bytes counts table rows) rest) (omega arith) fits.fits (λ k less. fits.names k looked less) in
    let others = none_bad_rows counts table (at + row_size counts table) rows bytes rest (λ k r e. fit (suc k) r e) looked (next_row counts table at row rows bytes rest fits there) in
    rw (first, others) refl

length-rows : (counts : Counts) (table : ℕ) (rows : List Row) → RowsFit counts table rows → length (row_bytes counts table rows) ≡ length rows * row_size counts table
length-rows counts table [] fit = omega arith
length-rows counts table (row ∷ rows) fit =
    let first = length-row counts table row.cells (fit 0 row refl) in
    let others = length-rows counts table rows (λ k r e. fit (suc k) r e) in
    rw (length-append (cell_bytes counts (columns_of table) row.cells), first, others) (omega arith)

-- the counts are those of the tables
abbrev pub Counted : Counts → List (List Row) → Type 0
Counted counts tables = (table : ℕ) → rows_of counts table ≡ length (get_or tables table [])

-- behind the rows of the tables before it stand the rows of a table
pub table_there : (counts : Counts) (tables : List (List Row)) → Counted counts tables → ((table : ℕ) → RowsFit counts table (get_or tables table [])) → (table : ℕ)
    → (drop (start_of counts table) (table_bytes counts 0 tables) ≡ table_bytes counts table (drop table tables)) × (start_of counts table ≤ length (table_bytes counts 0 tables))
unfolding start_of
table_there counts tables counted fit zero = (refl, omega arith)
table_there counts tables counted fit (suc table) =
    let here = table_there counts tables counted fit table in
    let rows = get_or tables table [] in
    elim (cases_lt table (length tables)) [
      | inl inside ↦
          let there : drop (start_of counts table) (table_bytes counts 0 tables) ≡ row_bytes counts table rows ++ table_bytes counts (suc table) (drop (suc table) tables) =
          here.0 ∙ ap (table_bytes counts table) (drop-cons tables table [] inside) in
          let size : rows_of counts table * row_size counts table ≡ length (row_bytes counts table rows) = rw (counted table) (sym (length-rows counts table rows (fit table))) in (
            behind_is (start_of counts table) (rows_of counts table * row_size counts table) (table_bytes counts 0 tables) (row_bytes counts table rows) _ there size,
            ends_inside (start_of counts table) (rows_of counts table * row_size counts table) (table_bytes counts 0 tables) (row_bytes counts table rows) _ there size here.1,
          )
      | inr past ↦
          let none : rows ≡ [] = get_or_past tables table [] past in
          let zero_rows : rows_of counts table ≡ 0 = counted table ∙ ap length none in
          let same : start_of counts table + rows_of counts table * row_size counts table ≡ start_of counts table = rw zero_rows (omega arith) in
          (rw (same, drop_all (suc table) tables (omega arith)) (here.0 ∙ ap (table_bytes counts table) (drop_all table tables past)), rw same here.1)
    ]
