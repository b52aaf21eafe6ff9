-- Where no index was found that names no row, each one names a row.
use Rattle.std.proofs.Common.{◌≡◌, ◌≤◌, ◌<◌, ◌+◌, ◌-◌, ◌*◌, ◌^◌, ◌==◌, ◌||◌, ℕ, suc, zero, Bool, true, false, List, [], ◌∷◌, ◌++◌, length, get_or, replicate, slice_index, Option, Some, None, refl, ◌∙◌, ap, subst, arith, IsTrue}
use Rattle.std.specs.Prelude.{if◌then◌else◌}
use Rattle.std.specs.List.{list_any}
use Rattle.std.proofs.Math.ListN.{get_or-append}
use Rattle.std.proofs.lemmas.Bool.{eqb-true}
use Rattle.std.proofs.lemmas.List.{get_or-take}
use Rattle.px_tables.specs.declared.column.Column.{Column}
use Rattle.px_tables.specs.declared.column.Column.TheVariants.{U8}
use Rattle.px_tables.specs.declared.counts.Counts.{Counts}
use Rattle.px_tables.specs.declared.column.Heap.{Heap}
use Rattle.px_tables.specs.declared.column.Heap.TheVariants as heaps
use Rattle.px_tables.specs.Columns.{columns_of}
use Rattle.px_tables.specs.Counts.{column_size, is_bad, row_size, rows_of}
use Rattle.px_tables.specs.Metadata.{View, heap_of, IsSound}
use Rattle.px_tables.specs.Rows.{bad_in_columns, bad_in_rows, bad_in_tables, cell_at, cells_at, first_bad, has_indexes_looked_at, or_else, row_of, row_start, start_of, tables_with_indexes}
use Rattle.px_tables.proofs.Places.{few_rows}
use Rattle.px_tables.proofs.Sizes.{few_columns}

neither : (a b : Option ℕ) → or_else a b ≡ None → (a ≡ None) × (b ≡ None)
neither None b h = (refl, h)
neither (Some x) b h = absurd (cc)

not_here : (b : Bool) (at : ℕ) (rest : Option ℕ) → (if b then Some at else rest) ≡ None → (b ≡ false) × (rest ≡ None)
not_here true at rest h = absurd (cc)
not_here false at rest h = (refl, h)

-- none in a table that is looked at
in_tables : (counts : Counts) (bytes : List ℕ) (table : ℕ) (tables : List ℕ) → bad_in_tables counts bytes tables ≡ None → list_any (λ n. n == table) tables ≡ true
    → bad_in_rows counts bytes table (start_of counts table) (rows_of counts table) ≡ None
in_tables counts bytes table [] none looked = absurd (cc)
in_tables counts bytes table (t ∷ ts) none looked =
    let parts = neither _ _ none in
    by_test (t == table) refl parts.0 (λ later. in_tables counts bytes table ts parts.1 later) looked
  where
    by_test : (b : Bool) → (t == table) ≡ b → bad_in_rows counts bytes t (start_of counts t) (rows_of counts t) ≡ None
        → (list_any (λ n. n == table) ts ≡ true → bad_in_rows counts bytes table (start_of counts table) (rows_of counts table) ≡ None)
        → (b || list_any (λ n. n == table) ts) ≡ true → bad_in_rows counts bytes table (start_of counts table) (rows_of counts table) ≡ None
    by_test true e here later looked = subst (λ (x : ℕ). bad_in_rows counts bytes x (start_of counts x) (rows_of counts x) ≡ None) (eqb-true t table e) here
    by_test false e here later looked = later looked

-- none in a row
in_rows : (counts : Counts) (bytes : List ℕ) (table m n at : ℕ) → bad_in_rows counts bytes table at m ≡ None → n < m
    → bad_in_columns counts bytes (at + n * row_size counts table) (columns_of table) ≡ None
in_rows counts bytes table zero n at none less = absurd (omega arith)
in_rows counts bytes table (suc m) zero at none less =
    let e : at + zero * row_size counts table ≡ at = omega arith in rw e ((neither _ _ none).0)
in_rows counts bytes table (suc m) (suc n) at none less =
    let e : at + suc n * row_size counts table ≡ at + row_size counts table + n * row_size counts table = omega arith in
    rw e (in_rows counts bytes table m n (at + row_size counts table) ((neither _ _ none).1) (omega arith))

-- none in a column
in_columns : (counts : Counts) (bytes : List ℕ) (columns : List Column) (at k : ℕ) → bad_in_columns counts bytes at columns ≡ None → k < length columns
    → is_bad counts (get_or columns k U8) (get_or (cells_at counts bytes at columns) k 0) ≡ false
in_columns counts bytes [] at k none less = absurd (omega arith)
in_columns counts bytes (column ∷ columns) at zero none less = (not_here (is_bad counts column (cell_at counts bytes at column)) at _ none).0
in_columns counts bytes (column ∷ columns) at (suc k) none less =
    in_columns counts bytes columns (at + column_size counts column) k ((not_here (is_bad counts column (cell_at counts bytes at column)) at _ none).1) (omega arith)

length-cells_at : (counts : Counts) (bytes : List ℕ) (columns : List Column) (at : ℕ) → length (cells_at counts bytes at columns) ≡ length columns
length-cells_at counts bytes [] at = refl
length-cells_at counts bytes (column ∷ columns) at = ap suc (length-cells_at counts bytes columns (at + column_size counts column))

-- a cell of a row
cell_is : (counts : Counts) (bytes : List ℕ) (table n k : ℕ) → k < length (columns_of table)
    → slice_index (row_of counts bytes table n) k ≡ get_or (cells_at counts bytes (row_start counts table n) (columns_of table)) k 0
unfolding row_of
cell_is counts bytes table n k less =
    let cells = cells_at counts bytes (row_start counts table n) (columns_of table) in
    get_or-take 9 (cells ++ replicate 9 0) k 0 (omega (arith, few_columns table))
    ∙ get_or-append cells (replicate 9 0) 0 k (omega (arith, length-cells_at counts bytes (columns_of table) (row_start counts table n)))

pub all_good : (counts : Counts) (bytes : List ℕ) → first_bad counts bytes ≡ None
    → (table n k : ℕ) → IsTrue (has_indexes_looked_at table) → 0 < n → n ≤ rows_of counts table → k < length (columns_of table)
    → is_bad counts (get_or (columns_of table) k U8) (slice_index (row_of counts bytes table n) k) ≡ false
unfolding first_bad
all_good counts bytes none table n k looked some there less =
    rw (cell_is counts bytes table n k less)
    (in_columns counts bytes (columns_of table) (row_start counts table n) k
    (in_rows counts bytes table (rows_of counts table) (n - 1) (start_of counts table) (in_tables counts bytes table tables_with_indexes none looked) (omega arith)) less)

short_all : (v : View) → length v.strings < 2 ^ 31 → length v.user_strings < 2 ^ 31 → length v.guid < 2 ^ 31 → length v.blob < 2 ^ 31 → (heap : Heap) → length (heap_of v heap) < 2 ^ 31
short_all v a b c d heaps.Strings = a
short_all v a b c d heaps.UserStrings = b
short_all v a b c d heaps.Guid = c
short_all v a b c d heaps.Blob = d

pub sound_by : (v : View) → start_of v.counts 64 ≤ length v.rows → length v.rows < 2 ^ 31 → length v.strings < 2 ^ 31 → length v.user_strings < 2 ^ 31 → length v.guid < 2 ^ 31 → length v.blob < 2 ^ 31
    → first_bad v.counts v.rows ≡ None → IsSound v
sound_by v whole rows a b c d none =
    record {
      few = λ table some. let few = few_rows v.counts table (length v.rows) whole some in omega (arith, few, rows);
      short_rows = rows;
      short_heaps = short_all v a b c d;
      indexes = all_good v.counts v.rows none;
    }
