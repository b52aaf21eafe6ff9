-- The test of content decides whether it can be written.
use Rattle.std.proofs.Common.{◌≡◌, ◌<◌, ◌+◌, ◌^◌, ◌==◌, ◌&&◌, ℕ, zero, suc, Bool, true, false, List, [], ◌∷◌, length, get_or, slice_index, Some, refl, ◌∙◌, ap, arith, inl, inr}
use Rattle.std.specs.Prelude.{not, nat_lt, nat_le, slice_get}
use Rattle.std.specs.List.{list_all, range_with_len}
use Rattle.std.proofs.lemmas.Bool.{and_parts, cases_lt, eq-eqb, eqb-true, le-leb, leb-true, lt-ltb, ltb-true, ne_eqb, not-true}
use Rattle.std.proofs.lemmas.List.{get_or_past}
use Rattle.std.proofs.lemmas.List.FromFn.{get_or-range_with_len}
use Rattle.std.proofs.lemmas.Option.{slice_get-get_or, slice_get_past, get_or_from_slice_get}
use Rattle.px_tables.specs.declared.column.Column.{Column}
use Rattle.px_tables.specs.declared.column.Column.TheVariants.{U8}
use Rattle.px_tables.specs.declared.counts.Counts.{Counts}
use Rattle.px_tables.specs.declared.tables.Row.{Row}
use Rattle.px_tables.specs.Columns.{columns_of}
use Rattle.px_tables.specs.Counts.{column_size, is_bad}
use Rattle.px_tables.specs.Rows.{has_indexes_looked_at}
use Rattle.px_tables.proofs.Sizes.{few_columns}
use Rattle.px_asm_image.specs.declared.content.Content.{Content}
use Rattle.px_asm_image.specs.Fitting.{cell_fits, cells_fit, fits, fits_column, has_few_rows, row_fits, rows_fit, table_fits, tables_fit}
use Rattle.px_asm_image.specs.Layout.{Fits, RowFits, RowsFit, counts_of}

all_at : {X : Type 0} (p : X → Bool) (xs : List X) (k : ℕ) (x : X) → list_all p xs ≡ true → slice_get xs k ≡ Some x → p x ≡ true
all_at p [] k x all is = absurd (cc)
all_at p (y ∷ ys) zero x all is =
    let same : y ≡ x = cc in
    rw (← same) ((and_parts (p y) (list_all p ys) all).0)
all_at p (y ∷ ys) (suc k) x all is = all_at p ys k x ((and_parts (p y) (list_all p ys) all).1) is

all_by : {X : Type 0} (p : X → Bool) (xs : List X) → ((k : ℕ) (x : X) → slice_get xs k ≡ Some x → p x ≡ true) → list_all p xs ≡ true
all_by p [] each = refl
all_by p (x ∷ xs) each = rw (each 0 x refl, all_by p xs (λ k y is. each (suc k) y is)) refl

-- one of the first nine
ninth : (k : ℕ) → k < 9 → slice_get (range_with_len 0 9) k ≡ Some k
ninth k less =
    let value : get_or (range_with_len 0 9) k 0 ≡ k = get_or-range_with_len 0 9 k 0 less ∙ omega arith in
    slice_get-get_or (range_with_len 0 9) k 0 less ∙ ap Some value

column_right : (counts : Counts) (looked : Bool) (column : Column) (cell : ℕ) → fits_column counts looked (Some column) cell ≡ true
    → (cell < 256 ^ column_size counts column) × (looked ≡ true → is_bad counts column cell ≡ false)
column_right counts true column cell fit =
    let parts = and_parts (nat_lt cell (256 ^ column_size counts column)) (not (is_bad counts column cell)) fit in
    (ltb-true cell (256 ^ column_size counts column) parts.0, λ looked. not-true (is_bad counts column cell) parts.1)
column_right counts false column cell fit =
    let parts = and_parts (nat_lt cell (256 ^ column_size counts column)) true fit in
    (ltb-true cell (256 ^ column_size counts column) parts.0, λ looked. absurd (cc))

column_back : (counts : Counts) (looked : Bool) (column : Column) (cell : ℕ) → cell < 256 ^ column_size counts column → (looked ≡ true → is_bad counts column cell ≡ false)
    → fits_column counts looked (Some column) cell ≡ true
column_back counts true column cell small good = rw (lt-ltb cell (256 ^ column_size counts column) small, good refl) refl
column_back counts false column cell small good = rw (lt-ltb cell (256 ^ column_size counts column) small) refl

-- the column of a number
column_is : (table k : ℕ) → k < length (columns_of table) → slice_get (columns_of table) k ≡ Some (get_or (columns_of table) k U8)
column_is table k less = slice_get-get_or (columns_of table) k U8 less

row_right : (counts : Counts) (table : ℕ) (cells : List ℕ) → row_fits counts table cells ≡ true → RowFits counts table cells
row_right counts table cells fit =
    let parts = and_parts (length cells == 9) (cells_fit counts table cells) fit in
    let nine = eqb-true (length cells) 9 parts.0 in
    let few = few_columns table in
    let each : (k : ℕ) → k < 9 → cell_fits counts table cells k ≡ true = λ k less. all_at (cell_fits counts table cells) (range_with_len 0 9) k k parts.1 (ninth k less) in
    let inner : (k : ℕ) → k < length (columns_of table) → fits_column counts (has_indexes_looked_at table) (Some (get_or (columns_of table) k U8)) (slice_index cells k) ≡ true =
    λ k less. rw (column_is table k less) at (each k (omega arith)) in
    record {
      nine = nine;
      fits = λ k less. (column_right counts (has_indexes_looked_at table) (get_or (columns_of table) k U8) (slice_index cells k) (inner k less)).0;
      names = λ k looked less. (column_right counts (has_indexes_looked_at table) (get_or (columns_of table) k U8) (slice_index cells k) (inner k less)).1 looked;
      zeros = λ k past. elim (cases_lt k 9) [
        | inl less ↦ eqb-true (slice_index cells k) 0 (rw (slice_get_past (columns_of table) k past) at (each k less))
        | inr more ↦ get_or_past cells k 0 (omega arith)
      ];
    }

row_back : (counts : Counts) (table : ℕ) (cells : List ℕ) → RowFits counts table cells → row_fits counts table cells ≡ true
row_back counts table cells fit =
    rw (eq-eqb (length cells) 9 fit.nine) (all_by (cell_fits counts table cells) (range_with_len 0 9) (λ i k is. each k))
  where
    each : (k : ℕ) → cell_fits counts table cells k ≡ true
    each k = elim (cases_lt k (length (columns_of table))) [
      | inl less ↦ rw (column_is table k less)
          (column_back counts (has_indexes_looked_at table) (get_or (columns_of table) k U8) (slice_index cells k) (fit.fits k less) (λ looked. fit.names k looked less))
      | inr past ↦ rw (slice_get_past (columns_of table) k past) (eq-eqb (slice_index cells k) 0 (fit.zeros k past))
    ]

table_right : (counts : Counts) (table : ℕ) (rows : List Row) → table_fits counts table rows ≡ true → RowsFit counts table rows × (columns_of table ≡ [] → rows ≡ [])
table_right counts table [] fit = (λ k row is. absurd (cc), λ none. refl)
table_right counts table (row ∷ rows) fit =
    let some : (length (row ∷ rows) == 0) ≡ false = ne_eqb (length (row ∷ rows)) 0 (λ none. absurd (omega (arith, none))) in
    let both = rw some at fit in
    let parts = and_parts (not (length (columns_of table) == 0)) (rows_fit counts table (row ∷ rows)) both in (
      λ k r is. row_right counts table r.cells (all_at (λ (r : Row). row_fits counts table r.cells) (row ∷ rows) k r parts.1 is),
      λ none. let empty = eq-eqb (length (columns_of table)) 0 (ap length none) in let full = not-true _ parts.0 in absurd (cc),
    )

table_back : (counts : Counts) (table : ℕ) (rows : List Row) → RowsFit counts table rows → (columns_of table ≡ [] → rows ≡ []) → table_fits counts table rows ≡ true
table_back counts table [] fit known = refl
table_back counts table (row ∷ rows) fit known =
    let some : (length (row ∷ rows) == 0) ≡ false = ne_eqb (length (row ∷ rows)) 0 (λ none. absurd (omega (arith, none))) in
    let full : (length (columns_of table) == 0) ≡ false = ne_eqb (length (columns_of table)) 0 (empty (columns_of table) known) in
    rw (some, full) (all_by (λ (r : Row). row_fits counts table r.cells) (row ∷ rows) (λ k r is. row_back counts table r.cells (fit k r is)))
  where
    empty : (columns : List Column) → (columns ≡ [] → (row ∷ rows) ≡ []) → length columns ≡ 0 → ⊥
    empty [] known none = let e = known refl in absurd (cc)
    empty (column ∷ columns) known none = absurd (omega (arith, none))

tables_right : (counts : Counts) (first : ℕ) (tables : List (List Row)) (k : ℕ) → tables_fit counts first tables ≡ true → table_fits counts (first + k) (get_or tables k []) ≡ true
tables_right counts first [] k fit = refl
tables_right counts first (rows ∷ tables) zero fit =
    let e : first + 0 ≡ first = omega arith in
    rw e ((and_parts (table_fits counts first rows) (tables_fit counts (suc first) tables) fit).0)
tables_right counts first (rows ∷ tables) (suc k) fit =
    let e : first + suc k ≡ suc first + k = omega arith in
    rw e (tables_right counts (suc first) tables k ((and_parts (table_fits counts first rows) (tables_fit counts (suc first) tables) fit).1))

tables_back : (counts : Counts) (first : ℕ) (tables : List (List Row)) → ((k : ℕ) → table_fits counts (first + k) (get_or tables k []) ≡ true) → tables_fit counts first tables ≡ true
tables_back counts first [] each = refl
tables_back counts first (rows ∷ tables) each =
    let e : first + 0 ≡ first = omega arith in
    let here : table_fits counts first rows ≡ true = rw e at (each 0) in
    let others = tables_back counts (suc first) tables (λ k. let n : suc first + k ≡ first + suc k = omega arith in rw n (each (suc k))) in
    rw (here, others) refl

few_right : (tables : List (List Row)) (k : ℕ) → has_few_rows tables ≡ true → length (get_or tables k []) < 2 ^ 24
few_right tables k few =
    elim (cases_lt k (length tables)) [
      | inl less ↦ ltb-true _ _ (all_at (λ (rows : List Row). nat_lt (length rows) (2 ^ 24)) tables k (get_or tables k []) few (slice_get-get_or tables k [] less))
      | inr past ↦ let none : get_or tables k [] ≡ [] = get_or_past tables k [] past in rw none (omega arith)
    ]

few_back : (tables : List (List Row)) → ((k : ℕ) → length (get_or tables k []) < 2 ^ 24) → has_few_rows tables ≡ true
few_back tables few = all_by (λ (rows : List Row). nat_lt (length rows) (2 ^ 24)) tables
    (λ k rows is. lt-ltb (length rows) (2 ^ 24) (rw (get_or_from_slice_get tables k rows [] is) at (few k)))

pub fits_right : (content : Content) → fits content ≡ true → Fits content
unfolding fits
fits_right content fit =
    let tables = content.rows in
    let counts = counts_of tables in
    let halves = and_parts (nat_le (length tables) 64 && has_few_rows tables) _ fit in
    let first = and_parts (nat_le (length tables) 64) (has_few_rows tables) halves.0 in
    let second = and_parts (tables_fit counts 0 tables) _ halves.1 in
    let each : (table : ℕ) → table_fits counts table (get_or tables table []) ≡ true =
    λ table. let e : 0 + table ≡ table = omega arith in rw e at (tables_right counts 0 tables table second.0) in
    record {
      few_tables = leb-true (length tables) 64 first.0;
      few_rows = λ table. few_right tables table first.1;
      known = λ table. (table_right counts table (get_or tables table []) (each table)).1;
      rows = λ table. (table_right counts table (get_or tables table []) (each table)).0;
      short = ltb-true _ _ second.1;
    }

pub fits_back : (content : Content) → Fits content → fits content ≡ true
unfolding fits
fits_back content fit =
    let tables = content.rows in
    let counts = counts_of tables in
    let first = le-leb (length tables) 64 fit.few_tables in
    let second = few_back tables fit.few_rows in
    let third = tables_back counts 0 tables (λ k. let e : 0 + k ≡ k = omega arith in rw e (table_back counts k (get_or tables k []) (fit.rows k) (fit.known k))) in
    let fourth = lt-ltb _ _ fit.short in
    rw (first, second, third, fourth) refl
