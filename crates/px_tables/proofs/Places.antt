-- Where the rows of the tables stand.
use Rattle.std.proofs.Common.{[], ◌≡◌, ◌≤◌, ◌<◌, ◌*◌, ◌+◌, ◌-◌, ◌/◌, ℕ, zero, suc, List, length, slice_index, refl, sym, ◌∙◌, ap, add-one, arith, ◌≢◌, set, below_more, subst, inl, inr, get_or-set_other, get_or-set_same, Some, None}
use Rattle.std.specs.List.{sum_by}
use Rattle.std.proofs.lemmas.Bool.{cases_lt, lt-ltb, le-ltb}
use Rattle.std.proofs.lemmas.List.{get_or_past}
use Rattle.std.proofs.Math.Nat.{mul-le-mul_left, mul-le-mul_right}
use Rattle.px_tables.specs.declared.counts.Counts.{Counts}
use Rattle.px_tables.specs.declared.column.Column.{Column}
use Rattle.px_tables.specs.Columns.{columns, columns_of}
use Rattle.px_tables.proofs.Sizes.{row_some}
use Rattle.px_tables.specs.Counts.{column_size, row_size, rows_of}
use Rattle.px_tables.specs.Laws.{IsLaidOut}
use Rattle.px_tables.specs.Rows.{Rows, cut_of, first_cut, start_of}

pub start_next : (counts : Counts) (table : ℕ) → start_of counts (table + 1) ≡ start_of counts table + rows_of counts table * row_size counts table
unfolding start_of
start_next counts table = rw add-one refl

pub next_is : (counts : Counts) (table end rows size : ℕ) → end ≡ start_of counts table → rows ≡ rows_of counts table → size ≡ row_size counts table → end + rows * size ≡ start_of counts (table + 1)
next_is counts table end rows size a b c = rw (a, b, c) (sym (start_next counts table))

-- the start of one more table
pub starts_more : (counts : Counts) (starts : List ℕ) (i table end : ℕ) → i ≡ table → table < length starts → end ≡ start_of counts table → ((k : ℕ) → k < table → slice_index starts k ≡ start_of counts k)
    → (k : ℕ) → k < table + 1 → slice_index (set starts i end) k ≡ start_of counts k
starts_more counts starts i table end is inside here below =
    rw is (below_more _ _ (λ k h. let ne : k ≢ table = omega arith in rw get_or-set_other (below k h)) (rw (get_or-set_same starts table end 0 inside) here))

-- no table begins before an earlier one
pub start_le : (counts : Counts) (table k : ℕ) → start_of counts table ≤ start_of counts (table + k)
start_le counts table zero = let e : table + 0 ≡ table = omega arith in rw e (omega arith)
start_le counts table (suc k) =
    let e : table + suc k ≡ (table + k) + 1 = omega arith in
    rw (e, start_next counts (table + k)) (omega (arith, start_le counts table k))

-- so many rows and one more lie before the rows of the next table
pub row_ends : (counts : Counts) (table n size : ℕ) → start_of counts 64 ≤ size → table < 64 → n < rows_of counts table → start_of counts table + n * row_size counts table + row_size counts table ≤ size
row_ends counts table n size whole known there =
    let more : (n + 1) * row_size counts table ≤ rows_of counts table * row_size counts table = mul-le-mul_right (row_size counts table) (omega arith) in
    let e : (table + 1) + (63 - table) ≡ 64 = omega arith in
    let later : start_of counts (table + 1) ≤ start_of counts 64 = rw e at (start_le counts (table + 1) (63 - table)) in
    omega (arith, more, later, start_next counts table)

one_more : (table : ℕ) → table < 64 → 64 - table ≡ suc (64 - (table + 1))
one_more table more = omega arith

-- the first table that is cut, where those before it aren't
pub cut_at : (counts : Counts) (size table : ℕ) → table < 64 → first_cut counts size table (64 - table) ≡ first_cut counts size 0 64 → size < start_of counts (table + 1)
    → cut_of counts size ≡ Some (start_of counts table + row_size counts table * ((size - start_of counts table) / row_size counts table))
unfolding cut_of first_cut
cut_at counts size table known rest cut =
    rw (← rest, one_more table known, lt-ltb size (start_of counts (suc table)) (rw add-one at cut)) refl

-- a table that isn't cut is passed over
pub cut_past : (counts : Counts) (size table : ℕ) → table < 64 → start_of counts (table + 1) ≤ size → first_cut counts size table (64 - table) ≡ first_cut counts size (table + 1) (64 - (table + 1))
unfolding first_cut
cut_past counts size table known whole = rw (one_more table known, le-ltb size (start_of counts (suc table)) (rw add-one at whole)) refl

pub cut_nowhere : (counts : Counts) (size table : ℕ) → 64 ≤ table → first_cut counts size table (64 - table) ≡ first_cut counts size 0 64 → cut_of counts size ≡ None
unfolding cut_of first_cut
cut_nowhere counts size table all rest =
    let e : 64 - table ≡ 0 = omega arith in rw (← rest, e) refl

-- a table that has a row is one of the first 64
pub is_known : (rows : List ℕ) (table n : ℕ) → length rows ≡ 64 → 0 < n → n ≤ slice_index rows table → table < 64
is_known rows table n len some there =
    elim (cases_lt table 64) [
      | inl known ↦ known
      | inr past ↦ let none : slice_index rows table ≡ 0 = get_or_past rows table 0 (omega arith) in absurd (omega arith)
    ]

-- what is so of the fields is so of what they stand for
pub laid_by : (v w : Rows) (starts : List ℕ) → v ≡ w → IsLaidOut v.counts starts v.bytes → IsLaidOut w.counts starts w.bytes
laid_by v w starts same laid = subst (λ (r : Rows). IsLaidOut r.counts starts r.bytes) same laid

-- where a row stands, computed from the fields
pub place_is : (v w : Rows) (starts : List ℕ) (i table n size : ℕ) → v ≡ w → IsLaidOut v.counts starts v.bytes → table < 64 → i ≡ table → size ≡ row_size v.counts table
    → slice_index starts i + n * size ≡ start_of w.counts table + n * row_size w.counts table
place_is v w starts i table n size same laid known is size_is =
    let all = laid_by v w starts same laid in
    rw (is, all.starts_are table known, size_is ∙ ap (λ (r : Rows). row_size r.counts table) same) refl

row_size_is : (counts : Counts) (table : ℕ) → row_size counts table ≡ sum_by (column_size counts) (columns_of table)
unfolding row_size
row_size_is counts table = refl

-- all columns of a row lie before the rows of the next table
pub columns_end : (counts : Counts) (table n at size : ℕ) (columns : List Column) → columns ≡ columns_of table → at ≡ start_of counts table + n * row_size counts table
    → start_of counts 64 ≤ size → table < 64 → n < rows_of counts table → at + sum_by (column_size counts) columns ≤ size
columns_end counts table n at size columns is here whole known there =
    rw (is, here, ← row_size_is counts table) (row_ends counts table n size whole known there)

-- all tables lie within the bytes
pub all_within : (counts : Counts) (size table end : ℕ) → 64 ≤ table → table ≤ 64 → end ≡ start_of counts table → end ≤ size → start_of counts 64 ≤ size
all_within counts size table end low high is inside = let e : table ≡ 64 = omega arith in rw (← e, ← is) inside

-- a table with columns has no more rows than there are bytes
pub few_rows : (counts : Counts) (table size : ℕ) → start_of counts 64 ≤ size → 0 < length (columns_of table) → rows_of counts table ≤ size
few_rows counts table size whole some =
    elim (cases_lt table 64) [
      | inr past ↦ let none : columns_of table ≡ [] = get_or_past columns table [] (omega arith) in absurd (omega (arith, ap length none))
      | inl known ↦ elim (cases_lt 0 (rows_of counts table)) [
        | inr none ↦ omega arith
        | inl more ↦
            let ends = row_ends counts table (rows_of counts table - 1) size whole known (omega arith) in
            let least = mul-le-mul_left (rows_of counts table - 1) (row_some counts table some) in
            omega (arith, ends, least, row_some counts table some)
      ]
    ]
