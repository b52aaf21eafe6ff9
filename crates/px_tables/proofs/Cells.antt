-- The cells of a row, one after the other.
use Rattle.std.proofs.Common.{◌≡◌, ◌≤◌, ◌<◌, ◌+◌, ◌-◌, ℕ, List, ◌++◌, length, get_or, set, take, drop, replicate, sym, ◌∙◌, ap, add-one, arith, append_assoc, append-nil, length-take, drop-cons, drop-drop}
use Rattle.std.specs.List.{sum_by}
use Rattle.std.proofs.lemmas.List.{drop-replicate, drop-set-lt, drop_all, take-append-drop, take-replicate, take_more_set}
use Rattle.std.proofs.Math.Seq.{take-append-add}
use Rattle.std.proofs.lemmas.List.Sums.{sum_by-cons}
use Rattle.px_tables.specs.declared.column.Column.{Column}
use Rattle.px_tables.specs.declared.column.Column.TheVariants.{U8}
use Rattle.px_tables.specs.declared.counts.Counts.{Counts}
use Rattle.px_tables.specs.Columns.{columns_of}
use Rattle.px_tables.specs.Counts.{column_size}
use Rattle.px_tables.specs.Rows.{cell_at, cells_at, row_of, row_start}

-- one more cell
pub cells_more : (counts : Counts) (bytes cells whole : List ℕ) (columns : List Column) (at k x size : ℕ) → length cells ≡ 9 → k < length columns → length columns ≤ 9
    → x ≡ cell_at counts bytes at (get_or columns k U8) → size ≡ column_size counts (get_or columns k U8)
    → take k cells ++ cells_at counts bytes at (drop k columns) ≡ whole
    → take (k + 1) (set cells k x) ++ cells_at counts bytes (at + size) (drop (k + 1) columns) ≡ whole
cells_more counts bytes cells whole columns at k x size len more few is size_is front =
    rw (take_more_set cells k x (omega arith), append_assoc, is, size_is, add-one k) (rw (drop-cons columns k U8 more) at front)

-- the cells behind are still zeros
pub zeros_more : (cells : List ℕ) (k x : ℕ) → drop k cells ≡ replicate (9 - k) 0 → drop (k + 1) (set cells k x) ≡ replicate (9 - (k + 1)) 0
zeros_more cells k x zeros =
    let e : 9 - k - 1 ≡ 9 - (k + 1) = omega arith in
    drop-set-lt (k + 1) cells k x (omega arith) ∙ sym (drop-drop 1 k cells) ∙ ap (drop 1) zeros ∙ drop-replicate 1 (9 - k) 0 ∙ ap (λ m. replicate m 0) e

-- the columns that are left lie within the bytes too
pub inside_more : (counts : Counts) (columns : List Column) (at k size end : ℕ) → k < length columns → size ≡ column_size counts (get_or columns k U8)
    → at + sum_by (column_size counts) (drop k columns) ≤ end → at + size + sum_by (column_size counts) (drop (k + 1) columns) ≤ end
inside_more counts columns at k size end more size_is inside =
    let left = rw (drop-cons columns k U8 more, sum_by-cons (column_size counts)) at inside in rw (size_is, add-one k) (omega arith)

-- all cells
pub cells_all : (counts : Counts) (bytes cells : List ℕ) (columns : List Column) (at k table n : ℕ) → columns ≡ columns_of table → length cells ≡ 9 → length columns ≤ k → k ≤ 9
    → take k cells ++ cells_at counts bytes at (drop k columns) ≡ cells_at counts bytes (row_start counts table n) columns → drop k cells ≡ replicate (9 - k) 0
    → cells ≡ row_of counts bytes table n
unfolding row_of
cells_all counts bytes cells columns at k table n is len all few front zeros =
    let front_is : take k cells ≡ cells_at counts bytes (row_start counts table n) (columns_of table) = rw (drop_all k columns all, append-nil, is) at front in
    let size : length (take k cells) ≡ k = omega (arith, length-take {A = ℕ}) in
    let e : k + (9 - k) ≡ 9 = omega arith in
    let f : length (take k cells) + (9 - k) ≡ 9 = omega arith in
    sym (take-append-drop k cells) ∙ ap (λ r. take k cells ++ r) zeros
    ∙ ap (λ r. take k cells ++ r) (sym (take-replicate (9 - k) 9 0 (omega arith)))
    ∙ sym (take-append-add (take k cells) (replicate 9 0) (9 - k))
    ∙ ap (λ m. take m (take k cells ++ replicate 9 0)) f
    ∙ ap (λ r. take 9 (r ++ replicate 9 0)) front_is
