-- What is read of the stream of the tables as it is written.
use Rattle.std.proofs.Common.{◌≡◌, ◌≤◌, ◌<◌, ◌+◌, ◌*◌, ◌/◌, ◌%◌, ◌^◌, ◌==◌, ◌&&◌, ℕ, zero, suc, lit<, lit≤, Bool, true, false, IsTrue, List, [], ◌∷◌, ◌++◌, length, get_or, drop, None, Ok, refl, sym, ◌∙◌, ap, arith, append_assoc, length-append, drop-cons, inl, inr}
use Rattle.std.specs.Prelude.{if◌then◌else◌, find, nat_lt}
use Rattle.std.specs.List.{list_any, range_with_len}
use Rattle.std.proofs.lemmas.Bool.{cases_lt, le-ltb, ne_eqb}
use Rattle.std.proofs.lemmas.List.{drop_all, get_or_past}
use Rattle.std.proofs.Math.Nat.{div-div-eq-div-mul, div-one, pow-le-pow_right, pow-succ', zero-div}
use Rattle.byteorder.specs.Endian.{little_bytes}
use Rattle.px_tables.specs.declared.column.Column.{Column}
use Rattle.px_tables.specs.declared.counts.Counts.{Counts}
use Rattle.px_tables.specs.declared.header.Header.{Header}
use Rattle.px_tables.specs.declared.tables.Row.{Row}
use Rattle.px_tables.specs.Columns.{columns_of}
use Rattle.px_tables.specs.Counts.{has_bit, rows_of}
use Rattle.px_tables.specs.Metadata.{counts_at, has_unknown, header_of, rows_in}
use Rattle.px_tables.specs.Reading.{Part}
use Rattle.px_tables.specs.Rows.{bad_in_rows, cut_of, first_bad, first_cut, has_indexes_looked_at, start_of}
use Rattle.px_asm_image.specs.Layout.{RowsFit, counts_of, row_counts}
use Rattle.px_asm_image.specs.Metadata.{count_bytes, has_rows, header_bytes, mask_of, row_bytes, table_bytes}
use Rattle.px_asm_image.proofs.Placed.{behind_is, ends_inside, read_is, read_written}
use Rattle.px_asm_image.proofs.Laid.{Counted, none_bad_rows, table_there}

-- the count of a table is in its place
pub count_is : (n : ℕ) (tables : List (List Row)) (table : ℕ) → length tables ≤ n → get_or (row_counts n tables) table 0 ≡ length (get_or tables table [])
unfolding row_counts
count_is zero [] table few = refl
count_is zero (rows ∷ tables) table few = absurd (omega arith)
count_is (suc n) [] zero few = refl
count_is (suc n) [] (suc table) few = count_is n [] table (omega arith)
count_is (suc n) (rows ∷ tables) zero few = refl
count_is (suc n) (rows ∷ tables) (suc table) few = count_is n tables table (omega arith)

low_bit : (b : Bool) (mask : ℕ) → has_bit ((if b then 1 else 0) + 2 * mask) 0 ≡ b
low_bit true mask = let e : (1 + 2 * mask) % 2 ≡ 1 = omega arith in rw (div-one (1 + 2 * mask), e) refl
low_bit false mask = let e : (0 + 2 * mask) % 2 ≡ 0 = omega arith in rw (div-one (0 + 2 * mask), e) refl

half : (b : Bool) (mask : ℕ) → ((if b then 1 else 0) + 2 * mask) / 2 ≡ mask
half true mask = omega arith
half false mask = omega arith

next_bit : (b : Bool) (mask n : ℕ) → has_bit ((if b then 1 else 0) + 2 * mask) (suc n) ≡ has_bit mask n
next_bit b mask n =
    let whole : ℕ = (if b then 1 else 0) + 2 * mask in
    let e : whole / 2 ^ suc n ≡ mask / 2 ^ n =
    ap (λ (d : ℕ). whole / d) (pow-succ' 2 n) ∙ sym (div-div-eq-div-mul whole 2 (2 ^ n)) ∙ ap (λ (m : ℕ). m / 2 ^ n) (half b mask) in
    ap (λ (m : ℕ). m % 2 == 1) e

-- the bit of a table says whether it has rows
pub bit_is : (tables : List (List Row)) (table : ℕ) → has_bit (mask_of tables) table ≡ has_rows (get_or tables table [])
bit_is [] table = rw (zero-div (2 ^ table)) refl
bit_is (rows ∷ tables) zero = low_bit (has_rows rows) (mask_of tables)
bit_is (rows ∷ tables) (suc table) = next_bit (has_rows rows) (mask_of tables) table ∙ bit_is tables table

pub one_bit : (b : Bool) → (if b then 1 else 0) ≤ 1
one_bit true = lit≤ tt
one_bit false = lit≤ tt

mask_less : (tables : List (List Row)) → mask_of tables < 2 ^ length tables
mask_less [] = lit< tt
mask_less (rows ∷ tables) = rw (pow-succ' 2 (length tables)) (omega (arith, mask_less tables, one_bit (has_rows rows)))

pub mask_small : (tables : List (List Row)) → length tables ≤ 64 → mask_of tables < 2 ^ 64
mask_small tables few =
    let most : 2 ^ length tables ≤ 2 ^ 64 = pow-le-pow_right (lit< tt) {i = length tables} {j = 64} few in
    omega (arith, most, mask_less tables)

-- The bits of the mask, from that of a table on, are those of the tables.
abbrev pub Marked : ℕ → ℕ → List (List Row) → Type 0
Marked valid table tables = (k : ℕ) → has_bit valid (table + k) ≡ has_rows (get_or tables k [])

abbrev pub Few : List (List Row) → Type 0
Few tables = (k : ℕ) → length (get_or tables k []) < 2 ^ 24

next_marked : (valid table : ℕ) (rows : List Row) (tables : List (List Row)) → Marked valid table (rows ∷ tables) → Marked valid (table + 1) tables
next_marked valid table rows tables marked k = let e : table + 1 + k ≡ table + suc k = omega arith in rw e (marked (suc k))

none_marked : (valid table : ℕ) → Marked valid table [] → Marked valid (table + 1) []
none_marked valid table marked k = let e : table + 1 + k ≡ table + suc k = omega arith in rw e (marked (suc k))

first_marked : (valid table : ℕ) (tables : List (List Row)) → Marked valid table tables → has_bit valid table ≡ has_rows (get_or tables 0 [])
first_marked valid table tables marked = let e : table + 0 ≡ table = omega arith in rw e at (marked 0)

counts_read : (n table at valid : ℕ) (tables : List (List Row)) (part : Part) (rest : List ℕ) → length tables ≤ n → Marked valid table tables → Few tables
    → drop at part.bytes ≡ count_bytes tables ++ rest → at ≤ length part.bytes → counts_at n table valid part at ≡ Ok (row_counts n tables, at + length (count_bytes tables))
unfolding counts_at row_counts
counts_read zero table at valid [] part rest most marked few there inside = let e : at + 0 ≡ at = omega arith in rw e refl
counts_read zero table at valid (rows ∷ tables) part rest most marked few there inside = absurd (omega arith)
counts_read (suc n) table at valid [] part rest most marked few there inside =
    let others = counts_read n (table + 1) at valid [] part rest (omega arith) (none_marked valid table marked) few there inside in
    rw (first_marked valid table [] marked, others) refl
counts_read (suc n) table at valid ([] ∷ tables) part rest most marked few there inside =
    let others = counts_read n (table + 1) at valid tables part rest (omega arith) (next_marked valid table [] tables marked) (λ k. few (suc k)) there inside in
    rw (first_marked valid table ([] ∷ tables) marked, others) refl
counts_read (suc n) table at valid ((row ∷ rows) ∷ tables) part rest most marked few there inside =
    let count = length (row ∷ rows) in
    let front : drop at part.bytes ≡ little_bytes 4 count ++ (count_bytes tables ++ rest) = there ∙ append_assoc (little_bytes 4 count) (count_bytes tables) rest in
    let less : count < 256 ^ 4 = omega (arith, few 0) in
    let first = read_written 4 part at count (count_bytes tables ++ rest) front less inside in
    let others = counts_read n (table + 1) (at + 4) valid tables part rest (omega arith) (next_marked valid table (row ∷ rows) tables marked) (λ k. few (suc k))
    (behind_is at 4 part.bytes (little_bytes 4 count) (count_bytes tables ++ rest) front refl) (ends_inside at 4 part.bytes (little_bytes 4 count) (count_bytes tables ++ rest) front refl inside) in
    let e : at + 4 + length (count_bytes tables) ≡ at + length (little_bytes 4 count ++ count_bytes tables) = omega (arith, length-append (little_bytes 4 count) (count_bytes tables)) in
    rw (first_marked valid table ((row ∷ rows) ∷ tables) marked, first, others, e) refl

-- the header, before any rows
pub header_any : (mask start : ℕ) (tables : List (List Row)) (rest : List ℕ) → mask < 256 ^ 8 → length tables ≤ 64 → Marked mask 0 tables → Few tables
    → header_of (record { start = start; bytes = header_bytes mask ++ (count_bytes tables ++ rest) }) ≡ Ok (record { valid = mask; counts = counts_of tables; behind = 24 + length (count_bytes tables) })
unfolding header_of
header_any mask start tables rest small most marked few =
    let part : Part = record { start = start; bytes = header_bytes mask ++ (count_bytes tables ++ rest) } in
    let whole : 24 ≤ length part.bytes = omega (arith, length-append (header_bytes mask) (count_bytes tables ++ rest)) in
    let major = read_is 1 part 4 2 (omega arith) refl in
    let sizes = read_is 1 part 6 7 (omega arith) refl in
    let valid = read_written 8 part 8 mask (little_bytes 8 0 ++ (count_bytes tables ++ rest)) refl small (omega arith) in
    let sorted = read_is 8 part 16 0 (omega arith) refl in
    let counts = counts_read 64 0 24 mask tables part rest most marked few refl whole in
    rw (major, sizes, valid, sorted, counts) refl

any_none : (p : ℕ → Bool) (xs : List ℕ) → ((x : ℕ) → p x ≡ false) → list_any p xs ≡ false
any_none p [] none = refl
any_none p (x ∷ xs) none = rw (none x, any_none p xs none) refl

find_none : (p : ℕ → Bool) (xs : List ℕ) → ((x : ℕ) → p x ≡ false) → find p xs ≡ None
find_none p [] none = refl
find_none p (x ∷ xs) none = rw (none x, find_none p xs none) refl

not_unknown : (b : Bool) (rows : List Row) (columns : List Column) → b ≡ has_rows rows → (columns ≡ [] → rows ≡ []) → (b && (length columns == 0)) ≡ false
not_unknown b [] columns is known = rw is refl
not_unknown b (row ∷ rows) [] is known = absurd (let none = known refl in cc)
not_unknown b (row ∷ rows) (column ∷ columns) is known = rw (is, ne_eqb (length (column ∷ columns)) 0 (λ none. absurd (omega (arith, none)))) refl

pub all_known : (tables : List (List Row)) → ((table : ℕ) → columns_of table ≡ [] → get_or tables table [] ≡ []) → has_unknown (mask_of tables) ≡ false
unfolding has_unknown
all_known tables known = any_none _ (range_with_len 0 64) (λ table. not_unknown (has_bit (mask_of tables) table) (get_or tables table []) (columns_of table) (bit_is tables table) (known table))

pub none_cut : (counts : Counts) (size : ℕ) → ((table : ℕ) → start_of counts table ≤ size) → cut_of counts size ≡ None
unfolding cut_of first_cut
none_cut counts size whole = rw (find_none (λ t. nat_lt size (start_of counts (suc t))) (range_with_len 0 64) (λ table. le-ltb size (start_of counts (suc table)) (whole (suc table)))) refl

rows_of_table : (tables : List (List Row)) (table : ℕ) (counts : Counts)
    → (rest : List ℕ) × (table_bytes counts table (drop table tables) ≡ row_bytes counts table (get_or tables table []) ++ rest)
rows_of_table tables table counts =
    elim (cases_lt table (length tables)) [
      | inl inside ↦ (table_bytes counts (suc table) (drop (suc table) tables), ap (table_bytes counts table) (drop-cons tables table [] inside))
      | inr past ↦
          let none : get_or tables table [] ≡ [] = get_or_past tables table [] past in
          ([], rw (none) (ap (table_bytes counts table) (drop_all table tables past)))
    ]

-- where the rows of a table stand
pub rows_there : (counts : Counts) (tables : List (List Row)) → Counted counts tables → ((table : ℕ) → RowsFit counts table (get_or tables table [])) → (table : ℕ)
    → (rest : List ℕ) × (drop (start_of counts table) (table_bytes counts 0 tables) ≡ row_bytes counts table (get_or tables table []) ++ rest)
rows_there counts tables counted fit table =
    let here = table_there counts tables counted fit table in
    let front = rows_of_table tables table counts in
    (front.0, here.0 ∙ front.1)

pub none_bad_at : (counts : Counts) (tables : List (List Row)) → Counted counts tables → ((table : ℕ) → RowsFit counts table (get_or tables table [])) → (table : ℕ) → IsTrue (has_indexes_looked_at table)
    → bad_in_rows counts (table_bytes counts 0 tables) table (start_of counts table) (rows_of counts table) ≡ None
none_bad_at counts tables counted fit table looked =
    let there = rows_there counts tables counted fit table in
    rw (counted table) (none_bad_rows counts table (start_of counts table) (get_or tables table []) (table_bytes counts 0 tables) there.0 (fit table) looked there.1)

pub none_first_bad : (counts : Counts) (bytes : List ℕ)
    → ((table : ℕ) → IsTrue (has_indexes_looked_at table) → bad_in_rows counts bytes table (start_of counts table) (rows_of counts table) ≡ None) → first_bad counts bytes ≡ None
unfolding first_bad
none_first_bad counts bytes none = rw (none 0x01 refl, none 0x02 refl, none 0x04 refl, none 0x06 refl, none 0x0A refl, none 0x11 refl, none 0x19 refl, none 0x1B refl, none 0x29 refl) refl

pub rows_read : (part : Part) (header : Header) (rows : List ℕ) → has_unknown header.valid ≡ false → drop header.behind part.bytes ≡ rows → cut_of header.counts (length rows) ≡ None
    → first_bad header.counts rows ≡ None → rows_in part header ≡ Ok (record { counts = header.counts; bytes = rows })
unfolding rows_in
rows_read part header rows known there whole good = rw (known, there, whole, good) refl
