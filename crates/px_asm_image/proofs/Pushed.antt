-- What is pushed, one part after the other.
use Rattle.std.proofs.Common.{◌≡◌, ◌≤◌, ◌<◌, ◌+◌, ◌*◌, ◌%◌, ◌^◌, ℕ, zero, suc, lit<, Bool, true, false, IsTrue, List, [], ◌∷◌, ◌++◌, length, get_or, drop, Result, Ok, Err, refl, sym, ◌∙◌, ap, arith, add-one, append_assoc, drop-cons, inl, inr}
use mir.Val.{bool_byte}
use Rattle.std.specs.Prelude.{if◌then◌else◌, is_ok, not, OnOk}
use Rattle.std.proofs.lemmas.Bool.{cases_lt}
use Rattle.std.proofs.lemmas.List.{get_or_past}
use Rattle.std.proofs.Math.Nat.{mod-eq_of_lt, mul-add, mul-le-mul_right, mul_assoc, mul_comm, pow-le-pow_right, pow-succ'}
use Rattle.byteorder.specs.Endian.{little_bytes}
use Rattle.px_tables.specs.declared.tables.Row.{Row}
use Rattle.px_tables.specs.Streams.{padded}
use Rattle.px_asm_image.specs.Layout.{counts_of, row_counts}
use Rattle.px_asm_image.specs.Metadata.{blob_name, count_bytes, has_rows, header_bytes, mask_of, padded_bytes, root_bytes, stream_header, stream_headers, streams_bytes, strings_name, table_bytes, tables_name, tables_stream, user_strings_name}
use Rattle.px_asm_image.proofs.Headed.{one_bit}

-- what one call pushed
pub pushed : {E : Type 0} (r : Result (Unit {0}) E) (new old other whole : List ℕ) → new ≡ (if is_ok r then old ++ other else old) → old ++ other ≡ whole → OnOk r (new ≡ whole)
pushed (Ok x) new old other whole is same = is ∙ same
pushed (Err e) new old other whole is same = tt

four : (old a b c d : List ℕ) → (((old ++ a) ++ b) ++ c) ++ d ≡ old ++ (a ++ (b ++ (c ++ d)))
four old a b c d =
    append_assoc ((old ++ a) ++ b) c d ∙ append_assoc (old ++ a) b (c ++ d) ∙ append_assoc old a (b ++ (c ++ d))

-- the headers of the streams, one after the other
pub headers_pushed : (t s u b old first second third : List ℕ) (p q r : ℕ) → p ≡ padded (length t) → q ≡ padded (length s) → r ≡ padded (length u)
    → first ≡ old ++ stream_header 92 (length t) tables_name → second ≡ first ++ stream_header (92 + p) (length s) strings_name
    → third ≡ second ++ stream_header (92 + p + q) (length u) user_strings_name
    → third ++ stream_header (92 + p + q + r) (length b) blob_name ≡ old ++ stream_headers t s u b
unfolding stream_headers
headers_pushed t s u b old first second third p q r pt qs ru a1 a2 a3 =
    rw (a3, a2, a1, pt, qs, ru)
    (four old (stream_header 92 (length t) tables_name) (stream_header (92 + padded (length t)) (length s) strings_name)
    (stream_header (92 + padded (length t) + padded (length s)) (length u) user_strings_name)
    (stream_header (92 + padded (length t) + padded (length s) + padded (length u)) (length b) blob_name))

-- the root, the headers and the streams
pub streams_pushed : (t s u b v0 v1 v2 v3 v4 v5 : List ℕ) → v0 ≡ root_bytes → v1 ≡ v0 ++ stream_headers t s u b → v2 ≡ v1 ++ padded_bytes t → v3 ≡ v2 ++ padded_bytes s
    → v4 ≡ v3 ++ padded_bytes u → v5 ≡ v4 ++ padded_bytes b → v5 ≡ streams_bytes t s u b
unfolding streams_bytes
streams_pushed t s u b v0 v1 v2 v3 v4 v5 a0 a1 a2 a3 a4 a5 =
    let h = stream_headers t s u b in
    let body = padded_bytes t ++ (padded_bytes s ++ (padded_bytes u ++ padded_bytes b)) in
    let all : v5 ≡ (root_bytes ++ h) ++ body = rw (a5, a4, a3, a2, a1, a0) (four (root_bytes ++ h) (padded_bytes t) (padded_bytes s) (padded_bytes u) (padded_bytes b)) in
    all ∙ append_assoc root_bytes h body

-- the header of the tables, the counts and the rows
pub tables_pushed : (tables : List (List Row)) (v0 v1 v2 v3 v4 : List ℕ) → v0 ≡ 0 ∷ 0 ∷ 0 ∷ 0 ∷ 2 ∷ 0 ∷ 7 ∷ 1 ∷ [] → v1 ≡ v0 ++ little_bytes 8 (mask_of tables) → v2 ≡ v1 ++ little_bytes 8 0
    → v3 ≡ v2 ++ count_bytes tables → v4 ≡ v3 ++ table_bytes (counts_of tables) 0 tables → v4 ≡ tables_stream tables
unfolding tables_stream
tables_pushed tables v0 v1 v2 v3 v4 a0 a1 a2 a3 a4 =
    let rows = table_bytes (counts_of tables) 0 tables in
    rw (a4, a3, a2, a1, a0) (append_assoc (header_bytes (mask_of tables)) (count_bytes tables) rows)

-- one more bit of the mask
pub bit_more : (tables : List (List Row)) (mask whole k bit : ℕ) (rows : List Row) → k < length tables → length tables ≤ 64 → bit ≡ (if has_rows (get_or tables k rows) then 1 else 0)
    → mask + 2 ^ k * mask_of (drop k tables) ≡ whole → mask < 2 ^ k
    → (mask + bit * 2 ^ k % 2 ^ 64 + 2 ^ (k + 1) * mask_of (drop (k + 1) tables) ≡ whole) × (mask + bit * 2 ^ k % 2 ^ 64 < 2 ^ (k + 1))
bit_more tables mask whole k bit rows more few is bits small =
    let rest = mask_of (drop (suc k) tables) in
    let top : 2 ^ k ≤ 2 ^ 63 = pow-le-pow_right (lit< tt) {i = k} {j = 63} (omega arith) in
    let one : bit ≤ 1 = rw is (one_bit (has_rows (get_or tables k rows))) in
    let least : bit * 2 ^ k ≤ 1 * 2 ^ k = mul-le-mul_right (2 ^ k) one in
    let fit : bit * 2 ^ k % 2 ^ 64 ≡ bit * 2 ^ k = mod-eq_of_lt {n = bit * 2 ^ k} {m = 2 ^ 64} (omega (arith, least, top)) in
    let next : 2 ^ (k + 1) ≡ 2 * 2 ^ k = ap (λ (m : ℕ). 2 ^ m) (add-one k) ∙ pow-succ' 2 k in
    let front : mask + 2 ^ k * (bit + 2 * rest) ≡ whole = rw is (rw (drop-cons tables k rows more) at bits) in
    let split : 2 ^ k * (bit + 2 * rest) ≡ 2 ^ k * bit + 2 ^ k * (2 * rest) = mul-add (2 ^ k) bit (2 * rest) in
    let first : 2 ^ k * bit ≡ bit * 2 ^ k = mul_comm (2 ^ k) bit in
    let second : 2 ^ k * (2 * rest) ≡ 2 * 2 ^ k * rest = sym (mul_assoc (2 ^ k) 2 rest) ∙ ap (λ (m : ℕ). m * rest) (mul_comm (2 ^ k) 2) in
    rw (fit, next, add-one k) (omega (arith, front, split, first, second), omega (arith, least))

-- the bit of a table, by the test
pub bit_of : (b : Bool) (rows : List Row) (bit : ℕ) → ((IsTrue b → rows ≡ []) × (rows ≡ [] → IsTrue b)) → bit ≡ bool_byte (not b) → bit ≡ (if has_rows rows then 1 else 0)
bit_of true [] bit test is = is
bit_of false [] bit test is = absurd (let none = test.1 refl in cc)
bit_of true (row ∷ rows) bit test is = absurd (let none = test.0 refl in cc)
bit_of false (row ∷ rows) bit test is = is

-- counts that are right one by one
pub counts_are : (n : ℕ) (tables : List (List Row)) (counts : List ℕ) → length counts ≡ n → length tables ≤ n → ((k : ℕ) → get_or counts k 0 ≡ length (get_or tables k [])) → counts ≡ row_counts n tables
unfolding row_counts
counts_are zero tables [] len few is = refl
counts_are zero tables (count ∷ counts) len few is = absurd (omega arith)
counts_are (suc n) tables [] len few is = absurd (omega arith)
counts_are (suc n) [] (count ∷ counts) len few is =
    let first : count ≡ 0 = is 0 in
    let others = counts_are n [] counts (omega arith) (omega arith) (λ k. is (suc k)) in
    rw (first, others) refl
counts_are (suc n) (rows ∷ tables) (count ∷ counts) len few is =
    let first : count ≡ length rows = is 0 in
    let others = counts_are n tables counts (omega arith) (omega arith) (λ k. is (suc k)) in
    rw (first, others) refl

-- one more count, where the tables behind have none yet
pub counts_all : (tables : List (List Row)) (counts : List ℕ) (end : ℕ) → length counts ≡ 64 → length tables ≤ 64 → length tables ≤ end
    → ((k : ℕ) → k < end → get_or counts k 0 ≡ length (get_or tables k [])) → ((k : ℕ) → end ≤ k → get_or counts k 0 ≡ 0) → counts ≡ row_counts 64 tables
counts_all tables counts end len few past before behind = counts_are 64 tables counts len few each
  where
    each : (k : ℕ) → get_or counts k 0 ≡ length (get_or tables k [])
    each k = elim (cases_lt k end) [
      | inl less ↦ before k less
      | inr more ↦ behind k more ∙ sym (ap length (get_or_past tables k [] (omega arith)))
    ]

-- the header of a stream
pub header_pushed : (offset size : ℕ) (name old first second : List ℕ) → first ≡ old ++ little_bytes 4 offset → second ≡ first ++ little_bytes 4 size
    → second ++ name ≡ old ++ stream_header offset size name
unfolding stream_header
header_pushed offset size name old first second a b =
    rw (b, a) (append_assoc (old ++ little_bytes 4 offset) (little_bytes 4 size) name ∙ append_assoc old (little_bytes 4 offset) (little_bytes 4 size ++ name))
