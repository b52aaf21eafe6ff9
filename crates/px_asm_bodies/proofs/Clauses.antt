-- Clauses are read where their bytes stand.
use Rattle.std.proofs.Common.{◌≡◌, ℕ, zero, suc, ◌+◌, ◌-◌, ◌*◌, ◌/◌, ◌^◌, ◌<◌, ◌≤◌, List, [], ◌∷◌, ◌++◌, length, drop, Result, Ok, Err, true, refl, sym, ap, ◌∙◌, arith, append_assoc, length-append}
use Rattle.std.specs.Prelude.{nat_lt, slice_index, ◌&&◌, ◌||◌, ◌==◌, if◌then◌else◌}
use Rattle.std.specs.List.{All, flat_map, list_all}
use Rattle.std.proofs.lemmas.Bool.{and_parts, le-ltb}
use Rattle.std.proofs.lemmas.Bool.Decides.{nat_tests}
use Rattle.px_code.specs.Reading.{PlacedFault}
use Rattle.px_code.specs.Body.{clause_at, clauses_at, end_of, fat_clause, is_among, is_placed, is_range, is_start, number_at, sections_from}
use Rattle.px_code.specs.declared.body.BodyKind.TheVariants.{BadClause}
use Rattle.px_code.specs.declared.body.RawInstr.{RawInstr}
use Rattle.px_code.specs.declared.body.RawClause.{RawClause}
use Rattle.px_asm_bodies.specs.Bytes.{clause_bytes, little_bytes, section_bytes}
use Rattle.px_asm_bodies.specs.Parts.{HasRanges, IsNarrow}
use Rattle.px_asm_bodies.proofs.Little.{behind_is, ends_inside, length-little, number_is}
use Rattle.px_asm_bodies.proofs.Reading.{byte_there}

-- RANGES

range_of : (instrs : List RawInstr) (from to : ℕ) → is_range instrs from to ≡ true → from ≤ to
range_of instrs from to is =
    let parts = and_parts (nat_lt from to && is_start instrs from) (is_start instrs to || (to == end_of instrs)) is in
    let less : nat_lt from to ≡ true = (and_parts (nat_lt from to) (is_start instrs from) parts.0).0 in
    grind (arith, nat_tests)

ranges_of : (instrs : List RawInstr) (clause : RawClause) → is_placed instrs clause ≡ true → HasRanges clause
ranges_of instrs clause is =
    let parts = and_parts (is_among ((0, 2) ∷ (4, 4) ∷ []) clause.flags && is_range instrs clause.from clause.to) (is_range instrs clause.start clause.stop) is in
    let guarded = and_parts (is_among ((0, 2) ∷ (4, 4) ∷ []) clause.flags) (is_range instrs clause.from clause.to) parts.0 in
    record { guarded = range_of instrs clause.from clause.to guarded.1; handler = range_of instrs clause.start clause.stop parts.1 }

-- the ranges of clauses that are placed
pub all_ranges : (instrs : List RawInstr) (clauses : List RawClause) → list_all (is_placed instrs) clauses ≡ true → All HasRanges clauses
all_ranges instrs [] placed k d h = absurd (omega arith)
all_ranges instrs (clause ∷ clauses) placed zero d h = ranges_of instrs clause (and_parts (is_placed instrs clause) (list_all (is_placed instrs) clauses) placed).0
all_ranges instrs (clause ∷ clauses) placed (suc k) d h =
    all_ranges instrs clauses (and_parts (is_placed instrs clause) (list_all (is_placed instrs) clauses) placed).1 k d (omega arith)

-- CLAUSES

-- a number of four bytes, and what stands behind it
four : (bytes more rest : List ℕ) (at next n : ℕ) → next ≡ at + 4 → drop at bytes ≡ (little_bytes 4 n ++ more) ++ rest → n < 2 ^ 32 → (number_at bytes at 4 ≡ n) × (drop next bytes ≡ more ++ rest)
four bytes more rest at next n is there small =
    let here : drop at bytes ≡ little_bytes 4 n ++ (more ++ rest) = there ∙ append_assoc (little_bytes 4 n) more rest in
    (number_is bytes at 4 n (more ++ rest) here small, ap (λ m. drop m bytes) is ∙ behind_is at 4 bytes (little_bytes 4 n) (more ++ rest) here (sym (length-little 4 n)))

same_clause : (clause : RawClause) (flags from to start stop class : ℕ) → flags ≡ clause.flags → from ≡ clause.from → to ≡ clause.to → start ≡ clause.start → stop ≡ clause.stop → class ≡ clause.class
    → record { flags = flags; from = from; to = to; start = start; stop = stop; class = class } ≡ clause
same_clause clause flags from to start stop class a b c d e f = rw (a, b, c, d, e, f) refl

clause_is : (bytes rest : List ℕ) (at : ℕ) (clause : RawClause) → HasRanges clause → IsNarrow clause → drop at bytes ≡ clause_bytes clause ++ rest → fat_clause bytes at ≡ clause
unfolding clause_bytes
clause_is bytes rest at clause ranges narrow there =
    let n6 = little_bytes 4 clause.class in
    let n5 = little_bytes 4 (clause.stop - clause.start) ++ n6 in
    let n4 = little_bytes 4 clause.start ++ n5 in
    let n3 = little_bytes 4 (clause.to - clause.from) ++ n4 in
    let n2 = little_bytes 4 clause.from ++ n3 in
    let one = four bytes n2 rest at (at + 4) clause.flags refl there narrow.flags in
    let two = four bytes n3 rest (at + 4) (at + 8) clause.from (omega arith) one.1 narrow.from in
    let three = four bytes n4 rest (at + 8) (at + 12) (clause.to - clause.from) (omega arith) two.1 (omega (arith, narrow.to)) in
    let fourth = four bytes n5 rest (at + 12) (at + 16) clause.start (omega arith) three.1 narrow.start in
    let five = four bytes n6 rest (at + 16) (at + 20) (clause.stop - clause.start) (omega arith) fourth.1 (omega (arith, narrow.stop)) in
    let six : number_at bytes (at + 20) 4 ≡ clause.class = number_is bytes (at + 20) 4 clause.class rest five.1 narrow.class in
    same_clause clause _ _ _ _ _ _ one.0 two.0 (omega (arith, two.0, three.0, ranges.guarded)) fourth.0 (omega (arith, fourth.0, five.0, ranges.handler)) six

pub length-clause : (clause : RawClause) → length (clause_bytes clause) ≡ 24
unfolding clause_bytes
length-clause clause =
    let n6 = little_bytes 4 clause.class in
    let n5 = little_bytes 4 (clause.stop - clause.start) ++ n6 in
    let n4 = little_bytes 4 clause.start ++ n5 in
    let n3 = little_bytes 4 (clause.to - clause.from) ++ n4 in
    let n2 = little_bytes 4 clause.from ++ n3 in
    omega (
      arith,
      length-append (little_bytes 4 clause.flags) n2,
      length-append (little_bytes 4 clause.from) n3,
      length-append (little_bytes 4 (clause.to - clause.from)) n4,
      length-append (little_bytes 4 clause.start) n5,
      length-append (little_bytes 4 (clause.stop - clause.start)) n6,
      length-little 4 clause.flags,
      length-little 4 clause.from,
      length-little 4 (clause.to - clause.from),
      length-little 4 clause.start,
      length-little 4 (clause.stop - clause.start),
      length-little 4 clause.class,
    )

pub length-clauses : (clauses : List RawClause) → length (flat_map clause_bytes clauses) ≡ 24 * length clauses
length-clauses [] = refl
length-clauses (clause ∷ clauses) = omega (arith, length-append (clause_bytes clause) (flat_map clause_bytes clauses), length-clause clause, length-clauses clauses)

-- the clause where it is placed
abbrev placed_or : List RawInstr → ℕ → RawClause → Result RawClause PlacedFault
placed_or instrs at clause = if is_placed instrs clause then Ok clause else Err (BadClause, at)

clause_read : (instrs : List RawInstr) (bytes rest : List ℕ) (at : ℕ) (clause : RawClause) → is_placed instrs clause ≡ true → IsNarrow clause → drop at bytes ≡ clause_bytes clause ++ rest → at ≤ length bytes
    → clause_at instrs true bytes at ≡ Ok clause
clause_read instrs bytes rest at clause placed narrow there before =
    let inside : at + 24 ≤ length bytes = ends_inside at 24 bytes (clause_bytes clause) rest there (sym (length-clause clause)) before in
    let made : placed_or instrs at (fat_clause bytes at) ≡ placed_or instrs at clause = ap (placed_or instrs at) (clause_is bytes rest at clause (ranges_of instrs clause placed) narrow there) in
    let known : placed_or instrs at clause ≡ Ok clause = rw placed refl in
    rw (le-ltb (length bytes) (at + 24) inside) (made ∙ known)

clauses_read : (instrs : List RawInstr) (clauses : List RawClause) (bytes rest : List ℕ) (at : ℕ) → list_all (is_placed instrs) clauses ≡ true → All IsNarrow clauses
    → drop at bytes ≡ flat_map clause_bytes clauses ++ rest → at ≤ length bytes → clauses_at instrs true bytes at (length clauses) ≡ Ok clauses
clauses_read instrs [] bytes rest at placed narrow there before = refl
clauses_read instrs (clause ∷ clauses) bytes rest at placed narrow there before =
    let parts = and_parts (is_placed instrs clause) (list_all (is_placed instrs) clauses) placed in
    let one = clause_bytes clause in
    let more = flat_map clause_bytes clauses in
    let here : drop at bytes ≡ one ++ (more ++ rest) = there ∙ append_assoc one more rest in
    let size : 24 ≡ length one = sym (length-clause clause) in
    let read = clause_read instrs bytes (more ++ rest) at clause parts.0 (narrow 0 clause (omega arith)) here before in
    let others = clauses_read instrs clauses bytes rest (at + 24) parts.1 (λ k d h. narrow (suc k) d (omega arith)) (behind_is at 24 bytes one (more ++ rest) here size) (ends_inside at 24 bytes one (more ++ rest) here size before) in
    rw (read, others) refl

-- SECTIONS

-- the one section with all clauses
pub section_read : (n : ℕ) (instrs : List RawInstr) (clause : RawClause) (clauses : List RawClause) (bytes rest : List ℕ) (at : ℕ) → 0 < n → list_all (is_placed instrs) (clause ∷ clauses) ≡ true
    → All IsNarrow (clause ∷ clauses) → length (clause ∷ clauses) ≤ 699050 → drop at bytes ≡ section_bytes (clause ∷ clauses) ++ rest → at ≤ length bytes
    → sections_from n instrs bytes at ≡ Ok (clause ∷ clauses)
unfolding section_bytes sections_from
section_read zero instrs clause clauses bytes rest at some placed narrow few there before = absurd (omega arith)
section_read (suc n) instrs clause clauses bytes rest at some placed narrow few there before =
    let all = clause ∷ clauses in
    let size = 4 + 24 * length all in
    let number = little_bytes 3 size in
    let more = flat_map clause_bytes all in
    let here : drop at bytes ≡ 0x41 ∷ (number ++ (more ++ rest)) = there ∙ ap (λ l. 0x41 ∷ l) (append_assoc number more rest) in
    let kind : slice_index bytes at ≡ 0x41 = byte_there bytes (number ++ (more ++ rest)) at 0x41 here in
    let second : drop (at + 1) bytes ≡ number ++ (more ++ rest) = behind_is at 1 bytes (0x41 ∷ []) (number ++ (more ++ rest)) here refl in
    let second_in : at + 1 ≤ length bytes = ends_inside at 1 bytes (0x41 ∷ []) (number ++ (more ++ rest)) here refl before in
    let three : 3 ≡ length number = sym (length-little 3 size) in
    let fifth : drop (at + 1 + 3) bytes ≡ more ++ rest = behind_is (at + 1) 3 bytes number (more ++ rest) second three in
    let fifth_in : at + 1 + 3 ≤ length bytes = ends_inside (at + 1) 3 bytes number (more ++ rest) second three second_in in
    let place : at + 1 + 3 ≡ at + 4 = omega arith in
    let sized : number_at bytes (at + 1) 3 ≡ size = number_is bytes (at + 1) 3 size (more ++ rest) second (omega arith) in
    let count : size / 24 ≡ length all = omega arith in
    let read : clauses_at instrs true bytes (at + 4) (length all) ≡ Ok all = clauses_read instrs all bytes rest (at + 4) placed narrow (rw place at fifth) (omega arith) in
    rw (le-ltb (length bytes) (at + 4) (omega arith), kind, sized, count, read) refl
