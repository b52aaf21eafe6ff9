-- A number is read as it was written.
use Rattle.std.proofs.Common.{◌≡◌, ℕ, ◌+◌, ◌-◌, ◌*◌, ◌/◌, ◌%◌, ◌^◌, ◌<◌, ◌≤◌, List, [], ◌∷◌, ◌++◌, length, Option, Some, inl, inr, refl, ap, arith}
use Rattle.std.proofs.lemmas.Bool.{cases_lt, lt-ltb, le-ltb}
use Rattle.px_blobs.specs.Items.{Compressed, compressed_in}
use Rattle.px_asm_heaps.specs.Numbers.{number_bytes}

one_byte : (n : ℕ) → n < 0x80 → number_bytes n ≡ n ∷ []
unfolding number_bytes
one_byte n small = rw (lt-ltb n 0x80 small) refl

two_bytes : (n : ℕ) → 0x80 ≤ n → n < 0x4000 → number_bytes n ≡ (0x80 + n / 2 ^ 8) ∷ n % 2 ^ 8 ∷ []
unfolding number_bytes
two_bytes n more small = rw (le-ltb n 0x80 more, lt-ltb n 0x4000 small) refl

four_bytes : (n : ℕ) → 0x4000 ≤ n → number_bytes n ≡ (0xC0 + n / 2 ^ 24) ∷ n / 2 ^ 16 % 2 ^ 8 ∷ n / 2 ^ 8 % 2 ^ 8 ∷ n % 2 ^ 8 ∷ []
unfolding number_bytes
four_bytes n more = let large : 0x80 ≤ n = omega arith in rw (le-ltb n 0x80 large, le-ltb n 0x4000 more) refl

-- the number that some bytes spell
found : ℕ → ℕ → Option Compressed
found used n = Some (record { number = n; used = used })

-- by its length
read_one : (n : ℕ) (rest : List ℕ) → n < 0x80 → compressed_in (number_bytes n ++ rest) ≡ found (length (number_bytes n)) n
unfolding found
read_one n rest small = rw (one_byte n small, lt-ltb n 0x80 small) refl

read_two : (n : ℕ) (rest : List ℕ) → 0x80 ≤ n → n < 0x4000 → compressed_in (number_bytes n ++ rest) ≡ found (length (number_bytes n)) n
unfolding found
read_two n rest more small =
    let high : 0x80 ≤ 0x80 + n / 2 ^ 8 = omega arith in
    let low : 0x80 + n / 2 ^ 8 < 0xC0 = omega arith in
    let same : (0x80 + n / 2 ^ 8 - 0x80) * 2 ^ 8 + n % 2 ^ 8 ≡ n = omega arith in
    rw (two_bytes n more small, le-ltb (0x80 + n / 2 ^ 8) 0x80 high, lt-ltb (0x80 + n / 2 ^ 8) 0xC0 low) (ap (found 2) same)

read_four : (n : ℕ) (rest : List ℕ) → 0x4000 ≤ n → n < 2 ^ 29 → compressed_in (number_bytes n ++ rest) ≡ found (length (number_bytes n)) n
unfolding found
read_four n rest large few =
    let high : 0x80 ≤ 0xC0 + n / 2 ^ 24 = omega arith in
    let mid : 0xC0 ≤ 0xC0 + n / 2 ^ 24 = omega arith in
    let low : 0xC0 + n / 2 ^ 24 < 0xE0 = omega arith in
    let same : (0xC0 + n / 2 ^ 24 - 0xC0) * 2 ^ 24 + n / 2 ^ 16 % 2 ^ 8 * 2 ^ 16 + n / 2 ^ 8 % 2 ^ 8 * 2 ^ 8 + n % 2 ^ 8 ≡ n = omega arith in
    rw (four_bytes n large, le-ltb (0xC0 + n / 2 ^ 24) 0x80 high, le-ltb (0xC0 + n / 2 ^ 24) 0xC0 mid, lt-ltb (0xC0 + n / 2 ^ 24) 0xE0 low) (ap (found 4) same)

pub number_read : (n : ℕ) (rest : List ℕ) → n < 2 ^ 29 → compressed_in (number_bytes n ++ rest) ≡ Some (record { number = n; used = length (number_bytes n) })
unfolding found
number_read n rest few = elim (cases_lt n 0x80) [
  | inl small ↦ read_one n rest small
  | inr more ↦ elim (cases_lt n 0x4000) [
    | inl small ↦ read_two n rest more small
    | inr large ↦ read_four n rest large few
  ]
]
