-- Numbers in bytes.
use Rattle.std.proofs.Common.{◌≡◌, ℕ, zero, suc, ◌+◌, ◌*◌, ◌/◌, ◌%◌, ◌^◌, ◌<◌, ◌≤◌, List, ◌++◌, length, take, drop, refl, sym, ap, ◌∙◌, arith, length-append, length-drop, drop-drop}
use Rattle.std.proofs.Math.Nat.{div-div-eq-div-mul, div-one, pow-suc}
use Rattle.std.proofs.Math.Seq.{drop-append_seam, take-append_seam}
use Rattle.std.specs.Int.{byte_at, bytes_low_first}
use Rattle.px_code.specs.Body.{little_endian, number_at}
use Rattle.px_asm_bodies.specs.Bytes.{little_bytes}

pub length-little : (size n : ℕ) → length (little_bytes size n) ≡ size
unfolding little_bytes
length-little zero n = refl
length-little (suc size) n = ap suc (length-little size (n / 256))

-- the bytes of a number that fits them are read as the number
little_is : (size n : ℕ) → n < 256 ^ size → little_endian (little_bytes size n) ≡ n
unfolding little_bytes
little_is zero n small = omega arith
little_is (suc size) n small =
    let more : 256 ^ suc size ≡ 256 ^ size * 256 = pow-suc 256 size in
    let high : little_endian (little_bytes size (n / 256)) ≡ n / 256 = little_is size (n / 256) (omega arith) in
    omega arith

-- what stands behind a part
pub behind_is : {A : Type 0} (at n : ℕ) (bytes front rest : List A) → drop at bytes ≡ front ++ rest → n ≡ length front → drop (at + n) bytes ≡ rest
behind_is at n bytes front rest there is = sym (drop-drop n at bytes) ∙ ap (drop n) there ∙ ap (λ m. drop m (front ++ rest)) is ∙ drop-append_seam front rest

-- a part ends within the bytes
pub ends_inside : {A : Type 0} (at n : ℕ) (bytes front rest : List A) → drop at bytes ≡ front ++ rest → n ≡ length front → at ≤ length bytes → at + n ≤ length bytes
ends_inside at n bytes front rest there is inside =
    let left = length-drop at bytes in
    let whole = ap length there in
    omega (arith, left, whole, length-append front rest)

-- a number that stands somewhere
pub number_is : (bytes : List ℕ) (at size n : ℕ) (rest : List ℕ) → drop at bytes ≡ little_bytes size n ++ rest → n < 256 ^ size → number_at bytes at size ≡ n
number_is bytes at size n rest there small =
    let own : take size (little_bytes size n ++ rest) ≡ little_bytes size n = ap (λ m. take m (little_bytes size n ++ rest)) (sym (length-little size n)) ∙ take-append_seam (little_bytes size n) rest in
    ap (λ l. little_endian (take size l)) there ∙ ap little_endian own ∙ little_is size n small

-- the bytes that std gives

byte_is : (i n : ℕ) → byte_at i n ≡ n / 256 ^ i % 256
byte_is zero n = ap (λ m. m % 256) (sym (div-one n))
byte_is (suc i) n = refl

low_bytes : (i k size n : ℕ) → size ≤ k → take size (bytes_low_first i k n) ≡ little_bytes size (n / 256 ^ i)
unfolding little_bytes
low_bytes i k zero n few = refl
low_bytes i zero (suc size) n few = absurd (omega arith)
low_bytes i (suc k) (suc size) n few =
    let shift : n / 256 ^ suc i ≡ n / 256 ^ i / 256 = ap (λ p. n / p) (pow-suc 256 i) ∙ sym (div-div-eq-div-mul n (256 ^ i) 256) in
    rw (byte_is i n, low_bytes (suc i) k size n (omega arith), shift) refl

pub low_bytes_are : (size n : ℕ) → size ≤ 8 → take size (bytes_low_first 0 8 n) ≡ little_bytes size n
low_bytes_are size n few = low_bytes 0 8 size n few ∙ ap (little_bytes size) (div-one n)
