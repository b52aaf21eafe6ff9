-- The number of bytes as byteorder reads it, and as it is defined here.
use Rattle.std.proofs.Common.{◌≡◌, ℕ, zero, suc, ◌+◌, ◌*◌, ◌^◌, ◌<◌, ◌≤◌, List, [], ◌∷◌, length, take, drop, refl, arith, ap, ◌∙◌}
use Rattle.std.proofs.lemmas.Nat.{pow-add}
use Rattle.std.specs.Prelude.{slice_index}
use Rattle.byteorder.specs.Endian.{little_from}
use Rattle.px_code.specs.Body.{little_endian}

little_later : (i n x : ℕ) (xs : List ℕ) → little_from (suc i) n (x ∷ xs) ≡ little_from i n xs
little_later i zero x xs = refl
little_later i (suc n) x xs = ap (λ m. slice_index xs i + 256 * m) (little_later (suc i) n x xs)

-- the first bytes, the lowest first
pub little_is : (n : ℕ) (bytes : List ℕ) → n ≤ length bytes → little_from 0 n bytes ≡ little_endian (take n bytes)
little_is zero bytes few = refl
little_is (suc n) [] few = absurd (omega arith)
little_is (suc n) (byte ∷ bytes) few = ap (λ m. byte + 256 * m) (little_later 0 n byte bytes ∙ little_is n bytes (omega arith))

-- so many bytes have eight bits each
pub byte_bits : (n : ℕ) → 256 ^ n ≡ 2 ^ (8 * n)
byte_bits zero = refl
byte_bits (suc n) =
    let sizes : 8 * suc n ≡ 8 * n + 8 = omega arith in
    let more : 2 ^ (8 * suc n) ≡ 2 ^ (8 * n) * 256 = ap (λ i. 2 ^ i) sizes ∙ pow-add 2 (8 * n) 8 in
    omega (arith, more, byte_bits n)
