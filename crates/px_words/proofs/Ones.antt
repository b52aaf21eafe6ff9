-- Words whose low bits are 1.
use Rattle.std.proofs.Common.{◌≡◌, ℕ, ◌+◌, ◌-◌, ◌*◌, ◌/◌, ◌^◌, ◌<◌, zero, suc, arith}
use Rattle.std.proofs.lemmas.Nat.{pow_pos, pow-add, shr_high}

product-pred : (p q : ℕ) → 0 < p → 0 < q → p * q - 1 ≡ (p - 1) * q + (q - 1)
product-pred zero q h k = omega arith
product-pred (suc p) q h k = grind arith

-- a word of ones, shifted right
pub ones-shr : (i k : ℕ) → (2 ^ (i + k) - 1) / 2 ^ k ≡ 2 ^ i - 1
ones-shr i k =
    let below : 2 ^ k - 1 < 2 ^ k = omega (arith, pow_pos k) in
    rw (pow-add 2 i k, product-pred (2 ^ i) (2 ^ k) (pow_pos i) (pow_pos k)) (shr_high (2 ^ i - 1) k (2 ^ k - 1) below)
