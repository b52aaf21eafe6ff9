-- How large the number of some bytes is.
use Rattle.std.proofs.Common.{◌≡◌, ℕ, ◌+◌, ◌*◌, ◌^◌, ◌<◌, ◌≤◌, lit<, ap, ◌∙◌, arith}
use Rattle.std.proofs.Math.Nat.{pow-le-pow_right}
use Rattle.std.proofs.lemmas.Nat.{pow-add}

-- seven bytes leave room for one more
pub has_room : (n k : ℕ) → n < 2 ^ (8 * k) → k ≤ 7 → n < 2 ^ 56
has_room n k less few = let most : 2 ^ (8 * k) ≤ 2 ^ 56 = pow-le-pow_right (lit< tt) {i = 8 * k} {j = 56} (omega arith) in omega (arith, most)

-- one more byte
pub one_more : (low high k m : ℕ) → low < 256 → high < 2 ^ (8 * k) → m ≡ k + 1 → low + 256 * high < 2 ^ (8 * m)
one_more low high k m byte less is =
    let sizes : 8 * m ≡ 8 * k + 8 = omega arith in
    let more : 2 ^ (8 * m) ≡ 2 ^ (8 * k) * 256 = ap (λ i. 2 ^ i) sizes ∙ pow-add 2 (8 * k) 8 in
    omega (arith, more)
