-- What operators say of the numbers that patterns are.
use Rattle.std.proofs.Common.{◌≡◌, ℕ, zero, suc, ◌+◌, ◌-◌, ◌*◌, ◌%◌, ◌^◌, ◌<◌, ◌≤◌, Bool, true, false, nat_lt, nat_le, if◌then◌else◌, ℤ, pos, negsuc, ◌+ℤ◌, ◌-ℤ◌, ◌*ℤ◌, FitsSigned, refl, ap, ◌∙◌, arith, lit<}
use mir.Val.{bits}
use Rattle.std.specs.Int.{Width, w32, w64, cast_signed}
use Rattle.std.proofs.Math.Nat.{pow-le-pow_right, mod-eq_of_lt}
use Rattle.std.proofs.lemmas.Int.{ints, int_wrap_fits, to_z_pos, wrapping_add-bits, wrapping_sub-bits, wrapping_mul-bits}
use Rattle.std.proofs.lemmas.Nat.{mod_below, pow_pos}
use Rattle.px_words.specs.Operator.{bits_of}
use Rattle.px_words.specs.Readings as laws
use Rattle.px_words.specs.Readings.{IsPattern, IsSigned, TellsOutside, signed_low}
use Rattle.px_words.specs.Word.{is_outside, truth, word, wrapped}

-- a number that lies in the width is not wrapped
wrapped_within : (wide : Bool) (n : ℕ) → IsPattern wide n → wrapped wide n ≡ n
wrapped_within wide n h = mod-eq_of_lt h

pub sum_is_exact : laws.SumIsExact
unfolding word
sum_is_exact wide a b c h = wrapped_within wide (a + b) h

pub difference_is_exact : laws.DifferenceIsExact
unfolding word
difference_is_exact false a b c h k = grind (arith)
difference_is_exact true a b c h k = grind (arith)

pub product_is_exact : laws.ProductIsExact
unfolding word
product_is_exact wide a b c h = wrapped_within wide (a * b) h

signed_sum : (w : Width) (a b : ℕ) → a < 2 ^ bits w → b < 2 ^ bits w → FitsSigned w (cast_signed w a +ℤ cast_signed w b) → cast_signed w ((a + b) % 2 ^ bits w) ≡ cast_signed w a +ℤ cast_signed w b
signed_sum w a b h k f = wrapping_add-bits w a b h k ∙ int_wrap_fits w _ f

signed_difference : (w : Width) (a b : ℕ) → a < 2 ^ bits w → b < 2 ^ bits w → FitsSigned w (cast_signed w a -ℤ cast_signed w b) → cast_signed w (((a + 2 ^ bits w) - b) % 2 ^ bits w) ≡ cast_signed w a -ℤ cast_signed w b
signed_difference w a b h k f =
    let same : (a + 2 ^ bits w) - b ≡ a + (2 ^ bits w - b) = omega (arith, h, k) in
    ap (λ n. cast_signed w (n % 2 ^ bits w)) same ∙ wrapping_sub-bits w a b h k ∙ int_wrap_fits w _ f

signed_product : (w : Width) (a b : ℕ) → a < 2 ^ bits w → b < 2 ^ bits w → FitsSigned w (cast_signed w a *ℤ cast_signed w b) → cast_signed w ((a * b) % 2 ^ bits w) ≡ cast_signed w a *ℤ cast_signed w b
signed_product w a b h k f = wrapping_mul-bits w a b h k ∙ int_wrap_fits w _ f

pub signed_sum_is_exact : laws.SignedSumIsExact
unfolding word
signed_sum_is_exact false a b c h k f = signed_sum w32 a b h k f
signed_sum_is_exact true a b c h k f = signed_sum w64 a b h k f

pub signed_difference_is_exact : laws.SignedDifferenceIsExact
unfolding word
signed_difference_is_exact false a b c h k f = signed_difference w32 a b h k f
signed_difference_is_exact true a b c h k f = signed_difference w64 a b h k f

pub signed_product_is_exact : laws.SignedProductIsExact
unfolding word
signed_product_is_exact false a b c h k f = signed_product w32 a b h k f
signed_product_is_exact true a b c h k f = signed_product w64 a b h k f

-- of the tests

never : (n : ℕ) → n ≡ 1 → n ≡ 0 → ⊥
never n h k = omega arith

tells : (b : Bool) (Inside : Type 0) → (b ≡ false → Inside) → (b ≡ true → Inside → ⊥) → TellsOutside (truth b) Inside
tells true Inside f g = record { outside = (λ _. g refl, λ _. refl); inside = (λ h. absurd (never 1 refl h), λ i. absurd (g refl i)) }
tells false Inside f g = record { outside = (λ h. absurd (never 0 h refl), λ k. absurd (k (f refl))); inside = (λ _. f refl, λ _. refl) }

at_most : (a b : ℕ) → nat_lt a b ≡ false → b ≤ a
at_most a b h = grind arith

not_at_most : (a b : ℕ) → nat_lt a b ≡ true → b ≤ a → ⊥
not_at_most a b h k = grind arith

below : (m n : ℕ) → nat_le n m ≡ false → m < n
below m n h = grind arith

not_below : (m n : ℕ) → nat_le n m ≡ true → m < n → ⊥
not_below m n h k = grind arith

pub sum_test : laws.SumTest
unfolding word
sum_test wide a b c = tells _ _ (below (a + b) (2 ^ bits_of wide)) (not_below (a + b) (2 ^ bits_of wide))

pub difference_test : laws.DifferenceTest
unfolding word
difference_test wide a b c = tells _ _ (at_most a b) (not_at_most a b)

pub product_test : laws.ProductTest
unfolding word
product_test wide a b c = tells _ _ (below (a * b) (2 ^ bits_of wide)) (not_below (a * b) (2 ^ bits_of wide))

fits : (wide : Bool) (z : ℤ) → is_outside wide z ≡ false → IsSigned wide z
fits false (pos n) h = record { sfits = grind arith }
fits false (negsuc n) h = record { sfits = grind arith }
fits true (pos n) h = record { sfits = grind arith }
fits true (negsuc n) h = record { sfits = grind arith }

fits_not : (wide : Bool) (z : ℤ) → is_outside wide z ≡ true → IsSigned wide z → ⊥
fits_not false (pos n) h f = let k = f.sfits in grind arith
fits_not false (negsuc n) h f = let k = f.sfits in grind arith
fits_not true (pos n) h f = let k = f.sfits in grind arith
fits_not true (negsuc n) h f = let k = f.sfits in grind arith

tells_signed : (wide : Bool) (z : ℤ) → TellsOutside (truth (is_outside wide z)) (IsSigned wide z)
tells_signed wide z = tells (is_outside wide z) (IsSigned wide z) (fits wide z) (fits_not wide z)

pub signed_sum_test : laws.SignedSumTest
unfolding word
signed_sum_test wide a b c = tells_signed wide _

pub signed_difference_test : laws.SignedDifferenceTest
unfolding word
signed_difference_test wide a b c = tells_signed wide _

pub signed_product_test : laws.SignedProductTest
unfolding word
signed_product_test wide a b c = tells_signed wide _

-- of extensions, where `half` is the value of the highest of the bits that are kept

extended32 : (low half : ℕ) → low < 2 * half → half ≤ 2 ^ 31
    → cast_signed w32 (if nat_lt low half then low else (low + 2 ^ 32) - 2 * half) ≡ (if nat_lt low half then pos low else pos low -ℤ pos (2 * half))
extended32 low half h k = grind (arith, ints)

extended64 : (low half : ℕ) → low < 2 * half → half ≤ 2 ^ 63
    → cast_signed w64 (if nat_lt low half then low else (low + 2 ^ 64) - 2 * half) ≡ (if nat_lt low half then pos low else pos low -ℤ pos (2 * half))
extended64 low half h k = grind (arith, ints)

double : (k : ℕ) → 1 ≤ k → 2 ^ k ≡ 2 * 2 ^ (k - 1)
double zero h = omega arith
double (suc k) h = grind arith

pub sign_extension_reads_low : laws.SignExtensionReadsLow
unfolding word
sign_extension_reads_low false k a b c h m =
    let low : a % 2 ^ k < 2 ^ k = mod_below a (2 ^ k) (pow_pos k) in
    let within : k - 1 ≤ 31 = omega (arith, m) in
    let half : 2 ^ (k - 1) ≤ 2 ^ 31 = pow-le-pow_right (lit< tt) within in
    rw (double k h) (extended32 (a % (2 * 2 ^ (k - 1))) (2 ^ (k - 1)) (rw (double k h) at low) half)
sign_extension_reads_low true k a b c h m =
    let low : a % 2 ^ k < 2 ^ k = mod_below a (2 ^ k) (pow_pos k) in
    let within : k - 1 ≤ 63 = omega (arith, m) in
    let half : 2 ^ (k - 1) ≤ 2 ^ 63 = pow-le-pow_right (lit< tt) within in
    rw (double k h) (extended64 (a % (2 * 2 ^ (k - 1))) (2 ^ (k - 1)) (rw (double k h) at low) half)

below_power : (k n a : ℕ) → k ≤ n → a % 2 ^ k < 2 ^ n
below_power k n a h =
    let low : a % 2 ^ k < 2 ^ k = mod_below a (2 ^ k) (pow_pos k) in
    let high : 2 ^ k ≤ 2 ^ n = pow-le-pow_right (lit< tt) h in
    omega arith

pub zero_extension_reads_low : laws.ZeroExtensionReadsLow
unfolding word
zero_extension_reads_low false k a b c h = to_z_pos w32 (a % 2 ^ k) (below_power k 31 a (omega (arith, h)))
zero_extension_reads_low true k a b c h = to_z_pos w64 (a % 2 ^ k) (below_power k 63 a (omega (arith, h)))

pub widening_keeps_signed : laws.WideningKeepsSigned
unfolding word
widening_keeps_signed a b c h = grind (arith, ints)

pub widening_keeps_unsigned : laws.WideningKeepsUnsigned
unfolding word
widening_keeps_unsigned a b c h = mod-eq_of_lt h

pub low_reads_low : laws.LowReadsLow
unfolding word
low_reads_low wide a b c = let low : a % 2 ^ 32 < 2 ^ 32 = mod_below a (2 ^ 32) (lit< tt) in grind (arith, ints)

pub low_keeps_signed : laws.LowKeepsSigned
unfolding word
low_keeps_signed false a b c h f = ap (cast_signed w32) (mod-eq_of_lt h)
low_keeps_signed true a b c h f = grind (arith, ints)

pub low_keeps_unsigned : laws.LowKeepsUnsigned
unfolding word
low_keeps_unsigned wide a b c h = mod-eq_of_lt h
