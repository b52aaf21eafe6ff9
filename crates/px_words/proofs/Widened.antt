-- Signed words in 128 bits, where no sum, difference or product of two of them is lost.
use Rattle.std.proofs.Common.{◌≡◌, ◌^◌, ◌≤◌, ℤ, pos, negsuc, ◌+ℤ◌, ◌-ℤ◌, ◌*ℤ◌, arith, rules, lit<, FitsSigned}
use Rattle.std.specs.Prelude.{unsigned_abs}
use Rattle.std.specs.Int.{w64, w128, cast_signed, cast_unsigned}
use Rattle.std.proofs.Math.Facts.{sfits_widen}
use Rattle.std.proofs.lemmas.Int.{ints, to_z-of_z, fits_signed_mul}

-- what is left of a number in 128 bits
abbrev pub kept : ℤ → ℤ
kept z = cast_signed w128 (cast_unsigned w128 z)

kept-word : (z : ℤ) → FitsSigned w64 z → kept z ≡ z
kept-word z f = to_z-of_z w128 z (sfits_widen {w = w64} tt f)

abs-below : (z : ℤ) → FitsSigned w64 z → unsigned_abs z ≤ 2 ^ 63
abs-below (pos n) f = omega (arith, f.sfits)
abs-below (negsuc n) f = omega (arith, f.sfits)

pub kept-sum : (x y : ℤ) → FitsSigned w64 x → FitsSigned w64 y → kept (kept x +ℤ kept y) ≡ x +ℤ y
kept-sum x y f g =
    let fits : FitsSigned w128 (x +ℤ y) = search (rules, ints) in
    rw (kept-word x f, kept-word y g) (to_z-of_z w128 (x +ℤ y) fits)

pub kept-difference : (x y : ℤ) → FitsSigned w64 x → FitsSigned w64 y → kept (kept x -ℤ kept y) ≡ x -ℤ y
kept-difference x y f g =
    let fits : FitsSigned w128 (x -ℤ y) = search (rules, ints) in
    rw (kept-word x f, kept-word y g) (to_z-of_z w128 (x -ℤ y) fits)

pub kept-product : (x y : ℤ) → FitsSigned w64 x → FitsSigned w64 y → kept (kept x *ℤ kept y) ≡ x *ℤ y
kept-product x y f g =
    let fits : FitsSigned w128 (x *ℤ y) = fits_signed_mul w128 x y (2 ^ 63) (2 ^ 63) (abs-below x f) (abs-below y g) (lit< tt) in
    rw (kept-word x f, kept-word y g) (to_z-of_z w128 (x *ℤ y) fits)

pub ruleset kept_results = (kept-sum, kept-difference, kept-product)
