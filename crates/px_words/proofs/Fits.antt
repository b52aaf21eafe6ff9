-- The value of an operator lies in the width of its result.
use Rattle.std.proofs.Common.{ℕ, ◌-◌, ◌/◌, ◌%◌, ◌^◌, ◌<◌, ◌==◌, nat_lt, ◌≤◌, Bool, true, false, if◌then◌else◌, ℤ, pos, negsuc, arith, lit<}
use Rattle.std.specs.Prelude.{bit_and}
use Rattle.std.specs.Int.{Width, w32, w64, cast_signed, cast_unsigned, int_div_euclid}
use Rattle.std.proofs.Math.Nat.{mod-le, div-le_self, pow-le-pow_right}
use Rattle.std.proofs.lemmas.Nat.{pow_pos, mod_below, and_le_l, or_lt, xor_lt}
use Rattle.std.proofs.lemmas.Int.{of_z-to_z}
use mir.Val.{bits}
use Rattle.px_words.specs.declared.Op.{Op}
use Rattle.px_words.specs.declared.Op.TheVariants.{Const, Input, Not, And, Or, Xor, Add, Sub, Neg, Mul, Shl, Shr, ShrUn, DivU, RemU, DivS, RemS, Eq, LtU, LtS, AddOvfU, SubOvfU, MulOvfU, AddOvfS, SubOvfS, MulOvfS, SignExt, ZeroExt, Low, Ite}
use Rattle.px_words.specs.Operator.{bits_of, widths_of, result_width, IsOperator, LieIn}
use Rattle.px_words.specs.Word.{width_of, signed_of, wrapped, truth, is_negative, magnitude, quotient, remainder, differ, signed_quotient, signed_remainder, sign_extended, word}

if-below : (b : Bool) (x y n : ℕ) → x < n → y < n → (if b then x else y) < n
if-below true x y n h k = h
if-below false x y n h k = k

truth-below : (b : Bool) → truth b < 2 ^ 32
truth-below b = if-below b 1 0 (2 ^ 32) (lit< tt) (lit< tt)

wrapped-below : (wide : Bool) (n : ℕ) → wrapped wide n < 2 ^ bits_of wide
wrapped-below wide n = mod_below n (2 ^ bits_of wide) (pow_pos (bits_of wide))

ones-below : (wide : Bool) → 2 ^ bits_of wide - 1 < 2 ^ bits_of wide
ones-below wide = omega (arith, pow_pos (bits_of wide))

magnitude-below : (wide : Bool) (a : ℕ) → a < 2 ^ bits_of wide → magnitude wide a < 2 ^ bits_of wide
magnitude-below false a h = grind arith
magnitude-below true a h = grind arith

quotient-below : (wide : Bool) (a b : ℕ) → a < 2 ^ bits_of wide → quotient wide a b < 2 ^ bits_of wide
quotient-below wide a b h = if-below (b == 0) _ _ _ (ones-below wide) (let k : a / b ≤ a = div-le_self a b in omega arith)

remainder-below : (a b n : ℕ) → a < n → remainder a b < n
remainder-below a b n h = if-below (b == 0) _ _ _ h (let k : a % b ≤ a = mod-le a b in omega arith)

signed_quotient-below : (wide : Bool) (a b : ℕ) → a < 2 ^ bits_of wide → signed_quotient wide a b < 2 ^ bits_of wide
signed_quotient-below wide a b h =
    if-below (differ (is_negative wide a) (is_negative wide b)) _ _ _
    (wrapped-below wide _) (quotient-below wide _ _ (magnitude-below wide a h))

signed_remainder-below : (wide : Bool) (a b : ℕ) → a < 2 ^ bits_of wide → signed_remainder wide a b < 2 ^ bits_of wide
signed_remainder-below wide a b h =
    if-below (is_negative wide a) _ _ _
    (wrapped-below wide _) (remainder-below _ _ _ (magnitude-below wide a h))

-- a shift to the right comes no farther from 0
shifted-below : (w : Width) (z : ℤ) (n : ℕ) → cast_unsigned w z < 2 ^ bits w → cast_unsigned w (int_div_euclid z (pos n)) < 2 ^ bits w
shifted-below w (pos a) n h = let k : a / n ≤ a = div-le_self a n in omega arith
shifted-below w (negsuc a) n h = omega (arith, pow_pos (bits w))

shr-below : (wide : Bool) (a n : ℕ) → a < 2 ^ bits_of wide → cast_unsigned (width_of wide) (int_div_euclid (signed_of wide a) (pos n)) < 2 ^ bits_of wide
shr-below false a n h = shifted-below w32 (cast_signed w32 a) n (rw of_z-to_z h)
shr-below true a n h = shifted-below w64 (cast_signed w64 a) n (rw of_z-to_z h)

low-below : (wide : Bool) (k a : ℕ) → k ≤ bits_of wide → a % 2 ^ k < 2 ^ bits_of wide
low-below wide k a h =
    let low : a % 2 ^ k < 2 ^ k = mod_below a (2 ^ k) (pow_pos k) in
    let high : 2 ^ k ≤ 2 ^ bits_of wide = pow-le-pow_right (lit< tt) h in
    omega arith

sign_extended-below : (wide : Bool) (k a : ℕ) → k ≤ bits_of wide → sign_extended wide k a < 2 ^ bits_of wide
sign_extended-below wide k a h =
    let low : a % 2 ^ k < 2 ^ k = mod_below a (2 ^ k) (pow_pos k) in
    if-below (nat_lt (a % 2 ^ k) (2 ^ (k - 1))) _ _ _ (low-below wide k a h) (omega (arith, pow_pos (bits_of wide)))

-- operands that lie in their widths give a value that lies in the result's width
pub word_fits : (op : Op) (a b c : ℕ) → IsOperator op → LieIn (widths_of op) a b c → word op a b c < 2 ^ result_width op
unfolding word
word_fits (Const wide pattern) a b c o h = o
word_fits (Input wide number) a b c o h = absurd o
word_fits (Not wide) a b c o h = omega (arith, pow_pos (bits_of wide))
word_fits (And wide) a b c o h = let k : bit_and a b ≤ a = and_le_l a b in omega arith
word_fits (Or wide) a b c o h = or_lt (bits_of wide) a b h.0 h.1
word_fits (Xor wide) a b c o h = xor_lt (bits_of wide) a b h.0 h.1
word_fits (Add wide) a b c o h = wrapped-below wide _
word_fits (Sub wide) a b c o h = wrapped-below wide _
word_fits (Neg wide) a b c o h = wrapped-below wide _
word_fits (Mul wide) a b c o h = wrapped-below wide _
word_fits (Shl wide) a b c o h = wrapped-below wide _
word_fits (Shr wide) a b c o h = shr-below wide a _ h.0
word_fits (ShrUn wide) a b c o h = let k : a / 2 ^ (b % bits_of wide) ≤ a = div-le_self a _ in omega arith
word_fits (DivU wide) a b c o h = quotient-below wide a b h.0
word_fits (RemU wide) a b c o h = remainder-below a b _ h.0
word_fits (DivS wide) a b c o h = signed_quotient-below wide a b h.0
word_fits (RemS wide) a b c o h = signed_remainder-below wide a b h.0
word_fits (Eq wide) a b c o h = truth-below _
word_fits (LtU wide) a b c o h = truth-below _
word_fits (LtS wide) a b c o h = truth-below _
word_fits (AddOvfU wide) a b c o h = truth-below _
word_fits (SubOvfU wide) a b c o h = truth-below _
word_fits (MulOvfU wide) a b c o h = truth-below _
word_fits (AddOvfS wide) a b c o h = truth-below _
word_fits (SubOvfS wide) a b c o h = truth-below _
word_fits (MulOvfS wide) a b c o h = truth-below _
word_fits (SignExt wide bits) a b c o h = sign_extended-below wide bits a o.1
word_fits (ZeroExt wide bits) a b c o h = low-below wide bits a o.1
word_fits (Low wide) a b c o h = mod_below a (2 ^ 32) (lit< tt)
word_fits (Ite wide) a b c o h = if-below (a % 2 == 1) b c _ h.1 h.2
