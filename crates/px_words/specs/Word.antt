-- The value of an operator, over whole numbers: Partition III, 1.5 and 3.
-- A pattern of a width is a number below 2 to the power of the width; read signed, those with the highest bit set are less by that power.
use Rattle.std.specs.Prelude.{ℕ, ◌+◌, ◌-◌, ◌*◌, ◌/◌, ◌%◌, ◌^◌, ◌==◌, nat_lt, nat_le, not, ◌||◌, Bool, true, false, if◌then◌else◌, List, slice_index, ℤ, pos, neg_ℤ, ◌+ℤ◌, ◌-ℤ◌, ◌*ℤ◌, int_lt, bit_and, bit_or, bit_xor}
use Rattle.std.specs.Int.{Width, w32, w64, cast_signed, cast_unsigned, int_div_euclid}
use Rattle.px_words.specs.declared.Op.{Op}
use Rattle.px_words.specs.declared.Op.TheVariants.{Const, Input, Not, And, Or, Xor, Add, Sub, Neg, Mul, Shl, Shr, ShrUn, DivU, RemU, DivS, RemS, Eq, LtU, LtS, AddOvfU, SubOvfU, MulOvfU, AddOvfS, SubOvfS, MulOvfS, SignExt, ZeroExt, Low, Ite}
use Rattle.px_words.specs.Operator.{bits_of}

abbrev pub width_of : Bool → Width
width_of false = w32
width_of true = w64

-- the number that a pattern is, read signed
abbrev pub signed_of : Bool → ℕ → ℤ
signed_of wide a = cast_signed (width_of wide) a

-- the pattern of a number, modulo 2 to the power of the width
abbrev pub wrapped : Bool → ℕ → ℕ
wrapped wide n = n % 2 ^ bits_of wide

-- the value of a test
abbrev pub truth : Bool → ℕ
truth b = if b then 1 else 0

-- the highest bit is set
abbrev pub is_negative : Bool → ℕ → Bool
is_negative wide a = nat_le (2 ^ (bits_of wide - 1)) a

abbrev pub negated : Bool → ℕ → ℕ
negated wide a = wrapped wide (2 ^ bits_of wide - a)

-- the distance from 0, read signed
abbrev pub magnitude : Bool → ℕ → ℕ
magnitude wide a = if is_negative wide a then 2 ^ bits_of wide - a else a

-- the quotient, and all ones where the divisor is 0
abbrev pub quotient : Bool → ℕ → ℕ → ℕ
quotient wide a b = if b == 0 then 2 ^ bits_of wide - 1 else a / b

-- the remainder, and the dividend where the divisor is 0
abbrev pub remainder : ℕ → ℕ → ℕ
remainder a b = if b == 0 then a else a % b

abbrev pub differ : Bool → Bool → Bool
differ false b = b
differ true b = not b

-- the quotient of the magnitudes, negated where the signs differ
abbrev pub signed_quotient : Bool → ℕ → ℕ → ℕ
signed_quotient wide a b =
    let q = quotient wide (magnitude wide a) (magnitude wide b) in
    if differ (is_negative wide a) (is_negative wide b) then negated wide q else q

-- the remainder of the magnitudes, negated where the dividend is negative
abbrev pub signed_remainder : Bool → ℕ → ℕ → ℕ
signed_remainder wide a b =
    let r = remainder (magnitude wide a) (magnitude wide b) in
    if is_negative wide a then negated wide r else r

-- the number lies outside the signed range of the width
abbrev pub is_outside : Bool → ℤ → Bool
is_outside wide z = int_lt z (neg_ℤ (pos (2 ^ (bits_of wide - 1)))) || not (int_lt z (pos (2 ^ (bits_of wide - 1))))

-- the low k bits of a pattern, read signed, as a pattern of the width
abbrev pub sign_extended : Bool → ℕ → ℕ → ℕ
sign_extended wide k a = let low = a % 2 ^ k in if nat_lt low (2 ^ (k - 1)) then low else (low + 2 ^ bits_of wide) - 2 ^ k

-- the value of an operator on the patterns of its operands; an input has none
unfoldable pub word : Op → ℕ → ℕ → ℕ → ℕ
word (Const wide pattern) a b c = pattern
word (Input wide number) a b c = 0
word (Not wide) a b c = 2 ^ bits_of wide - 1 - a
word (And wide) a b c = bit_and a b
word (Or wide) a b c = bit_or a b
word (Xor wide) a b c = bit_xor a b
word (Add wide) a b c = wrapped wide (a + b)
word (Sub wide) a b c = wrapped wide ((a + 2 ^ bits_of wide) - b)
word (Neg wide) a b c = negated wide a
word (Mul wide) a b c = wrapped wide (a * b)
word (Shl wide) a b c = wrapped wide (a * 2 ^ (b % bits_of wide))
word (Shr wide) a b c = cast_unsigned (width_of wide) (int_div_euclid (signed_of wide a) (pos (2 ^ (b % bits_of wide))))
word (ShrUn wide) a b c = a / 2 ^ (b % bits_of wide)
word (DivU wide) a b c = quotient wide a b
word (RemU wide) a b c = remainder a b
word (DivS wide) a b c = signed_quotient wide a b
word (RemS wide) a b c = signed_remainder wide a b
word (Eq wide) a b c = truth (a == b)
word (LtU wide) a b c = truth (nat_lt a b)
word (LtS wide) a b c = truth (int_lt (signed_of wide a) (signed_of wide b))
word (AddOvfU wide) a b c = truth (nat_le (2 ^ bits_of wide) (a + b))
word (SubOvfU wide) a b c = truth (nat_lt a b)
word (MulOvfU wide) a b c = truth (nat_le (2 ^ bits_of wide) (a * b))
word (AddOvfS wide) a b c = truth (is_outside wide (signed_of wide a +ℤ signed_of wide b))
word (SubOvfS wide) a b c = truth (is_outside wide (signed_of wide a -ℤ signed_of wide b))
word (MulOvfS wide) a b c = truth (is_outside wide (signed_of wide a *ℤ signed_of wide b))
word (SignExt wide bits) a b c = sign_extended wide bits a
word (ZeroExt wide bits) a b c = a % 2 ^ bits
word (Low wide) a b c = a % 2 ^ 32
word (Ite wide) a b c = if a % 2 == 1 then b else c

-- the same of a list of operands
abbrev pub word_of : Op → List ℕ → ℕ
word_of op xs = word op (slice_index xs 0) (slice_index xs 1) (slice_index xs 2)
