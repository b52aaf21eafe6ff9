-- Values of operators on words of 64 bits, worked out by hand.
use Rattle.std.proofs.Common.{◌≡◌, ℕ, true, refl}
use Rattle.px_words.specs.declared.Op.TheVariants.{Const, Not, Add, Sub, Neg, Mul, Shl, Shr, ShrUn, DivU, RemU, DivS, RemS, Eq, LtU, LtS, AddOvfU, SubOvfU, MulOvfU, AddOvfS, SubOvfS, MulOvfS, SignExt, ZeroExt, Low, Ite}
use Rattle.px_words.specs.Word.{word}

-- The least and the greatest signed number, and small negative ones.
abbrev least : ℕ
least = 0x8000_0000_0000_0000

abbrev greatest : ℕ
greatest = 0x7fff_ffff_ffff_ffff

abbrev minus_1 : ℕ
minus_1 = 0xffff_ffff_ffff_ffff

abbrev minus_3 : ℕ
minus_3 = 0xffff_ffff_ffff_fffd

abbrev minus_7 : ℕ
minus_7 = 0xffff_ffff_ffff_fff9

-- A constant is its pattern.
constant : word (Const true least) 0 0 0 ≡ least
unfolding word
constant = refl

complement : word (Not true) greatest 0 0 ≡ least
unfolding word
complement = refl

-- Sums, differences and products wrap.
sum_wraps : word (Add true) minus_1 2 0 ≡ 1
unfolding word
sum_wraps = refl

-- A body that takes the first operand from the second gives 1.
difference_wraps : word (Sub true) 1 2 0 ≡ minus_1
unfolding word
difference_wraps = refl

least_negated_is_itself : word (Neg true) least 0 0 ≡ least
unfolding word
least_negated_is_itself = refl

product_of_negatives : word (Mul true) minus_7 minus_1 0 ≡ 7
unfolding word
product_of_negatives = refl

-- The count of a shift is taken modulo 64.
shift_left_by_95 : word (Shl true) 1 95 0 ≡ 0x8000_0000
unfolding word
shift_left_by_95 = refl

shift_left_by_127 : word (Shl true) 3 127 0 ≡ least
unfolding word
shift_left_by_127 = refl

shift_right_by_63 : word (Shr true) least 63 0 ≡ minus_1
unfolding word
shift_right_by_63 = refl

shift_right_unsigned_by_63 : word (ShrUn true) least 63 0 ≡ 1
unfolding word
shift_right_unsigned_by_63 = refl

-- Unsigned division: by 0 the quotient is all ones, and the remainder the dividend.
quotient_unsigned : word (DivU true) minus_1 2 0 ≡ greatest
unfolding word
quotient_unsigned = refl

-- A body that has one 1 less gives the greatest signed number.
quotient_unsigned_by_zero : word (DivU true) 7 0 0 ≡ minus_1
unfolding word
quotient_unsigned_by_zero = refl

remainder_unsigned_by_zero : word (RemU true) minus_7 0 0 ≡ minus_7
unfolding word
remainder_unsigned_by_zero = refl

-- Signed division rounds towards 0, and the remainder has the sign of the dividend.
quotient_of_negative : word (DivS true) minus_7 2 0 ≡ minus_3
unfolding word
quotient_of_negative = refl

quotient_that_overflows : word (DivS true) least minus_1 0 ≡ least
unfolding word
quotient_that_overflows = refl

quotient_by_zero : word (DivS true) 7 0 0 ≡ minus_1
unfolding word
quotient_by_zero = refl

-- A body that gives the remainder the sign of the divisor gives 1.
remainder_of_negative : word (RemS true) minus_7 2 0 ≡ minus_1
unfolding word
remainder_of_negative = refl

remainder_of_least_by_minus_1 : word (RemS true) least minus_1 0 ≡ 0
unfolding word
remainder_of_least_by_minus_1 = refl

-- Tests give 0 or 1.
least_is_not_zero : word (Eq true) least 0 0 ≡ 0
unfolding word
least_is_not_zero = refl

less_unsigned : word (LtU true) 1 minus_1 0 ≡ 1
unfolding word
less_unsigned = refl

-- A body that reads the words unsigned gives 0.
less_signed : word (LtS true) least greatest 0 ≡ 1
unfolding word
less_signed = refl

-- Whether a result leaves the unsigned range.
sum_leaves_unsigned : word (AddOvfU true) minus_1 1 0 ≡ 1
unfolding word
sum_leaves_unsigned = refl

difference_leaves_unsigned : word (SubOvfU true) 1 2 0 ≡ 1
unfolding word
difference_leaves_unsigned = refl

product_leaves_unsigned : word (MulOvfU true) 0x1_0000_0000 0x1_0000_0000 0 ≡ 1
unfolding word
product_leaves_unsigned = refl

-- Whether a result leaves the signed range.
sum_leaves_signed : word (AddOvfS true) greatest 1 0 ≡ 1
unfolding word
sum_leaves_signed = refl

-- A body that counts the greatest number as outside gives 1.
difference_stays_signed : word (SubOvfS true) minus_1 least 0 ≡ 0
unfolding word
difference_stays_signed = refl

product_stays_signed : word (MulOvfS true) least 1 0 ≡ 0
unfolding word
product_stays_signed = refl

product_leaves_signed : word (MulOvfS true) least minus_1 0 ≡ 1
unfolding word
product_leaves_signed = refl

-- Extensions keep the low bits.
negative_byte_extended : word (SignExt true 8) 0xf9 0 0 ≡ minus_7
unfolding word
negative_byte_extended = refl

half_extended_by_zeros : word (ZeroExt true 32) 0x8000_0000 0 0 ≡ 0x8000_0000
unfolding word
half_extended_by_zeros = refl

-- A body that keeps 33 bits gives 0x1_8000_0000.
low_half_of_wide : word (Low true) 0x1_8000_0000 0 0 ≡ 0x8000_0000
unfolding word
low_half_of_wide = refl

-- A choice is by bit 0 of the first operand.
choice_by_1 : word (Ite true) 1 least 5 ≡ least
unfolding word
choice_by_1 = refl
