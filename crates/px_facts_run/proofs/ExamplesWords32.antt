-- Values of operators on words of 32 bits, worked out by hand.
use Rattle.std.proofs.Common.{◌≡◌, ℕ, false, refl}
use Rattle.px_words.specs.declared.Op.TheVariants.{Const, Not, And, Or, Xor, Add, Sub, Neg, Mul, Shl, Shr, ShrUn, DivU, RemU, DivS, RemS, Eq, LtU, LtS, AddOvfU, SubOvfU, MulOvfU, AddOvfS, SubOvfS, MulOvfS, SignExt, ZeroExt, Low, Ite}
use Rattle.px_words.specs.Word.{word}

-- The least and the greatest signed number, and small negative ones.
abbrev least : ℕ
least = 0x8000_0000

abbrev greatest : ℕ
greatest = 0x7fff_ffff

abbrev minus_1 : ℕ
minus_1 = 0xffff_ffff

abbrev minus_3 : ℕ
minus_3 = 0xffff_fffd

abbrev minus_7 : ℕ
minus_7 = 0xffff_fff9

-- A constant is its pattern.
constant : word (Const false 0x1234_5678) 0 0 0 ≡ 0x1234_5678
unfolding word
constant = refl

-- Bit by bit.
complement : word (Not false) 0x1234_5678 0 0 ≡ 0xedcb_a987
unfolding word
complement = refl

bits_in_both : word (And false) 0x1234_5678 0xff0f 0 ≡ 0x5608
unfolding word
bits_in_both = refl

bits_in_either : word (Or false) 0x1234_5678 0xff0f 0 ≡ 0x1234_ff7f
unfolding word
bits_in_either = refl

bits_in_one : word (Xor false) 0x1234_5678 0xff0f 0 ≡ 0x1234_a977
unfolding word
bits_in_one = refl

-- Sums, differences and products wrap.
sum_wraps : word (Add false) minus_1 2 0 ≡ 1
unfolding word
sum_wraps = refl

-- A body that takes the first operand from the second gives 1.
difference_wraps : word (Sub false) 1 2 0 ≡ minus_1
unfolding word
difference_wraps = refl

least_negated_is_itself : word (Neg false) least 0 0 ≡ least
unfolding word
least_negated_is_itself = refl

product_of_negatives : word (Mul false) minus_7 minus_1 0 ≡ 7
unfolding word
product_of_negatives = refl

-- The count of a shift is taken modulo 32.
-- A body that takes it modulo 64 gives 0.
shift_left_by_33 : word (Shl false) 0x8000_0001 33 0 ≡ 2
unfolding word
shift_left_by_33 = refl

-- A shift to the right copies the sign.
shift_right_by_31 : word (Shr false) least 31 0 ≡ minus_1
unfolding word
shift_right_by_31 = refl

shift_right_by_33 : word (Shr false) minus_7 33 0 ≡ 0xffff_fffc
unfolding word
shift_right_by_33 = refl

-- Or it fills with zeros.
shift_right_unsigned_by_31 : word (ShrUn false) least 31 0 ≡ 1
unfolding word
shift_right_unsigned_by_31 = refl

-- A body that takes the count modulo 64 gives 0.
shift_right_unsigned_by_32 : word (ShrUn false) least 32 0 ≡ least
unfolding word
shift_right_unsigned_by_32 = refl

-- Unsigned division: by 0 the quotient is all ones, and the remainder the dividend.
quotient_unsigned : word (DivU false) minus_7 2 0 ≡ 0x7fff_fffc
unfolding word
quotient_unsigned = refl

-- A body that has one 1 less gives 0x7fff_ffff.
quotient_unsigned_by_zero : word (DivU false) 7 0 0 ≡ minus_1
unfolding word
quotient_unsigned_by_zero = refl

remainder_unsigned : word (RemU false) minus_7 4 0 ≡ 1
unfolding word
remainder_unsigned = refl

remainder_unsigned_by_zero : word (RemU false) 7 0 0 ≡ 7
unfolding word
remainder_unsigned_by_zero = refl

-- Signed division rounds towards 0, and the remainder has the sign of the dividend.
quotient_of_negative : word (DivS false) minus_7 2 0 ≡ minus_3
unfolding word
quotient_of_negative = refl

quotient_that_overflows : word (DivS false) least minus_1 0 ≡ least
unfolding word
quotient_that_overflows = refl

quotient_by_zero : word (DivS false) 7 0 0 ≡ minus_1
unfolding word
quotient_by_zero = refl

quotient_of_negative_by_zero : word (DivS false) minus_7 0 0 ≡ 1
unfolding word
quotient_of_negative_by_zero = refl

-- A body that gives the remainder the sign of the divisor gives 1.
remainder_of_negative : word (RemS false) minus_7 2 0 ≡ minus_1
unfolding word
remainder_of_negative = refl

remainder_by_negative : word (RemS false) 7 minus_3 0 ≡ 1
unfolding word
remainder_by_negative = refl

remainder_of_negative_by_zero : word (RemS false) minus_7 0 0 ≡ minus_7
unfolding word
remainder_of_negative_by_zero = refl

-- Tests give 0 or 1.
least_equals_itself : word (Eq false) least least 0 ≡ 1
unfolding word
least_equals_itself = refl

less_unsigned : word (LtU false) 1 minus_1 0 ≡ 1
unfolding word
less_unsigned = refl

-- A body that reads the words unsigned gives 1.
less_signed : word (LtS false) 1 minus_1 0 ≡ 0
unfolding word
less_signed = refl

-- Whether a result leaves the unsigned range.
sum_stays_unsigned : word (AddOvfU false) minus_1 0 0 ≡ 0
unfolding word
sum_stays_unsigned = refl

sum_leaves_unsigned : word (AddOvfU false) minus_1 1 0 ≡ 1
unfolding word
sum_leaves_unsigned = refl

difference_stays_unsigned : word (SubOvfU false) 1 1 0 ≡ 0
unfolding word
difference_stays_unsigned = refl

difference_leaves_unsigned : word (SubOvfU false) 1 2 0 ≡ 1
unfolding word
difference_leaves_unsigned = refl

product_stays_unsigned : word (MulOvfU false) 0x1_0000 0xffff 0 ≡ 0
unfolding word
product_stays_unsigned = refl

product_leaves_unsigned : word (MulOvfU false) 0x1_0000 0x1_0000 0 ≡ 1
unfolding word
product_leaves_unsigned = refl

-- Whether a result leaves the signed range.
-- A body that counts the greatest number as outside gives 1.
sum_stays_signed : word (AddOvfS false) greatest 0 0 ≡ 0
unfolding word
sum_stays_signed = refl

sum_leaves_above : word (AddOvfS false) greatest 1 0 ≡ 1
unfolding word
sum_leaves_above = refl

sum_leaves_below : word (AddOvfS false) least minus_1 0 ≡ 1
unfolding word
sum_leaves_below = refl

difference_stays_signed : word (SubOvfS false) minus_1 least 0 ≡ 0
unfolding word
difference_stays_signed = refl

difference_leaves_signed : word (SubOvfS false) 0 least 0 ≡ 1
unfolding word
difference_leaves_signed = refl

product_stays_signed : word (MulOvfS false) least 1 0 ≡ 0
unfolding word
product_stays_signed = refl

product_leaves_signed : word (MulOvfS false) least minus_1 0 ≡ 1
unfolding word
product_leaves_signed = refl

-- Extensions keep the low bits.
negative_byte_extended : word (SignExt false 8) 0x80 0 0 ≡ 0xffff_ff80
unfolding word
negative_byte_extended = refl

-- A body that takes each byte from 16 on for a negative one gives 0xffff_ff7f.
positive_byte_extended : word (SignExt false 8) 0x17f 0 0 ≡ 0x7f
unfolding word
positive_byte_extended = refl

byte_extended_by_zeros : word (ZeroExt false 8) 0x180 0 0 ≡ 0x80
unfolding word
byte_extended_by_zeros = refl

low_half_of_narrow : word (Low false) least 0 0 ≡ least
unfolding word
low_half_of_narrow = refl

-- A choice is by bit 0 of the first operand.
choice_by_3 : word (Ite false) 3 least 5 ≡ least
unfolding word
choice_by_3 = refl

choice_by_2 : word (Ite false) 2 least 5 ≡ 5
unfolding word
choice_by_2 = refl
