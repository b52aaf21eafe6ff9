-- The numbers of each integer place: all of them, read from a star and from the ends, and the two next to the ends, which are refused.
use Rattle.std.proofs.Common.{◌≡◌, [], ◌∷◌, Ok, Err, codes, pos, neg_ℤ, refl}
use Rattle.std.specs.Fmt.{digits}
use Rattle.px_program.specs.declared.program.Place.TheVariants.{Bool, Char, I1, U1, I2, U2, I4, U4, I8, U8, N, UN}
use Rattle.px_domain.specs.declared.domain.Part.TheVariants.{Scalar}
use Rattle.px_domain.specs.Grammar.{domain_of, groups_at, part_at, group_at, scalar_at, range_at, span_at, number_at}
use Rattle.px_facts_run.proofs.Givens.{integers}

-- A truth value is 0 or 1.
whole_bool : domain_of (integers (Bool ∷ [])) (codes "(*)") ≡ Ok (Scalar Bool (pos 0) (pos 1) ∷ [])
unfolding domain_of groups_at part_at group_at scalar_at range_at span_at number_at digits
whole_bool = refl

all_of_bool : domain_of (integers (Bool ∷ [])) (codes "(0..1)") ≡ Ok (Scalar Bool (pos 0) (pos 1) ∷ [])
unfolding domain_of groups_at part_at group_at scalar_at range_at span_at number_at digits
all_of_bool = refl

below_bool : domain_of (integers (Bool ∷ [])) (codes "(-1..1)") ≡ Err 1
unfolding domain_of groups_at part_at group_at scalar_at range_at span_at number_at digits
below_bool = refl

above_bool : domain_of (integers (Bool ∷ [])) (codes "(0..2)") ≡ Err 4
unfolding domain_of groups_at part_at group_at scalar_at range_at span_at number_at digits
above_bool = refl

-- A character is one of 16 bits.
whole_char : domain_of (integers (Char ∷ [])) (codes "(*)") ≡ Ok (Scalar Char (pos 0) (pos 65535) ∷ [])
unfolding domain_of groups_at part_at group_at scalar_at range_at span_at number_at digits
whole_char = refl

all_of_char : domain_of (integers (Char ∷ [])) (codes "(0..65535)") ≡ Ok (Scalar Char (pos 0) (pos 65535) ∷ [])
unfolding domain_of groups_at part_at group_at scalar_at range_at span_at number_at digits
all_of_char = refl

below_char : domain_of (integers (Char ∷ [])) (codes "(-1..65535)") ≡ Err 1
unfolding domain_of groups_at part_at group_at scalar_at range_at span_at number_at digits
below_char = refl

above_char : domain_of (integers (Char ∷ [])) (codes "(0..65536)") ≡ Err 4
unfolding domain_of groups_at part_at group_at scalar_at range_at span_at number_at digits
above_char = refl

-- `int8`.
whole_int8 : domain_of (integers (I1 ∷ [])) (codes "(*)") ≡ Ok (Scalar I1 (neg_ℤ (pos 128)) (pos 127) ∷ [])
unfolding domain_of groups_at part_at group_at scalar_at range_at span_at number_at digits
whole_int8 = refl

all_of_int8 : domain_of (integers (I1 ∷ [])) (codes "(-128..127)") ≡ Ok (Scalar I1 (neg_ℤ (pos 128)) (pos 127) ∷ [])
unfolding domain_of groups_at part_at group_at scalar_at range_at span_at number_at digits
all_of_int8 = refl

below_int8 : domain_of (integers (I1 ∷ [])) (codes "(-129..127)") ≡ Err 1
unfolding domain_of groups_at part_at group_at scalar_at range_at span_at number_at digits
below_int8 = refl

above_int8 : domain_of (integers (I1 ∷ [])) (codes "(-128..128)") ≡ Err 7
unfolding domain_of groups_at part_at group_at scalar_at range_at span_at number_at digits
above_int8 = refl

-- `uint8`.
whole_uint8 : domain_of (integers (U1 ∷ [])) (codes "(*)") ≡ Ok (Scalar U1 (pos 0) (pos 255) ∷ [])
unfolding domain_of groups_at part_at group_at scalar_at range_at span_at number_at digits
whole_uint8 = refl

all_of_uint8 : domain_of (integers (U1 ∷ [])) (codes "(0..255)") ≡ Ok (Scalar U1 (pos 0) (pos 255) ∷ [])
unfolding domain_of groups_at part_at group_at scalar_at range_at span_at number_at digits
all_of_uint8 = refl

below_uint8 : domain_of (integers (U1 ∷ [])) (codes "(-1..255)") ≡ Err 1
unfolding domain_of groups_at part_at group_at scalar_at range_at span_at number_at digits
below_uint8 = refl

above_uint8 : domain_of (integers (U1 ∷ [])) (codes "(0..256)") ≡ Err 4
unfolding domain_of groups_at part_at group_at scalar_at range_at span_at number_at digits
above_uint8 = refl

-- `int16`.
whole_int16 : domain_of (integers (I2 ∷ [])) (codes "(*)") ≡ Ok (Scalar I2 (neg_ℤ (pos 32768)) (pos 32767) ∷ [])
unfolding domain_of groups_at part_at group_at scalar_at range_at span_at number_at digits
whole_int16 = refl

all_of_int16 : domain_of (integers (I2 ∷ [])) (codes "(-32768..32767)") ≡ Ok (Scalar I2 (neg_ℤ (pos 32768)) (pos 32767) ∷ [])
unfolding domain_of groups_at part_at group_at scalar_at range_at span_at number_at digits
all_of_int16 = refl

below_int16 : domain_of (integers (I2 ∷ [])) (codes "(-32769..32767)") ≡ Err 1
unfolding domain_of groups_at part_at group_at scalar_at range_at span_at number_at digits
below_int16 = refl

above_int16 : domain_of (integers (I2 ∷ [])) (codes "(-32768..32768)") ≡ Err 9
unfolding domain_of groups_at part_at group_at scalar_at range_at span_at number_at digits
above_int16 = refl

-- `uint16`.
whole_uint16 : domain_of (integers (U2 ∷ [])) (codes "(*)") ≡ Ok (Scalar U2 (pos 0) (pos 65535) ∷ [])
unfolding domain_of groups_at part_at group_at scalar_at range_at span_at number_at digits
whole_uint16 = refl

all_of_uint16 : domain_of (integers (U2 ∷ [])) (codes "(0..65535)") ≡ Ok (Scalar U2 (pos 0) (pos 65535) ∷ [])
unfolding domain_of groups_at part_at group_at scalar_at range_at span_at number_at digits
all_of_uint16 = refl

below_uint16 : domain_of (integers (U2 ∷ [])) (codes "(-1..65535)") ≡ Err 1
unfolding domain_of groups_at part_at group_at scalar_at range_at span_at number_at digits
below_uint16 = refl

above_uint16 : domain_of (integers (U2 ∷ [])) (codes "(0..65536)") ≡ Err 4
unfolding domain_of groups_at part_at group_at scalar_at range_at span_at number_at digits
above_uint16 = refl

-- `int32`.
whole_int32 : domain_of (integers (I4 ∷ [])) (codes "(*)") ≡ Ok (Scalar I4 (neg_ℤ (pos 2147483648)) (pos 2147483647) ∷ [])
unfolding domain_of groups_at part_at group_at scalar_at range_at span_at number_at digits
whole_int32 = refl

all_of_int32 : domain_of (integers (I4 ∷ [])) (codes "(-2147483648..2147483647)") ≡ Ok (Scalar I4 (neg_ℤ (pos 2147483648)) (pos 2147483647) ∷ [])
unfolding domain_of groups_at part_at group_at scalar_at range_at span_at number_at digits
all_of_int32 = refl

below_int32 : domain_of (integers (I4 ∷ [])) (codes "(-2147483649..2147483647)") ≡ Err 1
unfolding domain_of groups_at part_at group_at scalar_at range_at span_at number_at digits
below_int32 = refl

above_int32 : domain_of (integers (I4 ∷ [])) (codes "(-2147483648..2147483648)") ≡ Err 14
unfolding domain_of groups_at part_at group_at scalar_at range_at span_at number_at digits
above_int32 = refl

-- `uint32`.
whole_uint32 : domain_of (integers (U4 ∷ [])) (codes "(*)") ≡ Ok (Scalar U4 (pos 0) (pos 4294967295) ∷ [])
unfolding domain_of groups_at part_at group_at scalar_at range_at span_at number_at digits
whole_uint32 = refl

all_of_uint32 : domain_of (integers (U4 ∷ [])) (codes "(0..4294967295)") ≡ Ok (Scalar U4 (pos 0) (pos 4294967295) ∷ [])
unfolding domain_of groups_at part_at group_at scalar_at range_at span_at number_at digits
all_of_uint32 = refl

below_uint32 : domain_of (integers (U4 ∷ [])) (codes "(-1..4294967295)") ≡ Err 1
unfolding domain_of groups_at part_at group_at scalar_at range_at span_at number_at digits
below_uint32 = refl

above_uint32 : domain_of (integers (U4 ∷ [])) (codes "(0..4294967296)") ≡ Err 4
unfolding domain_of groups_at part_at group_at scalar_at range_at span_at number_at digits
above_uint32 = refl

-- `int64`.
whole_int64 : domain_of (integers (I8 ∷ [])) (codes "(*)") ≡ Ok (Scalar I8 (neg_ℤ (pos 9223372036854775808)) (pos 9223372036854775807) ∷ [])
unfolding domain_of groups_at part_at group_at scalar_at range_at span_at number_at digits
whole_int64 = refl

all_of_int64 : domain_of (integers (I8 ∷ [])) (codes "(-9223372036854775808..9223372036854775807)")
    ≡ Ok (Scalar I8 (neg_ℤ (pos 9223372036854775808)) (pos 9223372036854775807) ∷ [])
unfolding domain_of groups_at part_at group_at scalar_at range_at span_at number_at digits
all_of_int64 = refl

below_int64 : domain_of (integers (I8 ∷ [])) (codes "(-9223372036854775809..9223372036854775807)") ≡ Err 1
unfolding domain_of groups_at part_at group_at scalar_at range_at span_at number_at digits
below_int64 = refl

above_int64 : domain_of (integers (I8 ∷ [])) (codes "(-9223372036854775808..9223372036854775808)") ≡ Err 23
unfolding domain_of groups_at part_at group_at scalar_at range_at span_at number_at digits
above_int64 = refl

-- `uint64`.
whole_uint64 : domain_of (integers (U8 ∷ [])) (codes "(*)") ≡ Ok (Scalar U8 (pos 0) (pos 18446744073709551615) ∷ [])
unfolding domain_of groups_at part_at group_at scalar_at range_at span_at number_at digits
whole_uint64 = refl

all_of_uint64 : domain_of (integers (U8 ∷ [])) (codes "(0..18446744073709551615)") ≡ Ok (Scalar U8 (pos 0) (pos 18446744073709551615) ∷ [])
unfolding domain_of groups_at part_at group_at scalar_at range_at span_at number_at digits
all_of_uint64 = refl

below_uint64 : domain_of (integers (U8 ∷ [])) (codes "(-1..18446744073709551615)") ≡ Err 1
unfolding domain_of groups_at part_at group_at scalar_at range_at span_at number_at digits
below_uint64 = refl

above_uint64 : domain_of (integers (U8 ∷ [])) (codes "(0..18446744073709551616)") ≡ Err 4
unfolding domain_of groups_at part_at group_at scalar_at range_at span_at number_at digits
above_uint64 = refl

-- A native integer has 64 bits.
whole_native : domain_of (integers (N ∷ [])) (codes "(*)") ≡ Ok (Scalar N (neg_ℤ (pos 9223372036854775808)) (pos 9223372036854775807) ∷ [])
unfolding domain_of groups_at part_at group_at scalar_at range_at span_at number_at digits
whole_native = refl

all_of_native : domain_of (integers (N ∷ [])) (codes "(-9223372036854775808..9223372036854775807)")
    ≡ Ok (Scalar N (neg_ℤ (pos 9223372036854775808)) (pos 9223372036854775807) ∷ [])
unfolding domain_of groups_at part_at group_at scalar_at range_at span_at number_at digits
all_of_native = refl

below_native : domain_of (integers (N ∷ [])) (codes "(-9223372036854775809..9223372036854775807)") ≡ Err 1
unfolding domain_of groups_at part_at group_at scalar_at range_at span_at number_at digits
below_native = refl

above_native : domain_of (integers (N ∷ [])) (codes "(-9223372036854775808..9223372036854775808)") ≡ Err 23
unfolding domain_of groups_at part_at group_at scalar_at range_at span_at number_at digits
above_native = refl

-- So has an unsigned one.
whole_native_unsigned : domain_of (integers (UN ∷ [])) (codes "(*)") ≡ Ok (Scalar UN (pos 0) (pos 18446744073709551615) ∷ [])
unfolding domain_of groups_at part_at group_at scalar_at range_at span_at number_at digits
whole_native_unsigned = refl

all_of_native_unsigned : domain_of (integers (UN ∷ [])) (codes "(0..18446744073709551615)") ≡ Ok (Scalar UN (pos 0) (pos 18446744073709551615) ∷ [])
unfolding domain_of groups_at part_at group_at scalar_at range_at span_at number_at digits
all_of_native_unsigned = refl

below_native_unsigned : domain_of (integers (UN ∷ [])) (codes "(-1..18446744073709551615)") ≡ Err 1
unfolding domain_of groups_at part_at group_at scalar_at range_at span_at number_at digits
below_native_unsigned = refl

above_native_unsigned : domain_of (integers (UN ∷ [])) (codes "(0..18446744073709551616)") ≡ Err 4
unfolding domain_of groups_at part_at group_at scalar_at range_at span_at number_at digits
above_native_unsigned = refl
