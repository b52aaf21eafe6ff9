-- Domains that are read from their texts, with their sizes, their tuples and the words that are in them.
use Rattle.std.proofs.Common.{◌≡◌, List, [], ◌∷◌, ℕ, ◌^◌, ◌≤◌, Some, None, SomeIff, Ok, codes, pos, neg_ℤ, map, lit≤, le→leb, refl}
use Rattle.std.specs.Fmt.{digits}
use Rattle.std.specs.List.{AllByRecursion}
use Rattle.px_program.specs.declared.program.Place.TheVariants.{Bool, Char, I1, I4, I8, U2, U4, U8, UN}
use Rattle.px_domain.specs.declared.domain.Part.{Part}
use Rattle.px_domain.specs.declared.domain.Part.TheVariants.{Scalar}
use Rattle.px_domain.specs.Domain.{InDomain, ranges_of, size_of, tuple_of}
use Rattle.px_domain.specs.Grammar.{domain_of, groups_at, part_at, group_at, scalar_at, range_at, span_at, number_at}
use Rattle.px_facts_run.proofs.Givens.{integers}
use Rattle.px_facts_run.proofs.Held.{all_in_domain}

-- the tuples of these numbers
abbrev tuples : List Part → List ℕ → List (List ℕ)
tuples parts numbers = map (tuple_of (ranges_of parts)) numbers

-- TUPLES
-- They are counted from the low ends on, the last word running fastest. All of them are in the domain.

-- Without parameters there is one tuple, the empty one.
nothing : domain_of (integers []) (codes "-") ≡ Ok []
unfolding domain_of groups_at part_at group_at scalar_at range_at span_at number_at digits
nothing = refl

size_of_nothing : size_of (ranges_of []) ≡ 1
size_of_nothing = refl

tuples_of_nothing : tuples [] (0 ∷ []) ≡ [] ∷ []
tuples_of_nothing = refl

nothing_held : AllByRecursion (InDomain []) (tuples [] (0 ∷ []))
nothing_held = all_in_domain [] (tuples [] (0 ∷ [])) tt

abbrev letters : List Part
letters = Scalar Char (pos 97) (pos 98) ∷ []

letters_read : domain_of (integers (Char ∷ [])) (codes "(97..98)") ≡ Ok letters
unfolding domain_of groups_at part_at group_at scalar_at range_at span_at number_at digits
letters_read = refl

-- A body that doesn't count the last number gives 1.
size_of_letters : size_of (ranges_of letters) ≡ 2
size_of_letters = refl

-- A body that gives the tuple of the next number has 98 first.
tuples_of_letters : tuples letters (0 ∷ 1 ∷ []) ≡ (97 ∷ []) ∷ (98 ∷ []) ∷ []
tuples_of_letters = refl

letters_held : AllByRecursion (InDomain letters) (tuples letters (0 ∷ 1 ∷ []))
letters_held = all_in_domain letters (tuples letters (0 ∷ 1 ∷ [])) tt

-- A narrow negative number has its sign in all 32 bits of its word.
abbrev least_bytes : List Part
least_bytes = Scalar I1 (neg_ℤ (pos 128)) (neg_ℤ (pos 127)) ∷ []

least_bytes_read : domain_of (integers (I1 ∷ [])) (codes "(-128..-127)") ≡ Ok least_bytes
unfolding domain_of groups_at part_at group_at scalar_at range_at span_at number_at digits
least_bytes_read = refl

size_of_least_bytes : size_of (ranges_of least_bytes) ≡ 2
size_of_least_bytes = refl

tuples_of_least_bytes : tuples least_bytes (0 ∷ 1 ∷ []) ≡ (4294967168 ∷ []) ∷ (4294967169 ∷ []) ∷ []
tuples_of_least_bytes = refl

least_bytes_held : AllByRecursion (InDomain least_bytes) (tuples least_bytes (0 ∷ 1 ∷ []))
least_bytes_held = all_in_domain least_bytes (tuples least_bytes (0 ∷ 1 ∷ [])) tt

-- Words of 64 bits at the ends.
abbrev least_int64 : List Part
least_int64 = Scalar I8 (neg_ℤ (pos 9223372036854775808)) (neg_ℤ (pos 9223372036854775807)) ∷ []

abbrev greatest_int64 : List Part
greatest_int64 = Scalar I8 (pos 9223372036854775806) (pos 9223372036854775807) ∷ []

abbrev greatest_native : List Part
greatest_native = Scalar UN (pos 18446744073709551614) (pos 18446744073709551615) ∷ []

least_int64_read : domain_of (integers (I8 ∷ [])) (codes "(-9223372036854775808..-9223372036854775807)") ≡ Ok least_int64
unfolding domain_of groups_at part_at group_at scalar_at range_at span_at number_at digits
least_int64_read = refl

size_of_least_int64 : size_of (ranges_of least_int64) ≡ 2
size_of_least_int64 = refl

tuples_of_least_int64 : tuples least_int64 (0 ∷ 1 ∷ []) ≡ (9223372036854775808 ∷ []) ∷ (9223372036854775809 ∷ []) ∷ []
tuples_of_least_int64 = refl

least_int64_held : AllByRecursion (InDomain least_int64) (tuples least_int64 (0 ∷ 1 ∷ []))
least_int64_held = all_in_domain least_int64 (tuples least_int64 (0 ∷ 1 ∷ [])) tt

greatest_int64_read : domain_of (integers (I8 ∷ [])) (codes "(9223372036854775806..9223372036854775807)") ≡ Ok greatest_int64
unfolding domain_of groups_at part_at group_at scalar_at range_at span_at number_at digits
greatest_int64_read = refl

size_of_greatest_int64 : size_of (ranges_of greatest_int64) ≡ 2
size_of_greatest_int64 = refl

tuples_of_greatest_int64 : tuples greatest_int64 (0 ∷ 1 ∷ []) ≡ (9223372036854775806 ∷ []) ∷ (9223372036854775807 ∷ []) ∷ []
tuples_of_greatest_int64 = refl

greatest_int64_held : AllByRecursion (InDomain greatest_int64) (tuples greatest_int64 (0 ∷ 1 ∷ []))
greatest_int64_held = all_in_domain greatest_int64 (tuples greatest_int64 (0 ∷ 1 ∷ [])) tt

greatest_native_read : domain_of (integers (UN ∷ [])) (codes "(18446744073709551614..18446744073709551615)") ≡ Ok greatest_native
unfolding domain_of groups_at part_at group_at scalar_at range_at span_at number_at digits
greatest_native_read = refl

size_of_greatest_native : size_of (ranges_of greatest_native) ≡ 2
size_of_greatest_native = refl

tuples_of_greatest_native : tuples greatest_native (0 ∷ 1 ∷ []) ≡ (18446744073709551614 ∷ []) ∷ (18446744073709551615 ∷ []) ∷ []
tuples_of_greatest_native = refl

greatest_native_held : AllByRecursion (InDomain greatest_native) (tuples greatest_native (0 ∷ 1 ∷ []))
greatest_native_held = all_in_domain greatest_native (tuples greatest_native (0 ∷ 1 ∷ [])) tt

-- Three parameters.
abbrev three : List Part
three = Scalar Bool (pos 0) (pos 1) ∷ Scalar I4 (neg_ℤ (pos 1)) (pos 1) ∷ Scalar U2 (pos 7) (pos 8) ∷ []

abbrev triple : ℕ → ℕ → ℕ → List ℕ
triple a b c = a ∷ b ∷ c ∷ []

three_read : domain_of (integers (Bool ∷ I4 ∷ U2 ∷ [])) (codes "(*)(-1..1)(7..8)") ≡ Ok three
unfolding domain_of groups_at part_at group_at scalar_at range_at span_at number_at digits
three_read = refl

-- A body that doesn't count the last numbers gives 2.
size_of_three : size_of (ranges_of three) ≡ 12
size_of_three = refl

-- A body whose first word runs fastest has 1, 4294967295, 7 for its second tuple.
first_half_of_three : tuples three (0 ∷ 1 ∷ 2 ∷ 3 ∷ 4 ∷ 5 ∷ [])
    ≡ triple 0 4294967295 7
    ∷ triple 0 4294967295 8
    ∷ triple 0 0 7
    ∷ triple 0 0 8
    ∷ triple 0 1 7
    ∷ triple 0 1 8
    ∷ []
first_half_of_three = refl

second_half_of_three : tuples three (6 ∷ 7 ∷ 8 ∷ 9 ∷ 10 ∷ 11 ∷ [])
    ≡ triple 1 4294967295 7
    ∷ triple 1 4294967295 8
    ∷ triple 1 0 7
    ∷ triple 1 0 8
    ∷ triple 1 1 7
    ∷ triple 1 1 8
    ∷ []
second_half_of_three = refl

three_held : AllByRecursion (InDomain three) (tuples three (0 ∷ 1 ∷ 2 ∷ 3 ∷ 4 ∷ 5 ∷ 6 ∷ 7 ∷ 8 ∷ 9 ∷ 10 ∷ 11 ∷ []))
three_held = all_in_domain three (tuples three (0 ∷ 1 ∷ 2 ∷ 3 ∷ 4 ∷ 5 ∷ 6 ∷ 7 ∷ 8 ∷ 9 ∷ 10 ∷ 11 ∷ [])) tt

-- A range may have one number.
-- A body that refuses equal ends has a fault at 1.
one_number_read : domain_of (integers (I4 ∷ [])) (codes "(5..5)") ≡ Ok (Scalar I4 (pos 5) (pos 5) ∷ [])
unfolding domain_of groups_at part_at group_at scalar_at range_at span_at number_at digits
one_number_read = refl

-- SIZES

abbrev hundred : List Part
hundred = Scalar I4 (pos 0) (pos 9) ∷ Scalar I8 (neg_ℤ (pos 4)) (pos 5) ∷ []

abbrev largest : List Part
largest = Scalar U4 (pos 1) (pos 4294967295) ∷ []

abbrev all_uint16 : Part
all_uint16 = Scalar U2 (pos 0) (pos 65535)

abbrev all_int32 : Part
all_int32 = Scalar I4 (neg_ℤ (pos 2147483648)) (pos 2147483647)

abbrev all_uint64 : Part
all_uint64 = Scalar U8 (pos 0) (pos 18446744073709551615)

abbrev four_times : {X : Type 0} → X → List X → List X
four_times x rest = x ∷ x ∷ x ∷ x ∷ rest

abbrev sixteen_times : {X : Type 0} → X → List X
sixteen_times x = four_times x (four_times x (four_times x (four_times x [])))

hundred_read : domain_of (integers (I4 ∷ I8 ∷ [])) (codes "(0..9)(-4..5)") ≡ Ok hundred
unfolding domain_of groups_at part_at group_at scalar_at range_at span_at number_at digits
hundred_read = refl

-- A body that doesn't count the last numbers gives 81.
size_of_hundred : size_of (ranges_of hundred) ≡ 100
size_of_hundred = refl

largest_read : domain_of (integers (U4 ∷ [])) (codes "(1..4294967295)") ≡ Ok largest
unfolding domain_of groups_at part_at group_at scalar_at range_at span_at number_at digits
largest_read = refl

size_of_largest : size_of (ranges_of largest) ≡ 4294967295
size_of_largest = refl

squared_read : domain_of (integers (U2 ∷ U2 ∷ [])) (codes "(*)(*)") ≡ Ok (all_uint16 ∷ all_uint16 ∷ [])
unfolding domain_of groups_at part_at group_at scalar_at range_at span_at number_at digits
squared_read = refl

size_of_squared : size_of (ranges_of (all_uint16 ∷ all_uint16 ∷ [])) ≡ 4294967296
size_of_squared = refl

four_read : domain_of (integers (four_times I4 [])) (codes "(*)(*)(*)(*)") ≡ Ok (four_times all_int32 [])
unfolding domain_of groups_at part_at group_at scalar_at range_at span_at number_at digits
four_read = refl

size_of_four : size_of (ranges_of (four_times all_int32 [])) ≡ 2 ^ 128
size_of_four = refl

sixteen_read : domain_of (integers (sixteen_times U8)) (codes "(*)(*)(*)(*)(*)(*)(*)(*)(*)(*)(*)(*)(*)(*)(*)(*)") ≡ Ok (sixteen_times all_uint64)
unfolding domain_of groups_at part_at group_at scalar_at range_at span_at number_at digits
sixteen_read = refl

size_of_sixteen : size_of (ranges_of (sixteen_times all_uint64)) ≡ 2 ^ 1024
size_of_sixteen = refl

-- WITHIN A LIMIT
-- The answer is the size where it is at most the limit, and else there is none.

nothing_within_0 : SomeIff None (size_of (ranges_of []) ≤ 0) (size_of (ranges_of []))
nothing_within_0 h = le→leb 1 0 h

nothing_within_1 : SomeIff (Some 1) (size_of (ranges_of []) ≤ 1) (size_of (ranges_of []))
nothing_within_1 = (lit≤ tt, refl)

hundred_within_99 : SomeIff None (size_of (ranges_of hundred) ≤ 99) (size_of (ranges_of hundred))
hundred_within_99 h = le→leb 100 99 h

hundred_within_100 : SomeIff (Some 100) (size_of (ranges_of hundred) ≤ 100) (size_of (ranges_of hundred))
hundred_within_100 = (lit≤ tt, refl)

largest_within_itself : SomeIff (Some 4294967295) (size_of (ranges_of largest) ≤ 4294967295) (size_of (ranges_of largest))
largest_within_itself = (lit≤ tt, refl)

largest_within_one_less : SomeIff None (size_of (ranges_of largest) ≤ 4294967294) (size_of (ranges_of largest))
largest_within_one_less h = le→leb 4294967295 4294967294 h

squared_within_the_greatest : SomeIff None (size_of (ranges_of (all_uint16 ∷ all_uint16 ∷ [])) ≤ 4294967295) (size_of (ranges_of (all_uint16 ∷ all_uint16 ∷ [])))
squared_within_the_greatest h = le→leb 4294967296 4294967295 h

four_within_the_greatest : SomeIff None (size_of (ranges_of (four_times all_int32 [])) ≤ 4294967295) (size_of (ranges_of (four_times all_int32 [])))
four_within_the_greatest h = le→leb (2 ^ 128) 4294967295 h

sixteen_within_the_greatest : SomeIff None (size_of (ranges_of (sixteen_times all_uint64)) ≤ 4294967295) (size_of (ranges_of (sixteen_times all_uint64)))
sixteen_within_the_greatest h = le→leb (2 ^ 1024) 4294967295 h
