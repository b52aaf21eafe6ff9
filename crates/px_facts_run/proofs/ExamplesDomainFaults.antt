-- Texts that are no domain, each with the byte at which its first fault is.
use Rattle.std.proofs.Common.{◌≡◌, List, [], ◌∷◌, Err, codes, refl}
use Rattle.px_program.specs.declared.program.Place.{Place}
use Rattle.std.specs.Fmt.{digits}
use Rattle.px_program.specs.declared.program.Place.TheVariants.{I4, I8, U1}
use Rattle.px_program.specs.Alone.{alone}
use Rattle.px_program.specs.Arguments.{arguments_of}
use Rattle.px_domain.specs.Grammar.{domain_of, groups_at, part_at, group_at, scalar_at, range_at, span_at, number_at}
use Rattle.px_facts_run.proofs.Givens.{integers}
use Rattle.px_facts_run.proofs.Methods.{laid_from, ldc, method_of, ret}

abbrev int32 : List Place
int32 = I4 ∷ []

abbrev int64_and_uint8 : List Place
int64_and_uint8 = I8 ∷ U1 ∷ []

-- The places are those of the parameters of the program's entry.
places_of_the_entry : arguments_of (alone [] (method_of int64_and_uint8 (laid_from 0 ((1, ldc 0) ∷ (1, ret) ∷ [])))) ≡ int64_and_uint8
places_of_the_entry = refl

-- Without parameters the text is a dash, and nothing follows it.
no_dash : domain_of (integers []) (codes "") ≡ Err 0
unfolding domain_of groups_at part_at group_at scalar_at range_at span_at number_at digits
no_dash = refl

a_letter_for_a_dash : domain_of (integers []) (codes "x") ≡ Err 0
unfolding domain_of groups_at part_at group_at scalar_at range_at span_at number_at digits
a_letter_for_a_dash = refl

a_group_for_a_dash : domain_of (integers []) (codes "(1..2)") ≡ Err 0
unfolding domain_of groups_at part_at group_at scalar_at range_at span_at number_at digits
a_group_for_a_dash = refl

a_letter_after_the_dash : domain_of (integers []) (codes "-x") ≡ Err 1
unfolding domain_of groups_at part_at group_at scalar_at range_at span_at number_at digits
a_letter_after_the_dash = refl

two_dashes : domain_of (integers []) (codes "--") ≡ Err 1
unfolding domain_of groups_at part_at group_at scalar_at range_at span_at number_at digits
two_dashes = refl

-- A group begins with a parenthesis.
no_group : domain_of (integers int32) (codes "") ≡ Err 0
unfolding domain_of groups_at part_at group_at scalar_at range_at span_at number_at digits
no_group = refl

a_dash_for_a_group : domain_of (integers int32) (codes "-") ≡ Err 0
unfolding domain_of groups_at part_at group_at scalar_at range_at span_at number_at digits
a_dash_for_a_group = refl

no_parenthesis : domain_of (integers int32) (codes "1..2)") ≡ Err 0
unfolding domain_of groups_at part_at group_at scalar_at range_at span_at number_at digits
no_parenthesis = refl

a_space_before_the_group : domain_of (integers int32) (codes " (1..2)") ≡ Err 0
unfolding domain_of groups_at part_at group_at scalar_at range_at span_at number_at digits
a_space_before_the_group = refl

-- A range begins with a number or a star.
-- A body whose faults in a range are at the group's first byte gives 0 for these, and for all that follow up to the stars.
nothing_in_the_group : domain_of (integers int32) (codes "(") ≡ Err 1
unfolding domain_of groups_at part_at group_at scalar_at range_at span_at number_at digits
nothing_in_the_group = refl

an_empty_group : domain_of (integers int32) (codes "()") ≡ Err 1
unfolding domain_of groups_at part_at group_at scalar_at range_at span_at number_at digits
an_empty_group = refl

a_space_before_the_number : domain_of (integers int32) (codes "( 1..2)") ≡ Err 1
unfolding domain_of groups_at part_at group_at scalar_at range_at span_at number_at digits
a_space_before_the_number = refl

a_letter_for_a_number : domain_of (integers int32) (codes "(x)") ≡ Err 1
unfolding domain_of groups_at part_at group_at scalar_at range_at span_at number_at digits
a_letter_for_a_number = refl

-- The order of the numbers is judged before what follows them.
numbers_out_of_order : domain_of (integers int32) (codes "(5..4)") ≡ Err 1
unfolding domain_of groups_at part_at group_at scalar_at range_at span_at number_at digits
numbers_out_of_order = refl

-- A body that judges the order after what follows gives 0 for both.
out_of_order_and_open : domain_of (integers int32) (codes "(2..1") ≡ Err 1
unfolding domain_of groups_at part_at group_at scalar_at range_at span_at number_at digits
out_of_order_and_open = refl

out_of_order_and_more : domain_of (integers int32) (codes "(2..1x") ≡ Err 1
unfolding domain_of groups_at part_at group_at scalar_at range_at span_at number_at digits
out_of_order_and_more = refl

-- Two dots follow the first number.
one_dot : domain_of (integers int32) (codes "(1.2)") ≡ Err 1
unfolding domain_of groups_at part_at group_at scalar_at range_at span_at number_at digits
one_dot = refl

one_number_alone : domain_of (integers int32) (codes "(1)") ≡ Err 1
unfolding domain_of groups_at part_at group_at scalar_at range_at span_at number_at digits
one_number_alone = refl

one_number_and_no_end : domain_of (integers int32) (codes "(1") ≡ Err 1
unfolding domain_of groups_at part_at group_at scalar_at range_at span_at number_at digits
one_number_and_no_end = refl

a_space_before_the_dots : domain_of (integers int32) (codes "(1 ..2)") ≡ Err 1
unfolding domain_of groups_at part_at group_at scalar_at range_at span_at number_at digits
a_space_before_the_dots = refl

-- A number has no leading zero, no plus, and one minus at most.
-- A body that accepts a leading zero reads this as the numbers from 1 to 2.
a_leading_zero : domain_of (integers int32) (codes "(01..2)") ≡ Err 1
unfolding domain_of groups_at part_at group_at scalar_at range_at span_at number_at digits
a_leading_zero = refl

minus_zero : domain_of (integers int32) (codes "(-0..2)") ≡ Err 1
unfolding domain_of groups_at part_at group_at scalar_at range_at span_at number_at digits
minus_zero = refl

a_minus_alone : domain_of (integers int32) (codes "(-..2)") ≡ Err 1
unfolding domain_of groups_at part_at group_at scalar_at range_at span_at number_at digits
a_minus_alone = refl

two_minuses : domain_of (integers int32) (codes "(--1..2)") ≡ Err 1
unfolding domain_of groups_at part_at group_at scalar_at range_at span_at number_at digits
two_minuses = refl

a_plus : domain_of (integers int32) (codes "(+1..2)") ≡ Err 1
unfolding domain_of groups_at part_at group_at scalar_at range_at span_at number_at digits
a_plus = refl

-- A number is one of its place's.
below_int32 : domain_of (integers int32) (codes "(-2147483649..2)") ≡ Err 1
unfolding domain_of groups_at part_at group_at scalar_at range_at span_at number_at digits
below_int32 = refl

-- A body that tests no range above 0 reads this and the next as domains.
above_int32 : domain_of (integers int32) (codes "(1..2147483648)") ≡ Err 4
unfolding domain_of groups_at part_at group_at scalar_at range_at span_at number_at digits
above_int32 = refl

far_above_int32 : domain_of (integers int32) (codes "(1..99999999999)") ≡ Err 4
unfolding domain_of groups_at part_at group_at scalar_at range_at span_at number_at digits
far_above_int32 = refl

above_128_bits : domain_of (integers int32) (codes "(1..340282366920938463463374607431768211457)") ≡ Err 4
unfolding domain_of groups_at part_at group_at scalar_at range_at span_at number_at digits
above_128_bits = refl

-- The second number has faults of its own.
no_second_number : domain_of (integers int32) (codes "(1..)") ≡ Err 4
unfolding domain_of groups_at part_at group_at scalar_at range_at span_at number_at digits
no_second_number = refl

three_dots : domain_of (integers int32) (codes "(1...2)") ≡ Err 4
unfolding domain_of groups_at part_at group_at scalar_at range_at span_at number_at digits
three_dots = refl

a_leading_zero_in_the_second : domain_of (integers int32) (codes "(1..02)") ≡ Err 4
unfolding domain_of groups_at part_at group_at scalar_at range_at span_at number_at digits
a_leading_zero_in_the_second = refl

a_star_for_the_second : domain_of (integers int32) (codes "(1..*)") ≡ Err 4
unfolding domain_of groups_at part_at group_at scalar_at range_at span_at number_at digits
a_star_for_the_second = refl

a_letter_for_the_second : domain_of (integers int32) (codes "(-10..x)") ≡ Err 6
unfolding domain_of groups_at part_at group_at scalar_at range_at span_at number_at digits
a_letter_for_the_second = refl

-- A group that isn't closed has its fault at its first byte.
more_after_the_star : domain_of (integers int32) (codes "(*5)") ≡ Err 0
unfolding domain_of groups_at part_at group_at scalar_at range_at span_at number_at digits
more_after_the_star = refl

an_open_star : domain_of (integers int32) (codes "(*") ≡ Err 0
unfolding domain_of groups_at part_at group_at scalar_at range_at span_at number_at digits
an_open_star = refl

two_stars : domain_of (integers int32) (codes "(**)") ≡ Err 0
unfolding domain_of groups_at part_at group_at scalar_at range_at span_at number_at digits
two_stars = refl

an_open_range : domain_of (integers int32) (codes "(1..2") ≡ Err 0
unfolding domain_of groups_at part_at group_at scalar_at range_at span_at number_at digits
an_open_range = refl

a_letter_after_the_range : domain_of (integers int32) (codes "(1..2x") ≡ Err 0
unfolding domain_of groups_at part_at group_at scalar_at range_at span_at number_at digits
a_letter_after_the_range = refl

three_numbers : domain_of (integers int32) (codes "(1..2..3)") ≡ Err 0
unfolding domain_of groups_at part_at group_at scalar_at range_at span_at number_at digits
three_numbers = refl

-- Nothing follows the last group. A body that accepts more reads these as domains.
one_group_too_many : domain_of (integers int32) (codes "(1..2)(3..4)") ≡ Err 6
unfolding domain_of groups_at part_at group_at scalar_at range_at span_at number_at digits
one_group_too_many = refl

a_space_after_the_group : domain_of (integers int32) (codes "(1..2) ") ≡ Err 6
unfolding domain_of groups_at part_at group_at scalar_at range_at span_at number_at digits
a_space_after_the_group = refl

a_dash_after_the_group : domain_of (integers int32) (codes "(*)-") ≡ Err 3
unfolding domain_of groups_at part_at group_at scalar_at range_at span_at number_at digits
a_dash_after_the_group = refl

-- There is a group for each parameter.
one_group_of_two : domain_of (integers int64_and_uint8) (codes "(1..2)") ≡ Err 6
unfolding domain_of groups_at part_at group_at scalar_at range_at span_at number_at digits
one_group_of_two = refl

one_star_of_two : domain_of (integers int64_and_uint8) (codes "(*)") ≡ Err 3
unfolding domain_of groups_at part_at group_at scalar_at range_at span_at number_at digits
one_star_of_two = refl

a_comma_between : domain_of (integers int64_and_uint8) (codes "(*),(*)") ≡ Err 3
unfolding domain_of groups_at part_at group_at scalar_at range_at span_at number_at digits
a_comma_between = refl

second_out_of_order : domain_of (integers int64_and_uint8) (codes "(1..2)(4..3)") ≡ Err 7
unfolding domain_of groups_at part_at group_at scalar_at range_at span_at number_at digits
second_out_of_order = refl

second_is_empty : domain_of (integers int64_and_uint8) (codes "(1..2)(") ≡ Err 7
unfolding domain_of groups_at part_at group_at scalar_at range_at span_at number_at digits
second_is_empty = refl

above_the_second_place : domain_of (integers int64_and_uint8) (codes "(0..1)(0..256)") ≡ Err 10
unfolding domain_of groups_at part_at group_at scalar_at range_at span_at number_at digits
above_the_second_place = refl

second_is_open : domain_of (integers int64_and_uint8) (codes "(0..1)(0..255") ≡ Err 6
unfolding domain_of groups_at part_at group_at scalar_at range_at span_at number_at digits
second_is_open = refl

more_after_the_second_star : domain_of (integers int64_and_uint8) (codes "(0..1)(*5)") ≡ Err 6
unfolding domain_of groups_at part_at group_at scalar_at range_at span_at number_at digits
more_after_the_second_star = refl

first_fault_of_two : domain_of (integers int64_and_uint8) (codes "(x)(y)") ≡ Err 1
unfolding domain_of groups_at part_at group_at scalar_at range_at span_at number_at digits
first_fault_of_two = refl

three_groups : domain_of (integers int64_and_uint8) (codes "(1..2)(3..4)(5..6)") ≡ Err 12
unfolding domain_of groups_at part_at group_at scalar_at range_at span_at number_at digits
three_groups = refl
