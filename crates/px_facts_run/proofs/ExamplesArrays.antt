-- Domains and arguments with arrays: their texts, the bytes of their first faults, their words and their tuples.
use Rattle.std.proofs.Common.{◌≡◌, List, [], ◌∷◌, ◌++◌, Bool, true, false, ℕ, Ok, Err, codes, pos, neg_ℤ, map, refl}
use Rattle.std.specs.Fmt.{digits}
use Rattle.std.specs.List.{flat_map}
use Rattle.std.specs.Prelude.{length}
use Rattle.px_program.specs.declared.program.Place.TheVariants.{Bool as Truth, I4, I8, U1}
use Rattle.px_domain.specs.declared.domain.Part.{Part}
use Rattle.px_domain.specs.declared.domain.Part.TheVariants.{Array, Scalar}
use Rattle.px_domain.specs.declared.given.Given.{Given}
use Rattle.px_domain.specs.declared.given.Given.TheVariants as givens
use Rattle.px_domain.specs.Args.{args_of, args_at, value_at, scalar_arg_at, array_arg_at, null_arg_at, listed_at, elements_at, element_at, word_at}
use Rattle.px_domain.specs.Domain.{least_words, ranges_of, size_of, tuple_of}
use Rattle.px_domain.specs.Givens.{whole_domain}
use Rattle.px_domain.specs.Grammar.{domain_of, groups_at, part_at, group_at, array_at, lengths_at, scalar_at, range_at, span_at, number_at}
use Rattle.px_domain.specs.Text.{args_text, domain_text}

-- an array of int32, and one of uint8 before an int64
abbrev int32s : List Given
int32s = givens.Array I4 ∷ []

abbrev bytes_and_int64 : List Given
bytes_and_int64 = givens.Array U1 ∷ givens.Integer I8 ∷ []

-- null, or up to two numbers from -5 to 5
abbrev two : List Part
two = Array I4 true 0 2 (neg_ℤ (pos 5)) (pos 5) ∷ []

-- THE TEXT OF A DOMAIN

read : domain_of int32s (codes "(?0..2x-5..5)") ≡ Ok two
unfolding domain_of groups_at part_at group_at array_at lengths_at range_at span_at number_at digits
read = refl

written : domain_text two ≡ codes "(?0..2x-5..5)"
unfolding digits
written = refl

never_null : domain_of int32s (codes "(1..1x*)") ≡ Ok (Array I4 false 1 1 (neg_ℤ (pos 2147483648)) (pos 2147483647) ∷ [])
unfolding domain_of groups_at part_at group_at array_at lengths_at range_at span_at number_at digits
never_null = refl

before_an_integer : domain_of bytes_and_int64 (codes "(0..1x0..1)(7..8)") ≡ Ok (Array U1 false 0 1 (pos 0) (pos 1) ∷ Scalar I8 (pos 7) (pos 8) ∷ [])
unfolding domain_of groups_at part_at group_at array_at lengths_at scalar_at range_at span_at number_at digits
before_an_integer = refl

-- The first fault: a length that is none is at its place, and so is one above 64.
a_letter_for_a_length : domain_of int32s (codes "(x..2x*)") ≡ Err 1
unfolding domain_of groups_at part_at group_at array_at lengths_at range_at span_at number_at digits
a_letter_for_a_length = refl

a_length_above_64 : domain_of int32s (codes "(0..65x*)") ≡ Err 4
unfolding domain_of groups_at part_at group_at array_at lengths_at range_at span_at number_at digits
a_length_above_64 = refl

a_negative_length : domain_of int32s (codes "(?-1..2x*)") ≡ Err 2
unfolding domain_of groups_at part_at group_at array_at lengths_at range_at span_at number_at digits
a_negative_length = refl

-- A domain has at most 256 words: each of the first three arrays has 65, its shape and 64 elements. A word too many is at its group's first byte.
abbrev four_arrays : List Given
four_arrays = givens.Array Truth ∷ givens.Array Truth ∷ givens.Array Truth ∷ givens.Array Truth ∷ []

abbrev up_to : ℕ → Part
up_to most = Array Truth false 0 most (pos 0) (pos 1)

words_256 : domain_of four_arrays (codes "(0..64x0..1)(0..64x0..1)(0..64x0..1)(0..60x0..1)") ≡ Ok (up_to 64 ∷ up_to 64 ∷ up_to 64 ∷ up_to 60 ∷ [])
unfolding domain_of groups_at part_at group_at array_at lengths_at range_at span_at number_at digits
words_256 = refl

words_257 : domain_of four_arrays (codes "(0..64x0..1)(0..64x0..1)(0..64x0..1)(0..61x0..1)") ≡ Err 36
unfolding domain_of groups_at part_at group_at array_at lengths_at range_at span_at number_at digits
words_257 = refl

-- Lengths out of order are at the first of them.
lengths_out_of_order : domain_of int32s (codes "(?3..2x*)") ≡ Err 2
unfolding domain_of groups_at part_at group_at array_at lengths_at range_at span_at number_at digits
lengths_out_of_order = refl

-- What else is missing of the lengths is at the group.
no_dots : domain_of int32s (codes "(?3x*)") ≡ Err 0
unfolding domain_of groups_at part_at group_at array_at lengths_at range_at span_at number_at digits
no_dots = refl

no_cross : domain_of int32s (codes "(0..3*)") ≡ Err 0
unfolding domain_of groups_at part_at group_at array_at lengths_at range_at span_at number_at digits
no_cross = refl

no_end : domain_of int32s (codes "(0..3x*") ≡ Err 0
unfolding domain_of groups_at part_at group_at array_at lengths_at range_at span_at number_at digits
no_end = refl

-- The range of the elements has its faults at its own places.
no_range : domain_of int32s (codes "(0..3x)") ≡ Err 6
unfolding domain_of groups_at part_at group_at array_at lengths_at range_at span_at number_at digits
no_range = refl

elements_out_of_order : domain_of int32s (codes "(0..3x5..4)") ≡ Err 6
unfolding domain_of groups_at part_at group_at array_at lengths_at range_at span_at number_at digits
elements_out_of_order = refl

-- Five arrays of 50 elements have 255 words, and a sixth one has too many: its group has the fault.
six : List Given
six = givens.Array I4 ∷ givens.Array I4 ∷ givens.Array I4 ∷ givens.Array I4 ∷ givens.Array I4 ∷ givens.Array I4 ∷ []

too_many_words : domain_of six (codes "(0..50x*)(0..50x*)(0..50x*)(0..50x*)(0..50x*)(0..50x*)") ≡ Err 45
unfolding six domain_of groups_at part_at group_at array_at lengths_at range_at span_at number_at digits
too_many_words = refl

-- THE DEFAULT

default : domain_text (whole_domain bytes_and_int64) ≡ codes "(?0..3x*)(*)"
unfolding digits
default = refl

-- WORDS

-- a word of the shape, and one for each of at most two elements
words_of_two : length (ranges_of two) ≡ 3
words_of_two = refl

-- four shapes: null, and the lengths 0 to 2; each of two elements has eleven numbers
size_of_two : size_of (ranges_of two) ≡ 484
size_of_two = refl

least_of_two : least_words two ≡ 0 ∷ 4294967291 ∷ 4294967291 ∷ []
least_of_two = refl

first_tuples : map (tuple_of (ranges_of two)) (0 ∷ 1 ∷ 11 ∷ 121 ∷ []) ≡ (0 ∷ 4294967291 ∷ 4294967291 ∷ []) ∷ (0 ∷ 4294967291 ∷ 4294967292 ∷ []) ∷ (0 ∷ 4294967292 ∷ 4294967291 ∷ []) ∷ (1 ∷ 4294967291 ∷ 4294967291 ∷ []) ∷ []
first_tuples = refl

-- ARGUMENTS

null_read : args_of two (codes "(null)") ≡ Ok (0 ∷ 4294967291 ∷ 4294967291 ∷ [])
unfolding args_of args_at value_at array_arg_at null_arg_at listed_at elements_at element_at word_at number_at digits
null_read = refl

empty_read : args_of two (codes "([])") ≡ Ok (1 ∷ 4294967291 ∷ 4294967291 ∷ [])
unfolding args_of args_at value_at array_arg_at null_arg_at listed_at elements_at element_at word_at number_at digits
empty_read = refl

-- elements past the length become their low ends
one_read : args_of two (codes "([3])") ≡ Ok (2 ∷ 3 ∷ 4294967291 ∷ [])
unfolding args_of args_at value_at array_arg_at null_arg_at listed_at elements_at element_at word_at number_at digits
one_read = refl

two_read : args_of two (codes "([3 -1])") ≡ Ok (3 ∷ 3 ∷ 4294967295 ∷ [])
unfolding args_of args_at value_at array_arg_at null_arg_at listed_at elements_at element_at word_at number_at digits
two_read = refl

-- what isn't in form, or not in the domain, is at its group
three_elements : args_of two (codes "([1 2 3])") ≡ Err 0
unfolding args_of args_at value_at array_arg_at null_arg_at listed_at elements_at element_at word_at number_at digits
three_elements = refl

an_element_outside : args_of two (codes "([6])") ≡ Err 0
unfolding args_of args_at value_at array_arg_at null_arg_at listed_at elements_at element_at word_at number_at digits
an_element_outside = refl

two_spaces : args_of two (codes "([1  2])") ≡ Err 0
unfolding args_of args_at value_at array_arg_at null_arg_at listed_at elements_at element_at word_at number_at digits
two_spaces = refl

more_behind : args_of two (codes "(null)(null)") ≡ Err 6
unfolding args_of args_at value_at array_arg_at null_arg_at listed_at elements_at element_at word_at number_at digits
more_behind = refl

nothing_there : args_of two (codes "") ≡ Err 0
unfolding args_of args_at value_at array_arg_at null_arg_at listed_at elements_at element_at word_at number_at digits
nothing_there = refl

written_null : args_text two (0 ∷ 0 ∷ 0 ∷ []) ≡ codes "(null)"
unfolding digits
written_null = refl

written_empty : args_text two (1 ∷ 0 ∷ 0 ∷ []) ≡ codes "([])"
unfolding digits
written_empty = refl

written_one : args_text two (2 ∷ 4294967295 ∷ 0 ∷ []) ≡ codes "([-1])"
unfolding digits
written_one = refl

written_two : args_text two (3 ∷ 1 ∷ 2 ∷ []) ≡ codes "([1 2])"
unfolding digits
written_two = refl
