-- Which words are in a domain: one for each parameter, in its range.
use Rattle.std.proofs.Common.{List, [], ◌∷◌, ℕ, pos, neg_ℤ, arith}
use Rattle.std.specs.List.{AllByRecursion}
use Rattle.px_program.specs.declared.program.Place.TheVariants as places
use Rattle.px_domain.specs.declared.domain.Part.{Part}
use Rattle.px_domain.specs.declared.domain.Part.TheVariants.{Scalar}
use Rattle.px_domain.specs.Domain.{InDomain}
use Rattle.px_facts_run.proofs.Held.{all_in_domain}

-- from -3 to -2, and from 0 to 1
abbrev two : List Part
two = Scalar places.I1 (neg_ℤ (pos 3)) (neg_ℤ (pos 2)) ∷ Scalar places.Bool (pos 0) (pos 1) ∷ []

-- Words at the ends are in it.
abbrev words_at_ends : List (List ℕ)
words_at_ends = (4294967293 ∷ 0 ∷ []) ∷ (4294967294 ∷ 1 ∷ []) ∷ []

at_the_ends : AllByRecursion (InDomain two) words_at_ends
at_the_ends = all_in_domain two words_at_ends tt

-- Words next to the ends aren't.
below_the_low_end : InDomain two (4294967292 ∷ 0 ∷ []) → ⊥
below_the_low_end h = h.0.1.le

-- A body that goes one beyond the high end holds these two.
above_the_high_end : InDomain two (4294967295 ∷ 0 ∷ []) → ⊥
above_the_high_end h = h.0.2.le

above_the_second_high_end : InDomain two (4294967293 ∷ 2 ∷ []) → ⊥
above_the_second_high_end h = h.1.0.2.le

-- The sign of a narrow number is in all 32 bits of its word, and in no more.
sign_in_8_bits : InDomain two (253 ∷ 0 ∷ []) → ⊥
sign_in_8_bits h = h.0.2.le

sign_in_64_bits : InDomain two (18446744073709551613 ∷ 0 ∷ []) → ⊥
sign_in_64_bits h = absurd (omega (arith, h.0.0))

truth_in_33_bits : InDomain two (4294967293 ∷ 4294967296 ∷ []) → ⊥
truth_in_33_bits h = absurd (omega (arith, h.1.0.0))

-- There are as many words as parameters.
a_word_too_few : InDomain two (4294967293 ∷ []) → ⊥
a_word_too_few h = h.1

a_word_too_many : InDomain two (4294967293 ∷ 0 ∷ 0 ∷ []) → ⊥
a_word_too_many h = h.1.1

no_words : InDomain two [] → ⊥
no_words h = h
