-- Damaged sections and clauses after a body, each with the first fault and the byte at which it is.
use Rattle.std.proofs.Common.{◌≡◌, ℕ, List, [], ◌∷◌, ◌++◌, Err, refl}
use Rattle.px_code.specs.Body.{body_of}
use Rattle.px_code.specs.declared.body.BodyKind.TheVariants.{BadClause, Cut}
use Rattle.px_facts_load.proofs.BodyWords.{parts}

-- SECTIONS

-- a body whose code is one return, with the first section at 16
abbrev return : List ℕ
return = 0x0B ∷ 0x30 ∷ 8 ∷ 0 ∷ 1 ∷ 0 ∷ 0 ∷ 0 ∷ 0 ∷ 0 ∷ 0 ∷ 0 ∷ 0x2A ∷ 0x00 ∷ 0x00 ∷ 0x00 ∷ []

no_section : body_of return ≡ Err (Cut, 16)
unfolding parts
no_section = refl

three_bytes_of_a_section : body_of (return ++ 0x01 ∷ 16 ∷ 0 ∷ []) ≡ Err (Cut, 19)
unfolding parts
three_bytes_of_a_section = refl

a_clause_that_is_missing : body_of (return ++ 0x01 ∷ 16 ∷ 0 ∷ 0 ∷ []) ≡ Err (Cut, 20)
unfolding parts
a_clause_that_is_missing = refl

eleven_bytes_of_a_clause : body_of (return ++ 0x01 ∷ 16 ∷ 0 ∷ 0 ∷ 0 ∷ 0 ∷ 0 ∷ 0 ∷ 1 ∷ 0 ∷ 0 ∷ 1 ∷ 0 ∷ 0 ∷ 0 ∷ []) ≡ Err (Cut, 31)
unfolding parts
eleven_bytes_of_a_clause = refl

a_clause_of_an_empty_range : body_of (return ++ 0x01 ∷ 16 ∷ 0 ∷ 0 ∷ 0 ∷ 0 ∷ 0 ∷ 0 ∷ 0 ∷ 0 ∷ 0 ∷ 1 ∷ 0 ∷ 0 ∷ 0 ∷ 0 ∷ []) ≡ Err (BadClause, 20)
unfolding parts
a_clause_of_an_empty_range = refl

twenty_three_bytes_of_a_fat_clause : body_of (return ++ 0x41 ∷ 28 ∷ 0 ∷ 0
    ∷ 0 ∷ 0 ∷ 0 ∷ 0 ∷ 0 ∷ 0 ∷ 0 ∷ 0 ∷ 1 ∷ 0 ∷ 0 ∷ 0 ∷ 0 ∷ 0 ∷ 0 ∷ 0 ∷ 1 ∷ 0 ∷ 0 ∷ 0 ∷ 0 ∷ 0 ∷ 0 ∷ []) ≡ Err (Cut, 43)
unfolding parts
twenty_three_bytes_of_a_fat_clause = refl

-- the size of a fat section has three bytes
a_fat_section_of_many_clauses : body_of (return ++ 0x41 ∷ 28 ∷ 0 ∷ 1
    ∷ 0 ∷ 0 ∷ 0 ∷ 0 ∷ 0 ∷ 0 ∷ 0 ∷ 0 ∷ 1 ∷ 0 ∷ 0 ∷ 0 ∷ 0 ∷ 0 ∷ 0 ∷ 0 ∷ 1 ∷ 0 ∷ 0 ∷ 0 ∷ 0 ∷ 0 ∷ 0 ∷ 0 ∷ []) ≡ Err (Cut, 44)
unfolding parts
a_fat_section_of_many_clauses = refl

no_section_after_another : body_of (return ++ 0x80 ∷ 4 ∷ 0 ∷ 0 ∷ []) ≡ Err (Cut, 20)
unfolding parts
no_section_after_another = refl

no_section_after_one_of_eight_bytes : body_of (return ++ 0x80 ∷ 8 ∷ 0 ∷ 0 ∷ 0 ∷ 0 ∷ 0 ∷ 0 ∷ 0 ∷ []) ≡ Err (Cut, 25)
unfolding parts
no_section_after_one_of_eight_bytes = refl

-- it has the four bytes that say so
a_section_that_says_it_has_no_bytes : body_of (return ++ 0x80 ∷ 0 ∷ 0 ∷ 0
    ∷ 1 ∷ 16 ∷ 0 ∷ 0
    ∷ 0 ∷ 0 ∷ 0 ∷ 0 ∷ 0 ∷ 0 ∷ 0 ∷ 0 ∷ 0 ∷ 0 ∷ 0 ∷ 0 ∷ []) ≡ Err (BadClause, 24)
unfolding parts
a_section_that_says_it_has_no_bytes = refl

-- the next one begins at a multiple of 4
a_section_of_five_bytes : body_of (return ++ 0x80 ∷ 5 ∷ 0 ∷ 0 ∷ 0 ∷ 0 ∷ 0 ∷ 0
    ∷ 1 ∷ 16 ∷ 0 ∷ 0
    ∷ 0 ∷ 0 ∷ 0 ∷ 0 ∷ 0 ∷ 0 ∷ 0 ∷ 0 ∷ 0 ∷ 0 ∷ 0 ∷ 0 ∷ []) ≡ Err (BadClause, 28)
unfolding parts
a_section_of_five_bytes = refl

half_a_section_after_clauses : body_of (return ++ 0x81 ∷ 16 ∷ 0 ∷ 0
    ∷ 0 ∷ 0 ∷ 0 ∷ 0 ∷ 1 ∷ 0 ∷ 0 ∷ 1 ∷ 0 ∷ 0 ∷ 0 ∷ 0
    ∷ 2 ∷ 4 ∷ 0 ∷ []) ≡ Err (Cut, 35)
unfolding parts
half_a_section_after_clauses = refl

-- CLAUSES, after a body whose instructions start at 0 to 4, 6, 7, and 9 to 13

-- fourteen bytes of code, with the first section at 28, and so the first clause at 32
abbrev guarded : List ℕ
guarded =
    0x0B ∷ 0x30 ∷ 2 ∷ 0 ∷ 14 ∷ 0 ∷ 0 ∷ 0 ∷ 0 ∷ 0 ∷ 0 ∷ 0
    ∷ 0x17 ∷ 0x02 ∷ 0x5B ∷ 0x26 ∷ 0xDE ∷ 0x06 ∷ 0x02 ∷ 0x2D ∷ 0x02 ∷ 0x14 ∷ 0x7A ∷ 0xDC ∷ 0x16 ∷ 0x2A ∷ 0 ∷ 0 ∷ []

of_kind_3 : body_of (guarded ++ 0x01 ∷ 16 ∷ 0 ∷ 0 ∷ 3 ∷ 0 ∷ 0 ∷ 0 ∷ 6 ∷ 6 ∷ 0 ∷ 6 ∷ 0 ∷ 0 ∷ 0 ∷ 0 ∷ []) ≡ Err (BadClause, 32)
unfolding parts
of_kind_3 = refl

of_kind_8 : body_of (guarded ++ 0x01 ∷ 16 ∷ 0 ∷ 0 ∷ 8 ∷ 0 ∷ 0 ∷ 0 ∷ 6 ∷ 6 ∷ 0 ∷ 6 ∷ 0 ∷ 0 ∷ 0 ∷ 0 ∷ []) ≡ Err (BadClause, 32)
unfolding parts
of_kind_8 = refl

from_the_middle_of_an_instruction : body_of (guarded ++ 0x01 ∷ 16 ∷ 0 ∷ 0 ∷ 2 ∷ 0 ∷ 5 ∷ 0 ∷ 1 ∷ 6 ∷ 0 ∷ 6 ∷ 0 ∷ 0 ∷ 0 ∷ 0 ∷ []) ≡ Err (BadClause, 32)
unfolding parts
from_the_middle_of_an_instruction = refl

to_the_middle_of_an_instruction : body_of (guarded ++ 0x01 ∷ 16 ∷ 0 ∷ 0 ∷ 2 ∷ 0 ∷ 0 ∷ 0 ∷ 5 ∷ 6 ∷ 0 ∷ 6 ∷ 0 ∷ 0 ∷ 0 ∷ 0 ∷ []) ≡ Err (BadClause, 32)
unfolding parts
to_the_middle_of_an_instruction = refl

of_an_empty_range : body_of (guarded ++ 0x01 ∷ 16 ∷ 0 ∷ 0 ∷ 2 ∷ 0 ∷ 0 ∷ 0 ∷ 0 ∷ 6 ∷ 0 ∷ 6 ∷ 0 ∷ 0 ∷ 0 ∷ 0 ∷ []) ≡ Err (BadClause, 32)
unfolding parts
of_an_empty_range = refl

handled_from_the_middle_of_an_instruction : body_of (guarded ++ 0x01 ∷ 16 ∷ 0 ∷ 0 ∷ 2 ∷ 0 ∷ 0 ∷ 0 ∷ 6 ∷ 8 ∷ 0 ∷ 1 ∷ 0 ∷ 0 ∷ 0 ∷ 0 ∷ []) ≡
    Err (BadClause, 32)
unfolding parts
handled_from_the_middle_of_an_instruction = refl

handled_to_the_middle_of_an_instruction : body_of (guarded ++ 0x01 ∷ 16 ∷ 0 ∷ 0 ∷ 2 ∷ 0 ∷ 0 ∷ 0 ∷ 6 ∷ 6 ∷ 0 ∷ 2 ∷ 0 ∷ 0 ∷ 0 ∷ 0 ∷ []) ≡
    Err (BadClause, 32)
unfolding parts
handled_to_the_middle_of_an_instruction = refl

handled_by_an_empty_range : body_of (guarded ++ 0x01 ∷ 16 ∷ 0 ∷ 0 ∷ 2 ∷ 0 ∷ 0 ∷ 0 ∷ 6 ∷ 6 ∷ 0 ∷ 0 ∷ 0 ∷ 0 ∷ 0 ∷ 0 ∷ []) ≡ Err (BadClause, 32)
unfolding parts
handled_by_an_empty_range = refl

handled_past_the_end : body_of (guarded ++ 0x01 ∷ 16 ∷ 0 ∷ 0 ∷ 2 ∷ 0 ∷ 0 ∷ 0 ∷ 6 ∷ 6 ∷ 0 ∷ 9 ∷ 0 ∷ 0 ∷ 0 ∷ 0 ∷ []) ≡ Err (BadClause, 32)
unfolding parts
handled_past_the_end = refl

handled_from_after_the_end : body_of (guarded ++ 0x01 ∷ 16 ∷ 0 ∷ 0 ∷ 2 ∷ 0 ∷ 0 ∷ 0 ∷ 6 ∷ 6 ∷ 1 ∷ 6 ∷ 0 ∷ 0 ∷ 0 ∷ 0 ∷ []) ≡ Err (BadClause, 32)
unfolding parts
handled_from_after_the_end = refl

fat_of_a_kind_of_four_bytes : body_of (guarded ++ 0x41 ∷ 28 ∷ 0 ∷ 0
    ∷ 0 ∷ 0 ∷ 1 ∷ 0 ∷ 0 ∷ 0 ∷ 0 ∷ 0 ∷ 6 ∷ 0 ∷ 0 ∷ 0 ∷ 6 ∷ 0 ∷ 0 ∷ 0 ∷ 6 ∷ 0 ∷ 0 ∷ 0 ∷ 0 ∷ 0 ∷ 0 ∷ 0 ∷ []) ≡ Err (BadClause, 32)
unfolding parts
fat_of_a_kind_of_four_bytes = refl

-- an end of a range does not come back to 0
fat_with_a_range_past_all_offsets : body_of (guarded ++ 0x41 ∷ 28 ∷ 0 ∷ 0
    ∷ 0 ∷ 0 ∷ 0 ∷ 0 ∷ 1 ∷ 0 ∷ 0 ∷ 0 ∷ 0xFF ∷ 0xFF ∷ 0xFF ∷ 0xFF ∷ 6 ∷ 0 ∷ 0 ∷ 0 ∷ 6 ∷ 0 ∷ 0 ∷ 0 ∷ 0 ∷ 0 ∷ 0 ∷ 0 ∷ []) ≡ Err (BadClause, 32)
unfolding parts
fat_with_a_range_past_all_offsets = refl

the_second_of_two : body_of (guarded ++ 0x01 ∷ 28 ∷ 0 ∷ 0
    ∷ 2 ∷ 0 ∷ 0 ∷ 0 ∷ 6 ∷ 6 ∷ 0 ∷ 6 ∷ 0 ∷ 0 ∷ 0 ∷ 0
    ∷ 2 ∷ 0 ∷ 0 ∷ 0 ∷ 6 ∷ 6 ∷ 0 ∷ 2 ∷ 0 ∷ 0 ∷ 0 ∷ 0 ∷ []) ≡ Err (BadClause, 44)
unfolding parts
the_second_of_two = refl

the_first_before_a_cut_second : body_of (guarded ++ 0x01 ∷ 28 ∷ 0 ∷ 0
    ∷ 7 ∷ 0 ∷ 0 ∷ 0 ∷ 6 ∷ 6 ∷ 0 ∷ 6 ∷ 0 ∷ 0 ∷ 0 ∷ 0
    ∷ 2 ∷ 0 ∷ 0 ∷ 0 ∷ []) ≡ Err (BadClause, 32)
unfolding parts
the_first_before_a_cut_second = refl
