-- Plain words as scalars: what an operator gives is a scalar with the operator's value.
use Rattle.std.proofs.Common.{◌≡◌, List, [], ◌∷◌, ℕ, true, false, refl}
use Rattle.px_words.specs.declared.Op.TheVariants.{Const, Not, Neg, Sub, Ite}
use Rattle.px_words.specs.Word.{word}
use Rattle.px_cells.specs.Algebra.{Made}
use Rattle.px_cells.specs.Elements.{Stored, selected, stored}
use Rattle.px_cells.specs.Plain.{plain, plain_algebra}
use Rattle.px_cells.specs.declared.plain.NoPool.{NoPool}
use Rattle.px_cells.specs.declared.elements.Widths.{Widths}
use Rattle.px_cells.specs.declared.plain.Plain.{Plain}
use Rattle.px_cells.specs.declared.slot.Slot.{Slot}
use Rattle.px_cells.specs.declared.slot.Slot.TheVariants.{Cell, Null, Number}

abbrev pool : NoPool
pool = record {}

-- a scalar of a word, in the pool
abbrev gives : ℕ → Made NoPool Plain
gives n = record { scalar = plain n; pool = pool }

constant : plain_algebra.applied pool (Const false 0xffff_ffff) [] ≡ gives 0xffff_ffff
unfolding word
constant = refl

complement : plain_algebra.applied pool (Not false) (plain 1 ∷ []) ≡ gives 0xffff_fffe
unfolding word
complement = refl

-- A body that keeps the first operand gives 1, and so does one that exchanges the operands.
difference : plain_algebra.applied pool (Sub false) (plain 1 ∷ plain 2 ∷ []) ≡ gives 0xffff_ffff
unfolding word
difference = refl

choice : plain_algebra.applied pool (Ite false) (plain 1 ∷ plain 2 ∷ plain 1 ∷ []) ≡ gives 2
unfolding word
choice = refl

-- A body that keeps the low half of the value gives 0xffff_ffff.
wide_negation : plain_algebra.applied pool (Neg true) (plain 1 ∷ []) ≡ gives 0xffff_ffff_ffff_ffff
unfolding word
wide_negation = refl

-- The word of a scalar is all of it.
wide_word : plain_algebra.word (plain 0x1_0000_0000) ≡ 0x1_0000_0000
unfolding word
wide_word = refl

-- ELEMENTS AT AN INDEX

abbrev narrow : Widths
narrow = record { index = false; element = false }

abbrev three : List (Slot Plain)
three = Number (plain 5) ∷ Number (plain 7) ∷ Number (plain 9) ∷ []

abbrev slots : List (Slot Plain) → Stored NoPool Plain
slots numbers = record { slots = numbers; pool = pool }

reads_the_first : selected plain_algebra narrow (plain 0) three pool ≡ gives 5
unfolding word
reads_the_first = refl

-- A body that begins with the first element, and not with 0, reads the same; one that stops before the last doesn't.
reads_the_last : selected plain_algebra narrow (plain 2) three pool ≡ gives 9
unfolding word
reads_the_last = refl

reads_0_past_the_last : selected plain_algebra narrow (plain 3) three pool ≡ gives 0
unfolding word
reads_0_past_the_last = refl

-- A body that compares the low half of a wide index reads 5.
reads_no_element_at_a_high_index : selected plain_algebra (record { index = true; element = false }) (plain 0x1_0000_0000) three pool ≡ gives 0
unfolding word
reads_no_element_at_a_high_index = refl

reads_wide_elements : selected plain_algebra (record { index = true; element = true }) (plain 1) (Number (plain 1) ∷ Number (plain 0x8000_0000_0000_0000) ∷ []) pool ≡ gives 0x8000_0000_0000_0000
unfolding word
reads_wide_elements = refl

writes_one : stored plain_algebra narrow (plain 1) (plain 8) three pool ≡ slots (Number (plain 5) ∷ Number (plain 8) ∷ Number (plain 9) ∷ [])
unfolding word
writes_one = refl

writes_none_past_the_last : stored plain_algebra narrow (plain 3) (plain 8) three pool ≡ slots three
unfolding word
writes_none_past_the_last = refl

-- What is no number stays, and has a place of its own.
passes_over_references : stored plain_algebra narrow (plain 2) (plain 8) (Null ∷ Cell 4 ∷ Number (plain 5) ∷ []) pool ≡ slots (Null ∷ Cell 4 ∷ Number (plain 8) ∷ [])
unfolding word
passes_over_references = refl
