-- An element at an index that is a scalar itself: it is read and written by a choice for each element, in order, so that
-- what is read, and what each element then is, is right for all words of the index.
use Rattle.std.specs.Prelude.{ℕ, suc, List, [], ◌∷◌, Option, Some, None}
use Rattle.px_words.specs.declared.Op.TheVariants.{Const, Eq, Ite}
use Rattle.px_cells.specs.Algebra.{Algebra, Made}
use Rattle.px_cells.specs.declared.elements.Widths.{Widths}
use Rattle.px_cells.specs.declared.slot.Slot.{Slot}
use Rattle.px_cells.specs.declared.slot.Slot.TheVariants.{Number, Null, Cell}

-- the slots of a cell, and the pool after they were made
pub record Stored (P W : Type 0) : Type 0 where
  pub slots : List (Slot W)
  pub pool : P

-- behind a slot
abbrev pub behind_slot : {P W : Type 0} → Slot W → Stored P W → Stored P W
behind_slot slot rest = record { slots = slot ∷ rest.slots; pool = rest.pool }

-- the word of a number, and else another one
abbrev pub word_in : {W : Type 0} → (W → ℕ) → ℕ → Option (Slot W) → ℕ
word_in word other None = other
word_in word other (Some (Number x)) = word x
word_in word other (Some Null) = other
word_in word other (Some (Cell number)) = other

module _ {P W : Type 0} (a : Algebra P W) (widths : Widths) (index : W) where
  -- 1 where the index is the number k, and else 0
  abbrev pub is_at : ℕ → P → Made P W
  is_at k pool = let place = a.applied pool (Const widths.index k) [] in a.applied place.pool (Eq widths.index) (index ∷ place.scalar ∷ [])

  -- the first scalar where a test holds, and else the second
  abbrev pub either : Made P W → W → W → Made P W
  either test x y = a.applied test.pool (Ite widths.element) (test.scalar ∷ x ∷ y ∷ [])

  -- the first scalar where the index is the number k, and else the second
  abbrev pub choice_at : ℕ → W → W → P → Made P W
  choice_at k x y pool = either (is_at k pool) x y

  -- the element at the index among those from the k-th on, and else what was found before
  abbrev pub selected_from : ℕ → List (Slot W) → Made P W → Made P W
  selected_from k [] found = found
  selected_from k (Number x ∷ slots) found = selected_from (suc k) slots (choice_at k x found.scalar found.pool)
  selected_from k (Null ∷ slots) found = selected_from (suc k) slots found
  selected_from k (Cell number ∷ slots) found = selected_from (suc k) slots found

  -- the number at the index among the slots, and 0 past the last
  abbrev pub selected : List (Slot W) → P → Made P W
  selected slots pool = selected_from 0 slots (a.applied pool (Const widths.element 0) [])

  -- the slots from the k-th on, with a value in place of the number at the index
  abbrev pub stored_from : W → ℕ → List (Slot W) → P → Stored P W
  stored_from value k [] pool = record { slots = []; pool = pool }
  stored_from value k (Number x ∷ slots) pool = let made = choice_at k value x pool in behind_slot (Number made.scalar) (stored_from value (suc k) slots made.pool)
  stored_from value k (Null ∷ slots) pool = behind_slot Null (stored_from value (suc k) slots pool)
  stored_from value k (Cell number ∷ slots) pool = behind_slot (Cell number) (stored_from value (suc k) slots pool)

  -- the slots with a value in place of the number at the index, and as they were where the index is past the last
  abbrev pub stored : W → List (Slot W) → P → Stored P W
  stored value slots pool = stored_from value 0 slots pool
