-- What stood in a pool stands after an element was read or written at an index.
use Rattle.std.proofs.Common.{ℕ, suc, ◌+◌, ◌^◌, ◌<◌, ◌≤◌, Bool, List, [], ◌∷◌, length, Some, arith, lit<}
use Rattle.std.specs.List.{AllByRecursion}
use Rattle.px_words.specs.declared.Op.TheVariants.{Const, Eq, Ite}
use Rattle.px_words.specs.Operator.{bits_of}
use Rattle.px_cells.specs.Algebra.{Algebra, Keeps, Laws, Made}
use Rattle.px_cells.specs.Elements.{Stored, choice_at, selected, selected_from, stored, stored_from}
use Rattle.px_cells.specs.Slots.{IsSlotOf}
use Rattle.px_cells.specs.declared.elements.Widths.{Widths}
use Rattle.px_cells.specs.declared.slot.Slot.{Slot}
use Rattle.px_cells.specs.declared.slot.Slot.TheVariants.{Number, Null, Cell}
use Rattle.px_cells.proofs.Choosing.{in_width}

-- slots that stand in a pool stand in each that keeps what stood
pub slots_stay : {W : Type 0} (P Q : ℕ → W → Type 0) → ((bits : ℕ) (x : W) → P bits x → Q bits x) → (wide : Bool) (slots : List (Slot W))
    → AllByRecursion (IsSlotOf P (Some wide)) slots → AllByRecursion (IsSlotOf Q (Some wide)) slots
slots_stay P Q stay wide [] s = tt
slots_stay P Q stay wide (Number x ∷ slots) s = (stay (bits_of wide) x s.0, slots_stay P Q stay wide slots s.1)
slots_stay P Q stay wide (Null ∷ slots) s = absurd s.0
slots_stay P Q stay wide (Cell number ∷ slots) s = absurd s.0

-- the new pool is sound, the slots stand in it, and so does all that stood in the old one
pub record KeepsSlots {P W : Type 0} (IsSound : P → Type 0) (StandsIn : P → ℕ → W → Type 0) (old : P) (wide : Bool) (made : Stored P W) : Type 0 where
  pub pool : IsSound made.pool
  pub slots : AllByRecursion (IsSlotOf (StandsIn made.pool) (Some wide)) made.slots
  pub others : (bits : ℕ) (x : W) → StandsIn old bits x → StandsIn made.pool bits x

module _ {P W : Type 0} {IsSound : P → Type 0} {StandsIn : P → ℕ → W → Type 0} {a : Algebra P W} (laws : Laws IsSound StandsIn a) (widths : Widths) (index : W) where
  -- a choice stands where what it chooses from does
  pub choice_keeps : (k : ℕ) (x y : W) (pool : P) → k < 2 ^ 32 → IsSound pool → StandsIn pool (bits_of widths.index) index → StandsIn pool (bits_of widths.element) x → StandsIn pool (bits_of widths.element) y
      → Keeps IsSound StandsIn pool (bits_of widths.element) (choice_at a widths index k x y pool)
  choice_keeps k x y pool h sound i s t =
      let place : Keeps IsSound StandsIn pool (bits_of widths.index) (a.applied pool (Const widths.index k) []) = laws.keeps pool (Const widths.index k) [] (in_width widths.index k h) sound tt in
      let test = laws.keeps _ (Eq widths.index) (index ∷ (a.applied pool (Const widths.index k) []).scalar ∷ []) tt place.pool (place.others _ _ i, (place.result, tt)) in
      let choice = laws.keeps _ (Ite widths.element) (_ ∷ x ∷ y ∷ []) tt test.pool (test.result, (test.others _ _ (place.others _ _ s), (test.others _ _ (place.others _ _ t), tt))) in
      record { pool = choice.pool; result = choice.result; others = λ bits z stands. choice.others bits z (test.others bits z (place.others bits z stands)) }

  selected_from_keeps : (old : P) (k : ℕ) (slots : List (Slot W)) (found : Made P W) → k + length slots ≤ 2 ^ 32 → Keeps IsSound StandsIn old (bits_of widths.element) found
      → StandsIn found.pool (bits_of widths.index) index → AllByRecursion (IsSlotOf (StandsIn found.pool) (Some widths.element)) slots
      → Keeps IsSound StandsIn old (bits_of widths.element) (selected_from a widths index k slots found)
  selected_from_keeps old k [] found h kept i s = kept
  selected_from_keeps old k (Null ∷ slots) found h kept i s = absurd s.0
  selected_from_keeps old k (Cell number ∷ slots) found h kept i s = absurd s.0
  selected_from_keeps old k (Number x ∷ slots) found h kept i s =
      let choice = choice_keeps k x found.scalar found.pool (omega (arith, h)) kept.pool i s.0 kept.result in
      selected_from_keeps old (suc k) slots _ (omega (arith, h))
      (record { pool = choice.pool; result = choice.result; others = λ bits z stands. choice.others bits z (kept.others bits z stands) })
      (choice.others _ _ i) (slots_stay _ _ choice.others widths.element slots s.1)

  -- what is read stands in the new pool, and so does all that stood in the old one
  pub selected_keeps : (slots : List (Slot W)) (pool : P) → IsSound pool → StandsIn pool (bits_of widths.index) index → AllByRecursion (IsSlotOf (StandsIn pool) (Some widths.element)) slots → length slots ≤ 2 ^ 32
      → Keeps IsSound StandsIn pool (bits_of widths.element) (selected a widths index slots pool)
  selected_keeps slots pool sound i s h =
      let zero = laws.keeps pool (Const widths.element 0) [] (in_width widths.element 0 (lit< tt)) sound tt in
      selected_from_keeps pool 0 slots _ (omega (arith, h)) zero (zero.others _ _ i) (slots_stay _ _ zero.others widths.element slots s)

  stored_from_keeps : (value : W) (k : ℕ) (slots : List (Slot W)) (pool : P) → k + length slots ≤ 2 ^ 32 → IsSound pool → StandsIn pool (bits_of widths.index) index → StandsIn pool (bits_of widths.element) value
      → AllByRecursion (IsSlotOf (StandsIn pool) (Some widths.element)) slots → KeepsSlots IsSound StandsIn pool widths.element (stored_from a widths index value k slots pool)
  stored_from_keeps value k [] pool h sound i v s = record { pool = sound; slots = tt; others = λ bits z stands. stands }
  stored_from_keeps value k (Null ∷ slots) pool h sound i v s = absurd s.0
  stored_from_keeps value k (Cell number ∷ slots) pool h sound i v s = absurd s.0
  stored_from_keeps value k (Number x ∷ slots) pool h sound i v s =
      let choice = choice_keeps k value x pool (omega (arith, h)) sound i v s.0 in
      let rest = stored_from_keeps value (suc k) slots _ (omega (arith, h)) choice.pool (choice.others _ _ i) (choice.others _ _ v) (slots_stay _ _ choice.others widths.element slots s.1) in
      record { pool = rest.pool; slots = (rest.others _ _ choice.result, rest.slots); others = λ bits z stands. rest.others bits z (choice.others bits z stands) }

  -- the slots stand in the new pool, and so does all that stood in the old one
  pub stored_keeps : (value : W) (slots : List (Slot W)) (pool : P) → IsSound pool → StandsIn pool (bits_of widths.index) index → StandsIn pool (bits_of widths.element) value
      → AllByRecursion (IsSlotOf (StandsIn pool) (Some widths.element)) slots → length slots ≤ 2 ^ 32 → KeepsSlots IsSound StandsIn pool widths.element (stored a widths index value slots pool)
  stored_keeps value slots pool sound i v s h = stored_from_keeps value 0 slots pool (omega (arith, h)) sound i v s
