-- What an element at an index is, by its words.
use Rattle.std.proofs.Common.{◌≡◌, ℕ, zero, suc, ◌+◌, ◌%◌, ◌^◌, ◌<◌, ◌≤◌, ◌==◌, Bool, true, false, if◌then◌else◌, List, [], ◌∷◌, length, set, Some, refl, ap, ◌∙◌, arith, lit<}
use Rattle.std.proofs.lemmas.Bool.{eq-eqb, ne_eqb}
use Rattle.std.specs.List.{AllByRecursion, slice_get}
use Rattle.px_words.specs.declared.Op.TheVariants.{Const, Eq, Ite}
use Rattle.px_words.specs.Operator.{bits_of}
use Rattle.px_words.specs.Word.{truth, word}
use Rattle.px_cells.specs.Algebra.{Algebra, Laws, Made}
use Rattle.px_cells.specs.Elements.{Stored, behind_slot, choice_at, is_at, selected, selected_from, stored, stored_from, word_in}
use Rattle.px_cells.specs.Plain.{plain, plain_algebra, plain_laws, plain_word}
use Rattle.px_cells.specs.Slots.{IsSlotOf}
use Rattle.px_cells.specs.declared.plain.NoPool.{NoPool}
use Rattle.px_cells.specs.declared.plain.Plain.{Plain}
use Rattle.px_cells.specs.declared.elements.Widths.{Widths}
use Rattle.px_cells.specs.declared.slot.Slot.{Slot}
use Rattle.px_cells.specs.declared.slot.Slot.TheVariants.{Number, Null, Cell}

-- a number of an element lies in each width
pub in_width : (wide : Bool) (k : ℕ) → k < 2 ^ 32 → k < 2 ^ bits_of wide
in_width false k h = h
in_width true k h = omega (arith, h)

chosen_by : (b : Bool) (x y : ℕ) → (if truth b % 2 == 1 then x else y) ≡ (if b then x else y)
chosen_by true x y = refl
chosen_by false x y = refl

module _ {P W : Type 0} {IsSound : P → Type 0} {StandsIn : P → ℕ → W → Type 0} {a : Algebra P W} (laws : Laws IsSound StandsIn a) (widths : Widths) (index : W) where
  test_word : (k : ℕ) (pool : P) → k < 2 ^ 32 → a.word (is_at a widths index k pool).scalar ≡ truth (a.word index == k)
  unfolding word
  test_word k pool h =
      laws.word_applied _ (Eq widths.index) _ tt
      ∙ ap (λ n. truth (a.word index == n)) (laws.word_applied pool (Const widths.index k) [] (in_width widths.index k h))

  -- a choice has the word of the first scalar exactly where the index is k
  pub choice_word : (k : ℕ) (x y : W) (pool : P) → k < 2 ^ 32 → a.word (choice_at a widths index k x y pool).scalar ≡ (if a.word index == k then a.word x else a.word y)
  unfolding word
  choice_word k x y pool h =
      laws.word_applied _ (Ite widths.element) _ tt
      ∙ ap (λ n. if n % 2 == 1 then a.word x else a.word y) (test_word k pool h)
      ∙ chosen_by (a.word index == k) (a.word x) (a.word y)

  -- an index before all of these elements leaves what was found
  selected_before : (k : ℕ) (slots : List (Slot W)) (found : Made P W) → k + length slots ≤ 2 ^ 32 → a.word index < k
      → a.word (selected_from a widths index k slots found).scalar ≡ a.word found.scalar
  selected_before k [] found h i = refl
  selected_before k (Number x ∷ slots) found h i =
      selected_before (suc k) slots _ (omega (arith, h)) (omega (arith, i))
      ∙ choice_word k x found.scalar found.pool (omega (arith, h))
      ∙ ap (λ b. if b then a.word x else a.word found.scalar) (ne_eqb (a.word index) k (omega (arith, i)))
  selected_before k (Null ∷ slots) found h i = selected_before (suc k) slots found (omega (arith, h)) (omega (arith, i))
  selected_before k (Cell number ∷ slots) found h i = selected_before (suc k) slots found (omega (arith, h)) (omega (arith, i))

  selected_at : (j k : ℕ) (slots : List (Slot W)) (found : Made P W) → k + length slots ≤ 2 ^ 32 → a.word index ≡ j + k
      → a.word (selected_from a widths index k slots found).scalar ≡ word_in a.word (a.word found.scalar) (slice_get slots j)
  selected_at j k [] found h i = refl
  selected_at zero k (Number x ∷ slots) found h i =
      selected_before (suc k) slots _ (omega (arith, h)) (omega (arith, i))
      ∙ choice_word k x found.scalar found.pool (omega (arith, h))
      ∙ ap (λ b. if b then a.word x else a.word found.scalar) (eq-eqb (a.word index) k (omega (arith, i)))
  selected_at zero k (Null ∷ slots) found h i = selected_before (suc k) slots found (omega (arith, h)) (omega (arith, i))
  selected_at zero k (Cell number ∷ slots) found h i = selected_before (suc k) slots found (omega (arith, h)) (omega (arith, i))
  selected_at (suc j) k (Number x ∷ slots) found h i =
      selected_at j (suc k) slots _ (omega (arith, h)) (omega (arith, i))
      ∙ ap (λ w. word_in a.word w (slice_get slots j)) (choice_word k x found.scalar found.pool (omega (arith, h)) ∙ ap (λ b. if b then a.word x else a.word found.scalar) (ne_eqb (a.word index) k (omega (arith, i))))
  selected_at (suc j) k (Null ∷ slots) found h i = selected_at j (suc k) slots found (omega (arith, h)) (omega (arith, i))
  selected_at (suc j) k (Cell number ∷ slots) found h i = selected_at j (suc k) slots found (omega (arith, h)) (omega (arith, i))

  -- what is read has the word of the element at the index, and 0 past the last
  pub selected_word : (slots : List (Slot W)) (pool : P) → length slots ≤ 2 ^ 32
      → a.word (selected a widths index slots pool).scalar ≡ word_in a.word 0 (slice_get slots (a.word index))
  unfolding word
  selected_word slots pool h =
      selected_at (a.word index) 0 slots _ (omega (arith, h)) (omega arith)
      ∙ ap (λ w. word_in a.word w (slice_get slots (a.word index))) (laws.word_applied pool (Const widths.element 0) [] (in_width widths.element 0 (lit< tt)))

-- for plain words what is read is the element itself
pub selected_plain : (widths : Widths) (index : Plain) (slots : List (Slot Plain)) (pool : NoPool) → length slots ≤ 2 ^ 32
    → selected plain_algebra widths index slots pool ≡ record { scalar = plain (word_in plain_word 0 (slice_get slots index.word)); pool = pool }
selected_plain widths index slots pool h = ap (λ w. record { scalar = plain w; pool = pool }) (selected_word plain_laws widths index slots pool h)

module _ (widths : Widths) (index value : Plain) where
  stored_before : (k : ℕ) (slots : List (Slot Plain)) (pool : NoPool) → k + length slots ≤ 2 ^ 32 → index.word < k
      → stored_from plain_algebra widths index value k slots pool ≡ record { slots = slots; pool = pool }
  stored_before k [] pool h i = refl
  stored_before k (Number x ∷ slots) pool h i =
      ap (λ (rest : Stored NoPool Plain). behind_slot (Number (choice_at plain_algebra widths index k value x pool).scalar) rest) (stored_before (suc k) slots pool (omega (arith, h)) (omega (arith, i)))
      ∙ ap (λ w. record { slots = Number (plain w) ∷ slots; pool = pool }) (choice_word plain_laws widths index k value x pool (omega (arith, h)) ∙ ap (λ b. if b then value.word else x.word) (ne_eqb index.word k (omega (arith, i))))
  stored_before k (Null ∷ slots) pool h i = ap (λ (rest : Stored NoPool Plain). behind_slot Null rest) (stored_before (suc k) slots pool (omega (arith, h)) (omega (arith, i)))
  stored_before k (Cell number ∷ slots) pool h i = ap (λ (rest : Stored NoPool Plain). behind_slot (Cell number) rest) (stored_before (suc k) slots pool (omega (arith, h)) (omega (arith, i)))

  stored_at : (IsOf : ℕ → Plain → Type 0) (wide : Bool) (j k : ℕ) (slots : List (Slot Plain)) (pool : NoPool) → AllByRecursion (IsSlotOf IsOf (Some wide)) slots → k + length slots ≤ 2 ^ 32 → index.word ≡ j + k
      → stored_from plain_algebra widths index value k slots pool ≡ record { slots = set slots j (Number value); pool = pool }
  stored_at IsOf wide j k [] pool s h i = refl
  stored_at IsOf wide j k (Null ∷ slots) pool s h i = absurd s.0
  stored_at IsOf wide j k (Cell number ∷ slots) pool s h i = absurd s.0
  stored_at IsOf wide zero k (Number x ∷ slots) pool s h i =
      ap (λ (rest : Stored NoPool Plain). behind_slot (Number (choice_at plain_algebra widths index k value x pool).scalar) rest) (stored_before (suc k) slots pool (omega (arith, h)) (omega (arith, i)))
      ∙ ap (λ w. record { slots = Number (plain w) ∷ slots; pool = pool }) (choice_word plain_laws widths index k value x pool (omega (arith, h)) ∙ ap (λ b. if b then value.word else x.word) (eq-eqb index.word k (omega (arith, i))))
  stored_at IsOf wide (suc j) k (Number x ∷ slots) pool s h i =
      ap (λ (rest : Stored NoPool Plain). behind_slot (Number (choice_at plain_algebra widths index k value x pool).scalar) rest) (stored_at IsOf wide j (suc k) slots pool s.1 (omega (arith, h)) (omega (arith, i)))
      ∙ ap (λ w. record { slots = Number (plain w) ∷ set slots j (Number value); pool = pool }) (choice_word plain_laws widths index k value x pool (omega (arith, h)) ∙ ap (λ b. if b then value.word else x.word) (ne_eqb index.word k (omega (arith, i))))

  -- for plain words a write replaces the element at the index
  pub stored_plain : (IsOf : ℕ → Plain → Type 0) (wide : Bool) (slots : List (Slot Plain)) (pool : NoPool) → AllByRecursion (IsSlotOf IsOf (Some wide)) slots → length slots ≤ 2 ^ 32
      → stored plain_algebra widths index value slots pool ≡ record { slots = set slots index.word (Number value); pool = pool }
  stored_plain IsOf wide slots pool s h = stored_at IsOf wide index.word 0 slots pool s (omega (arith, h)) (omega arith)
