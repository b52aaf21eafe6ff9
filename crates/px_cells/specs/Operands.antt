-- What is true of operands, of their words; and which operators have none.
use Rattle.std.proofs.Common.{ℕ, ◌^◌, ◌<◌, List, [], ◌∷◌}
use Rattle.std.specs.Prelude.{map, slice_index}
use Rattle.px_words.specs.declared.Op.{Op}
use Rattle.px_words.specs.declared.Op.TheVariants.{Const}
use Rattle.px_words.specs.Operator.{AreOperands, LieIn, bits_of}

-- a constant, whose pattern lies in its width
abbrev pub IsConstant : Op → Type 0
IsConstant (Const wide pattern) = pattern < 2 ^ bits_of wide
IsConstant _ = ⊥

-- the words of scalars of these widths lie in them
pub words_lie_in : {W : Type 0} (word : W → ℕ) (IsOf : ℕ → W → Type 0) → ((bits : ℕ) (x : W) → IsOf bits x → word x < 2 ^ bits)
    → (widths : List ℕ) (xs : List W) → AreOperands IsOf widths xs
    → LieIn widths (slice_index (map word xs) 0) (slice_index (map word xs) 1) (slice_index (map word xs) 2)
words_lie_in word IsOf lies [] xs h = tt
words_lie_in word IsOf lies (u ∷ widths) [] h = absurd h
words_lie_in word IsOf lies (u ∷ []) (x ∷ xs) h = lies u x h.0
words_lie_in word IsOf lies (u ∷ v ∷ widths) (x ∷ []) h = absurd h.1
words_lie_in word IsOf lies (u ∷ v ∷ []) (x ∷ y ∷ xs) h = (lies u x h.0, lies v y h.1.0)
words_lie_in word IsOf lies (u ∷ v ∷ w ∷ widths) (x ∷ y ∷ []) h = absurd h.1.1
words_lie_in word IsOf lies (u ∷ v ∷ w ∷ widths) (x ∷ y ∷ z ∷ xs) h = (lies u x h.0, lies v y h.1.0, lies w z h.1.1.0)
