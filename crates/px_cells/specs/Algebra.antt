-- What the table of instructions is read in: scalars with a word each, and the pool that the rest of them stands in.
use Rattle.std.specs.Prelude.{◌≡◌, ℕ, ◌^◌, ◌<◌, List, map}
use Rattle.px_words.specs.declared.Op.{Op}
use Rattle.px_words.specs.Operator.{AreOperands, IsOperator, result_width, widths_of}
use Rattle.px_words.specs.Word.{word_of}

-- a scalar, and the pool after it was made
pub record Made (P W : Type 0) : Type 0 where
  pub scalar : W
  pub pool : P

pub record Algebra (P W : Type 0) : Type 0 where
  -- what an operator gives of operands that stand in the pool; a constant has none
  pub applied : P → Op → List W → Made P W
  -- the word of a scalar
  pub word : W → ℕ

-- The new pool is sound, the scalar stands in it at its width, and so does all that stood in the old one.
pub record Keeps {P W : Type 0} (IsSound : P → Type 0) (StandsIn : P → ℕ → W → Type 0) (old : P) (bits : ℕ) (made : Made P W) : Type 0 where
  pub pool : IsSound made.pool
  pub result : StandsIn made.pool bits made.scalar
  pub others : (width : ℕ) (x : W) → StandsIn old width x → StandsIn made.pool width x

-- What is true of every kind of scalar.
pub record Laws {P W : Type 0} (IsSound : P → Type 0) (StandsIn : P → ℕ → W → Type 0) (a : Algebra P W) : Type 0 where
  -- the word of a result is the operator's value of the operands' words
  pub word_applied : (p : P) (op : Op) (xs : List W) → IsOperator op → a.word (a.applied p op xs).scalar ≡ word_of op (map a.word xs)
  -- the word of what stands at a width lies in it
  pub width : (p : P) (bits : ℕ) (x : W) → StandsIn p bits x → a.word x < 2 ^ bits
  pub keeps : (p : P) (op : Op) (xs : List W) → IsOperator op → IsSound p → AreOperands (StandsIn p) (widths_of op) xs → Keeps IsSound StandsIn p (result_width op) (a.applied p op xs)
