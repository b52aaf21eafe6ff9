-- Readings that may fail: the first fault is the answer.
use Rattle.std.specs.Prelude.{ℕ, Result, Ok, Err}

-- the second reading goes on with what the first gives
infixl 10 ◌>>=◌
abbrev pub ◌>>=◌ : {A B E : Type 0} → Result A E → (A → Result B E) → Result B E
(Ok x) >>= f = f x
(Err e) >>= f = Err e

-- what is read of a text or a blob, and the place behind it
pub record Read (X : Type 0) : Type 0 where
  pub value : X
  pub end : ℕ
