-- Plain words, with nothing beside them.
use Rattle.std.specs.Prelude.{ℕ, ◌^◌, ◌<◌, map, refl}
use Rattle.px_words.specs.Word.{word_of}
use Rattle.px_words.proofs.Fits.{word_fits}
use Rattle.px_cells.specs.declared.plain.Plain.{Plain}
use Rattle.px_cells.specs.declared.plain.NoPool.{NoPool}
use Rattle.px_cells.specs.Algebra.{Algebra, Laws}
use Rattle.px_cells.specs.Operands.{words_lie_in}

abbrev pub plain : ℕ → Plain
plain n = record { word = n }

abbrev pub plain_word : Plain → ℕ
plain_word x = x.word

-- an operator gives its value
abbrev pub plain_algebra : Algebra NoPool Plain
plain_algebra = record {
  applied = λ p op xs. record { scalar = plain (word_of op (map plain_word xs)); pool = p };
  word = plain_word;
}

abbrev pub IsPlainPool : NoPool → Type 0
IsPlainPool p = Unit {0}

-- a plain word stands at each width that it lies in
abbrev pub LiesIn : NoPool → ℕ → Plain → Type 0
LiesIn p bits x = x.word < 2 ^ bits

-- the word of what an operator gives lies in its width, and the pool stays as it was
pub plain_laws : Laws IsPlainPool LiesIn plain_algebra
plain_laws = record {
  word_applied = λ p op xs o. refl;
  width = λ p bits x h. h;
  keeps = λ p op xs o s h. record {
    pool = tt;
    result = word_fits op _ _ _ o (words_lie_in plain_word (LiesIn p) (λ bits x k. k) _ xs h);
    others = λ width x k. k;
  };
}
