-- A text ends at the first zero byte, and nothing else is one.
use Rattle.std.proofs.Common.{◌≡◌, ◌≢◌, ℕ, suc, zero, ◌<◌, List, [], ◌∷◌, ◌++◌, length, get_or, take, drop, Option, Some, None, Result, Ok, Err, false, refl, sym, ap, ◌∙◌, subst, arith}
use Rattle.std.specs.Prelude.{◌==◌, position, All, IsUtf8, MatchOption, MatchResult}
use Rattle.std.specs.Result.{result_ok}
use Rattle.std.specs.List.{position_or_len}
use Rattle.std.proofs.lemmas.Bool.{eqb-true}
use Rattle.std.proofs.lemmas.Bool.Decides.{nat_tests}
use Rattle.std.proofs.lemmas.Grind.{common_steps}
use Rattle.std.proofs.lemmas.List.Quantifiers.{position-Some}
use Rattle.std.proofs.lemmas.List.Elements.{All-head, All-tail, All-from_get_or}
use Rattle.px_blobs.specs.Items.{IsStringAt}

-- the place of the first zero byte
abbrev zero_of : List ℕ → Option ℕ
zero_of bytes = position (λ byte. byte == 0) bytes

before : (text rest : List ℕ) → All (λ byte. byte ≢ 0) text → position_or_len (λ byte. byte == 0) (text ++ 0 ∷ rest) ≡ length text
before [] rest none = refl
before (b ∷ text) rest none =
    let first : b ≢ 0 = All-head (λ byte. byte ≢ 0) b text none in
    let later : position_or_len (λ byte. byte == 0) (text ++ 0 ∷ rest) ≡ length text = before text rest (All-tail (λ byte. byte ≢ 0) b text none) in
    grind (arith, nat_tests, common_steps)

ends : (text rest : List ℕ) → All (λ byte. byte ≢ 0) text → zero_of (text ++ 0 ∷ rest) ≡ Some (length text)
ends text rest none = let here = before text rest none in grind (arith, nat_tests, common_steps)

front : (text rest : List ℕ) → take (length text) (text ++ rest) ≡ text
front text rest = grind (arith, common_steps)

-- the bytes of a text end at the first zero byte
ends_at : (heap : List ℕ) (at : ℕ) (bytes text : List ℕ) → bytes ≡ drop at heap → IsStringAt heap at text → zero_of bytes ≡ Some (length text)
ends_at heap at bytes text from is = rw (from, is.stands) (ends text is.rest is.no_zero)

pub none_at : (heap : List ℕ) (at : ℕ) (bytes : List ℕ) → bytes ≡ drop at heap → zero_of bytes ≡ None → (text : List ℕ) → IsStringAt heap at text → ⊥
none_at heap at bytes from none text is = let e = ends_at heap at bytes text from is in cc

-- a text is the bytes before the first zero byte
is_front : (heap : List ℕ) (at : ℕ) (bytes : List ℕ) (n : ℕ) (text : List ℕ) → bytes ≡ drop at heap → zero_of bytes ≡ Some n → IsStringAt heap at text → take n bytes ≡ text
is_front heap at bytes n text from found is =
    let e = ends_at heap at bytes text from is in
    let same : n ≡ length text = cc in
    rw (same, from, is.stands) (front text (0 ∷ is.rest))

pub no_text : (heap : List ℕ) (at : ℕ) (bytes : List ℕ) (n : ℕ) → bytes ≡ drop at heap → zero_of bytes ≡ Some n → (IsUtf8 (take n bytes) → ⊥) → (text : List ℕ) → IsStringAt heap at text → ⊥
no_text heap at bytes n from found bad text is = bad (subst (λ t. IsUtf8 t) (sym (is_front heap at bytes n text from found is)) is.utf8)

split : (bytes : List ℕ) (n : ℕ) → n < length bytes → get_or bytes n 0 ≡ 0 → bytes ≡ take n bytes ++ 0 ∷ drop (suc n) bytes
split [] n less zero_there = absurd (omega arith)
split (b ∷ bytes) zero less zero_there = rw zero_there refl
split (b ∷ bytes) (suc n) less zero_there = ap (λ rest. b ∷ rest) (split bytes n (omega arith) zero_there)

pub text_stands : (heap : List ℕ) (at : ℕ) (bytes : List ℕ) (n : ℕ) → bytes ≡ drop at heap → zero_of bytes ≡ Some n → IsUtf8 (take n bytes) → IsStringAt heap at (take n bytes)
text_stands heap at bytes n from found good =
    let p = position-Some (λ byte. byte == 0) bytes n 0 found in
    record {
      rest = drop (suc n) bytes;
      stands = sym from ∙ split bytes n p.0 (eqb-true (get_or bytes n 0) 0 p.1);
      no_zero = All-from_get_or (λ byte. byte ≢ 0) (take n bytes) 0 (λ k less. before_front bytes n k p.0 less (p.2 k));
      utf8 = good;
    }
  where
    before_front : (bytes : List ℕ) (n k : ℕ) → n < length bytes → k < length (take n bytes) → (k < n → (get_or bytes k 0 == 0) ≡ false) → get_or (take n bytes) k 0 ≢ 0
    before_front bytes n k inside less not_zero = grind (arith, nat_tests, common_steps)

-- what a check of the text gives
pub checked : {X E : Type 0} (now : X → List ℕ) (P : List ℕ → Type 0) (N : Type 0) (V : E → Type 0) (bytes : List ℕ) (r : Result X E)
    → MatchResult r (λ s. (now s ≡ bytes) × IsUtf8 bytes) (λ e. (¬ (IsUtf8 bytes)) × V e) → (IsUtf8 bytes → P bytes) → ((IsUtf8 bytes → ⊥) → N) → MatchOption (result_ok r) N (λ s. P (now s))
checked now P N V bytes (Ok x) cases good bad = subst P (sym cases.0) (good cases.1)
checked now P N V bytes (Err e) cases good bad = bad cases.0
