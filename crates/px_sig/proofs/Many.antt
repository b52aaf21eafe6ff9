-- Readings that follow each other.
use Rattle.std.proofs.Common.{◌≡◌, ℕ, zero, suc, ◌+◌, ◌-◌, ◌<◌, List, [], ◌∷◌, ◌++◌, Result, Ok, Err, refl, sym, ap, ◌∙◌, arith, append_assoc}
use Rattle.px_reading.specs.Reading.{Read, ◌>>=◌}
use Rattle.px_sig.specs.Grammar.{many}
use Rattle.px_sig.specs.Parts.{behind, times}

-- readings in three steps, however they are grouped
pub regroup : {A B C : Type 0} (r : Result A ℕ) (f : A → Result B ℕ) (g : B → Result C ℕ) → (r >>= f) >>= g ≡ r >>= (λ x. f x >>= g)
regroup (Ok x) f g = refl
regroup (Err at) f g = refl

-- the place behind all is that behind the others
behind_cons : {X : Type 0} (x : X) (r : Result (Read (List X)) ℕ) → behind (r >>= λ others. Ok (record { value = x ∷ others.value; end = others.end })) ≡ behind r
behind_cons x (Ok others) = refl
behind_cons x (Err at) = refl

pub one_more : {X : Type 0} (read : ℕ → Result (Read X) ℕ) (count at : ℕ) (x : Read X) → read at ≡ Ok x → behind (many read (suc count) at) ≡ behind (many read count x.end)
one_more read count at x is = rw is (behind_cons x.value (many read count x.end))

pub stops : {X : Type 0} (read : ℕ → Result (Read X) ℕ) (count at place : ℕ) → read at ≡ Err place → many read (suc count) at ≡ Err place
stops read count at place is = rw is refl

-- one of those that are left
pub one_of : (count index : ℕ) → index < count → count - index ≡ suc (count - (index + 1))
one_of count index less = omega arith

-- so many readings, seen by the place behind them
pub times_many : {X : Type 0} (read : ℕ → Result (Read X) ℕ) (count at : ℕ) → behind (many read count at) ≡ times (λ place. behind (read place)) count at
times_many read zero at = refl
times_many {X} read (suc count) at = by_first (read at) (times_many read count)
  where
    by_first : (r : Result (Read X) ℕ) → ((place : ℕ) → behind (many read count place) ≡ times (λ p. behind (read p)) count place)
        → behind (r >>= λ first. many read count first.end >>= λ others. Ok (record { value = first.value ∷ others.value; end = others.end })) ≡ behind r >>= times (λ place. behind (read place)) count
    by_first (Ok x) same = behind_cons x.value (many read count x.end) ∙ same x.end
    by_first (Err at) same = refl

pub behind_same : {X Y : Type 0} (r : Result (Read X) ℕ) (f : Read X → Y) → behind (r >>= λ x. Ok (record { value = f x; end = x.end })) ≡ behind r
behind_same (Ok x) f = refl
behind_same (Err at) f = refl

pub and_no_more : {A : Type 0} (r : Result A ℕ) → r >>= (λ x. Ok x) ≡ r
and_no_more (Ok x) = refl
and_no_more (Err at) = refl

-- what is read behind what is there already
abbrev pub with_front : {X : Type 0} → List X → Result (Read (List X)) ℕ → Result (Read (List X)) ℕ
with_front front read = read >>= λ rest. Ok (record { value = front ++ rest.value; end = rest.end })

pub no_front : {X : Type 0} (r : Result (Read (List X)) ℕ) → r ≡ with_front [] r
no_front (Ok x) = refl
no_front (Err at) = refl

pub one_longer : {X : Type 0} (front : List X) (read : ℕ → Result (Read X) ℕ) (count at : ℕ) (x : Read X) → read at ≡ Ok x
    → with_front front (many read (suc count) at) ≡ with_front (front ++ x.value ∷ []) (many read count x.end)
one_longer {X} front read count at x is = rw is (by_rest (many read count x.end))
  where
    by_rest : (r : Result (Read (List X)) ℕ) → with_front front (r >>= λ others. Ok (record { value = x.value ∷ others.value; end = others.end })) ≡ with_front (front ++ x.value ∷ []) r
    by_rest (Ok rest) = ap (λ (xs : List X). Ok (record { value = xs; end = rest.end })) (sym (append_assoc front (x.value ∷ []) rest.value))
    by_rest (Err at) = refl
