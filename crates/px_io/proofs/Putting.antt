-- Texts written one after another.
use Rattle.std.proofs.Common.{◌≡◌, ℕ, ◌+◌, List, [], ◌++◌, length, take, drop, Option, Some, None, Result, Ok, Err, refl, ap, sym, subst, ◌∙◌, append_assoc, append-nil, arith, length-append}
use Rattle.std.proofs.Math.Seq.{take-add, take-append-add}
use Rattle.std.proofs.lemmas.List.{take-append-le, take_rest}
use Rattle.std.specs.Prelude.{◌-◌}
use Rattle.px_io.specs.Puts.{extended, GrewByFront, Puts}

-- more, and then more
pub extended-append : (o : Option (List ℕ)) (a b : List ℕ) → extended (extended o a) b ≡ extended o (a ++ b)
extended-append None a b = refl
extended-append (Some w) a b = ap (λ v. Some v) (append_assoc w a b)

-- the first bytes, and then the next
pub extended_more : (o : Option (List ℕ)) (s : List ℕ) (a n : ℕ) → extended (extended o (take a s)) (take n (take (length s - a) (drop a s))) ≡ extended o (take (a + n) s)
extended_more o s a n =
    ap (λ v. extended (extended o (take a s)) (take n v)) (take_rest s a)
    ∙ extended-append o (take a s) (take n (drop a s))
    ∙ ap (λ v. extended o v) (sym (take-add a n s))

-- a front of the second text is a front of both
pub front_after : (o : Option (List ℕ)) (a b : List ℕ) (new : Option (List ℕ)) → GrewByFront (extended o a) b new → GrewByFront o (a ++ b) new
unfolding GrewByFront
front_after o a b new (n, less, is) = (
  length a + n,
  omega (arith, length-append a b),
  is ∙ extended-append o a (take n b) ∙ ap (λ v. extended o v) (sym (take-append-add a b n)),
)

-- a front of the first text is a front of both
pub front_before : (o : Option (List ℕ)) (a b : List ℕ) (new : Option (List ℕ)) → GrewByFront o a new → GrewByFront o (a ++ b) new
unfolding GrewByFront
front_before o a b new (n, less, is) = (
  n,
  omega (arith, length-append a b),
  is ∙ ap (λ v. extended o v) (sym (take-append-le n a b (omega arith))),
)

-- The first text was written, and then the second or a front of it.
pub puts_more : {O T E U F : Type 0} (written : O → Option (List ℕ)) (faults : O → ℕ) (old mid new : O) (a b : List ℕ) (x : T) (r : Result U F)
    → (let first : Result T E = Ok x in Puts written faults old a mid first) → Puts written faults mid b new r → Puts written faults old (a ++ b) new r
puts_more written faults old mid new a b x (Ok y) first second = record {
  whole = second.whole ∙ ap (λ o. extended o b) first.whole ∙ extended-append (written old) a b;
  front = tt;
  cause = tt;
  count = omega (arith, first.count, second.count);
}
puts_more written faults old mid new a b x (Err y) first second = record {
  whole = tt;
  front = front_after (written old) a b (written new) (let P : Option (List ℕ) → Type 0 = λ o. GrewByFront o b (written new) in subst P first.whole second.front);
  cause = omega (arith, first.count, second.cause);
  count = omega (arith, first.count, second.count);
}

-- The same, with all but the two facts found from them.
pub puts_two : {O T E U F : Type 0} {written : O → Option (List ℕ)} {faults : O → ℕ} {old mid new : O} {a b : List ℕ} {x : T} {r : Result U F}
    → (let first : Result T E = Ok x in Puts written faults old a mid first) → Puts written faults mid b new r → Puts written faults old (a ++ b) new r
puts_two first second = puts_more _ _ _ _ _ _ _ _ _ first second

-- It stopped within the first text.
pub puts_stopped : {O T E U F : Type 0} (written : O → Option (List ℕ)) (faults : O → ℕ) (old new : O) (a b : List ℕ) (x : E) (y : F)
    → (let r : Result T E = Err x in Puts written faults old a new r) → (let r : Result U F = Err y in Puts written faults old (a ++ b) new r)
puts_stopped written faults old new a b x y first = record {
  whole = tt;
  front = front_before (written old) a b (written new) first.front;
  cause = first.cause;
  count = first.count;
}

-- Nothing is written.
pub puts_none : {O T E : Type 0} (written : O → Option (List ℕ)) (faults : O → ℕ) (old : O) (x : T) → (let r : Result T E = Ok x in Puts written faults old [] old r)
puts_none written faults old x = record { whole = none (written old); front = tt; cause = tt; count = omega arith }
  where
    none : (o : Option (List ℕ)) → o ≡ extended o []
    none None = refl
    none (Some w) = ap (λ v. Some v) (sym (append-nil w))

-- the same of an equal text
pub puts_as : {O T E : Type 0} (written : O → Option (List ℕ)) (faults : O → ℕ) (old new : O) (a b : List ℕ) (r : Result T E) → a ≡ b → Puts written faults old a new r → Puts written faults old b new r
puts_as {O} {T} {E} written faults old new a b r e p = let P : List ℕ → Type 0 = λ t. Puts written faults old t new r in subst P e p

-- It stopped within the first text, and the answer is that of the `?` behind it.
pub puts_err : {O T E U F : Type 0} (written : O → Option (List ℕ)) (faults : O → ℕ) (old new : O) (a b : List ℕ) (x : E) (y : F) (r : Result U F) → r ≡ Err y
    → (let s : Result T E = Err x in Puts written faults old a new s) → Puts written faults old (a ++ b) new r
puts_err {O} {T} {E} {U} {F} written faults old new a b x y r e p =
    let P : Result U F → Type 0 = λ s. Puts written faults old (a ++ b) new s in
    subst P (sym e) (puts_stopped {T = T} {U = U} written faults old new a b x y p)

-- what `grind` needs where two texts are written one after the other
pub ruleset writing = (extended-append, front_after, front_before)
