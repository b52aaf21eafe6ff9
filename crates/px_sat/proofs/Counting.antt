-- Counts over lists with no number twice.
use Rattle.std.proofs.Common.{◌≡◌, ℕ, ◌+◌, ◌≤◌, Bool, true, false, ◌&&◌, ◌||◌, cond, eqb, List, [], ◌∷◌, count_by, refl, ap, sym, ◌∙◌, subst, ⊎_elim, arith}
use Rattle.std.specs.List.{IsDistinct}
use Rattle.std.proofs.lemmas.Bool.{and_right, both_ways, cases_Bool, cases_eq, eq-eqb, eqb-true, false_from_ne_true, false≢true, ne_eqb, or_cases, or_left, or_right}
use Rattle.std.proofs.lemmas.List.Sums.{sum_by-cons}
use Rattle.std.proofs.lemmas.Map.Keys.{IsDistinct-head, IsDistinct-tail}
use Rattle.px_chain.specs.Clause.{complement, has}
use Rattle.px_chain.proofs.Closures.{complement-twice}
use Rattle.px_chain.proofs.Members.{has_from_all}

abbrev pub one_if : Bool → ℕ
one_if b = cond b 1 0

pub count-cons : (p : ℕ → Bool) (x : ℕ) (xs : List ℕ) → count_by p (x ∷ xs) ≡ one_if (p x) + count_by p xs
count-cons p x xs = sum_by-cons (λ y. cond (p y) 1 0) x xs

one_if-true : (b : Bool) → b ≡ true → one_if b ≡ 1
one_if-true b e = ap one_if e

one_if-false : (b : Bool) → b ≡ false → one_if b ≡ 0
one_if-false b e = ap one_if e

-- where nothing is counted, no element passes
pub count-none : (p : ℕ → Bool) (xs : List ℕ) (x : ℕ) → count_by p xs ≡ 0 → has xs x ≡ true → p x ≡ false
count-none p [] x e h = absurd (false≢true h)
count-none p (y ∷ xs) x e h =
    let here : p y ≡ false = false_from_ne_true (p y) (λ t. let c = count-cons p y xs in let o = one_if-true (p y) t in absurd (omega arith)) in
    let rest : count_by p xs ≡ 0 = (let c = count-cons p y xs in omega arith) in
    ⊎_elim (λ same. subst (λ z. p z ≡ false) (eqb-true y x same) here) (λ later. count-none p xs x rest later) (or_cases (eqb y x) (has xs x) h)

-- where some element passes, something is counted
pub count-some : (p : ℕ → Bool) (xs : List ℕ) (x : ℕ) → has xs x ≡ true → p x ≡ true → 1 ≤ count_by p xs
count-some p [] x h e = absurd (false≢true h)
count-some p (y ∷ xs) x h e =
    ⊎_elim
    (λ same. let here : p y ≡ true = subst (λ z. p z ≡ true) (sym (eqb-true y x same)) e in let c = count-cons p y xs in let o = one_if-true (p y) here in omega arith)
    (λ later. let c = count-cons p y xs in let rest = count-some p xs x later e in omega arith)
    (or_cases (eqb y x) (has xs x) h)

-- the one element that passes
pub record IsOnly (p : ℕ → Bool) (xs : List ℕ) : Type 0 where
  pub element : ℕ
  pub within : has xs element ≡ true
  pub passes : p element ≡ true
  pub only : (x : ℕ) → has xs x ≡ true → p x ≡ true → x ≡ element

pub count-one : (p : ℕ → Bool) (xs : List ℕ) → count_by p xs ≡ 1 → IsOnly p xs
count-one p [] e = absurd (omega arith)
count-one p (y ∷ xs) e =
    ⊎_elim
    (λ here.
    let rest : count_by p xs ≡ 0 = (let c = count-cons p y xs in let o = one_if-true (p y) here in omega arith) in
    record {
      element = y;
      within = or_left (eqb y y) (has xs y) (eq-eqb y y refl);
      passes = here;
      only = λ x h t. ⊎_elim (λ same. sym (eqb-true y x same)) (λ later. absurd (both_ways (p x) (count-none p xs x rest later) t)) (or_cases (eqb y x) (has xs x) h);
    })
    (λ not_here.
    let rest : count_by p xs ≡ 1 = (let c = count-cons p y xs in let o = one_if-false (p y) not_here in omega arith) in
    let w = count-one p xs rest in
    record {
      element = w.element;
      within = or_right (eqb y w.element) (has xs w.element) w.within;
      passes = w.passes;
      only = λ x h t. ⊎_elim (λ same. absurd (both_ways (p x) (subst (λ z. p z ≡ false) (eqb-true y x same) not_here) t)) (λ later. w.only x later t) (or_cases (eqb y x) (has xs x) h);
    })
    (cases_Bool (p y))

-- where no element passes, nothing is counted
pub count-no : (p : ℕ → Bool) (xs : List ℕ) → ((x : ℕ) → has xs x ≡ true → p x ≡ false) → count_by p xs ≡ 0
count-no p [] none = refl
count-no p (y ∷ xs) none =
    let c = count-cons p y xs in let o = one_if-false (p y) (none y (or_left (eqb y y) (has xs y) (eq-eqb y y refl))) in
    let rest = count-no p xs (λ x h. none x (or_right (eqb y x) (has xs x) h)) in omega arith

absent : (y : ℕ) (xs : List ℕ) → IsDistinct eqb (y ∷ xs) → has xs y ≡ true → ⊥
absent y xs apart h =
    let apart_from = has_from_all (λ z. eqb y z ≡ false) xs (IsDistinct-head eqb y xs apart) y h in
    both_ways (eqb y y) apart_from (eq-eqb y y refl)

-- where no other element passes, at most one is counted
pub count-at_most_one : (p : ℕ → Bool) (xs : List ℕ) (z : ℕ) → IsDistinct eqb xs → ((x : ℕ) → has xs x ≡ true → p x ≡ true → x ≡ z) → count_by p xs ≤ 1
count-at_most_one p [] z apart only = omega arith
count-at_most_one p (y ∷ xs) z apart only =
    let later_only = λ (x : ℕ) (h : has xs x ≡ true) (t : p x ≡ true). only x (or_right (eqb y x) (has xs x) h) t in
    ⊎_elim
    (λ here.
    let same : y ≡ z = only y (or_left (eqb y y) (has xs y) (eq-eqb y y refl)) here in
    let none : count_by p xs ≡ 0 = count-no p xs (λ x h. false_from_ne_true (p x) (λ t. absent y xs apart (subst (λ k. has xs k ≡ true) (later_only x h t ∙ sym same) h))) in
    let c = count-cons p y xs in let o = one_if-true (p y) here in omega arith)
    (λ not_here. let c = count-cons p y xs in let o = one_if-false (p y) not_here in let rest = count-at_most_one p xs z (IsDistinct-tail eqb y xs apart) later_only in omega arith)
    (cases_Bool (p y))

-- sums of counts by what each element adds to them
pub count-sum : (n e o f : ℕ → Bool) (xs : List ℕ) → ((x : ℕ) → has xs x ≡ true → one_if (n x) + one_if (e x) ≡ one_if (o x) + one_if (f x))
    → count_by n xs + count_by e xs ≡ count_by o xs + count_by f xs
count-sum n e o f [] each = refl
count-sum n e o f (y ∷ xs) each =
    let here = each y (or_left (eqb y y) (has xs y) (eq-eqb y y refl)) in
    let rest = count-sum n e o f xs (λ x h. each x (or_right (eqb y x) (has xs x) h)) in
    let a = count-cons n y xs in let b = count-cons e y xs in let c = count-cons o y xs in let d = count-cons f y xs in
    omega arith

-- equal tests count the same
pub count-same : (p q : ℕ → Bool) (xs : List ℕ) → ((x : ℕ) → has xs x ≡ true → p x ≡ q x) → count_by p xs ≡ count_by q xs
count-same p q [] each = refl
count-same p q (y ∷ xs) each =
    let here = ap one_if (each y (or_left (eqb y y) (has xs y) (eq-eqb y y refl))) in
    let rest = count-same p q xs (λ x h. each x (or_right (eqb y x) (has xs x) h)) in
    let a = count-cons p y xs in let b = count-cons q y xs in omega arith

-- an element is counted once
pub count-element : (xs : List ℕ) (x : ℕ) → IsDistinct eqb xs → has xs x ≡ true → count_by (λ y. eqb y x) xs ≡ 1
count-element xs x apart h =
    let low = count-some (λ y. eqb y x) xs x h (eq-eqb x x refl) in
    let high = count-at_most_one (λ y. eqb y x) xs x apart (λ y there e. eqb-true y x e) in
    omega arith

pub count-absent : (xs : List ℕ) (x : ℕ) → has xs x ≡ false → count_by (λ y. eqb y x) xs ≡ 0
count-absent [] x e = refl
count-absent (y ∷ xs) x e =
    let c = count-cons (λ z. eqb z x) y xs in
    let here : eqb y x ≡ false = false_from_ne_true (eqb y x) (λ t. both_ways (has (y ∷ xs) x) e (or_left (eqb y x) (has xs x) t)) in
    let later : has xs x ≡ false = false_from_ne_true (has xs x) (λ t. both_ways (has (y ∷ xs) x) e (or_right (eqb y x) (has xs x) t)) in
    let o = one_if-false (eqb y x) here in let rest = count-absent xs x later in omega arith

-- one element more passes
count-more : (q : ℕ → Bool) (g : Bool) (z : ℕ) (xs : List ℕ) → IsDistinct eqb xs → q z ≡ false
    → count_by (λ y. q y || (g && eqb y z)) xs ≡ count_by q xs + one_if (g && has xs z)
count-more q g z [] apart out = elim g as (λ b. 0 ≡ 0 + one_if (b && false)) [ true ↦ refl | false ↦ refl ]
count-more q g z (y ∷ xs) apart out =
    let a = count-cons (λ x. q x || (g && eqb x z)) y xs in let b = count-cons q y xs in
    let rest = count-more q g z xs (IsDistinct-tail eqb y xs apart) out in
    let here : one_if (q y || (g && eqb y z)) + one_if (g && has xs z) ≡ one_if (q y) + one_if (g && (eqb y z || has xs z)) =
    ⊎_elim
    (λ same.
    let e : y ≡ z = eqb-true y z same in
    let none : has xs z ≡ false = false_from_ne_true (has xs z) (λ h. absent y xs apart (subst (λ k. has xs k ≡ true) (sym e) h)) in
    let fails : q y ≡ false = subst (λ k. q k ≡ false) (sym e) out in
    more_here (q y) g (eqb y z) (has xs z) fails same none)
    (λ other. more_there (q y) g (eqb y z) (has xs z) other)
    (cases_Bool (eqb y z)) in
    omega arith
  where
    more_here : (p g e h : Bool) → p ≡ false → e ≡ true → h ≡ false → one_if (p || (g && e)) + one_if (g && h) ≡ one_if p + one_if (g && (e || h))
    more_here true g e h a b c = absurd (false≢true (sym a))
    more_here false true true true a b c = absurd (false≢true (sym c))
    more_here false true true false a b c = refl
    more_here false true false h a b c = absurd (false≢true b)
    more_here false false e h a b c = refl

    more_there : (p g e h : Bool) → e ≡ false → one_if (p || (g && e)) + one_if (g && h) ≡ one_if p + one_if (g && (e || h))
    more_there p g true h a = absurd (false≢true (sym a))
    more_there true true false h a = refl
    more_there true false false h a = refl
    more_there false true false h a = omega arith
    more_there false false false h a = refl

both_same : (q r a b h : Bool) → r ≡ q → a ≡ true → b ≡ true → (q && (a || h)) ≡ ((q && h) || (r && b))
both_same true true true true true e f g = refl
both_same true true true true false e f g = refl
both_same true false a b h e f g = absurd (false≢true e)
both_same false true a b h e f g = absurd (false≢true (sym e))
both_same false false a b h e f g = refl
both_same true true false b h e f g = absurd (false≢true f)
both_same true true true false h e f g = absurd (false≢true g)

both_other : (q r a b h : Bool) → a ≡ false → b ≡ false → (q && (a || h)) ≡ ((q && h) || (r && b))
both_other q r true b h f g = absurd (false≢true (sym f))
both_other q r false true h f g = absurd (false≢true (sym g))
both_other true true false false true f g = refl
both_other true true false false false f g = refl
both_other true false false false true f g = refl
both_other true false false false false f g = refl
both_other false true false false h f g = refl
both_other false false false false h f g = refl

one_more : (m y : ℕ) (p : ℕ → Bool) (h : Bool) → (p (complement y) && (eqb m (complement y) || h)) ≡ ((p (complement y) && h) || (p m && eqb y (complement m)))
one_more m y p h =
    ⊎_elim
    (λ e. let f : eqb m (complement y) ≡ true = eq-eqb m (complement y) e in let g : eqb y (complement m) ≡ true = eq-eqb y (complement m) (sym (complement-twice y) ∙ ap complement (sym e)) in
    let s : p m ≡ p (complement y) = ap p e in both_same (p (complement y)) (p m) (eqb m (complement y)) (eqb y (complement m)) h s f g)
    (λ ne. let f : eqb m (complement y) ≡ false = ne_eqb m (complement y) ne in
    let g : eqb y (complement m) ≡ false = ne_eqb y (complement m) (λ e. ne (sym (complement-twice m) ∙ ap complement (sym e))) in
    both_other (p (complement y)) (p m) (eqb m (complement y)) (eqb y (complement m)) h f g)
    (cases_eq m (complement y))

-- the literals of one list whose complements are in another are as many as those of the other whose complements are in the one
pub count-complements : (p : ℕ → Bool) (xs ys : List ℕ) → IsDistinct eqb xs → IsDistinct eqb ys
    → count_by (λ m. p m && has ys (complement m)) xs ≡ count_by (λ y. p (complement y) && has xs (complement y)) ys
count-complements p [] ys apart apart' = sym (count-no (λ y. p (complement y) && false) ys (λ y h. and_right (p (complement y)) false refl))
count-complements p (m ∷ xs) ys apart apart' =
    let a = count-cons (λ k. p k && has ys (complement k)) m xs in
    let rest = count-complements p xs ys (IsDistinct-tail eqb m xs apart) apart' in
    let out : (p (complement (complement m)) && has xs (complement (complement m))) ≡ false =
    (let no : has xs m ≡ false = false_from_ne_true (has xs m) (absent m xs apart) in
    ap (λ k. p k && has xs k) (complement-twice m) ∙ ap (λ b. p m && b) no ∙ and_right (p m) false refl) in
    let more = count-more (λ y. p (complement y) && has xs (complement y)) (p m) (complement m) ys apart' out in
    let same = count-same (λ y. p (complement y) && (eqb m (complement y) || has xs (complement y))) (λ y. (p (complement y) && has xs (complement y)) || (p m && eqb y (complement m))) ys
    (λ y h. one_more m y p (has xs (complement y))) in
    omega arith
