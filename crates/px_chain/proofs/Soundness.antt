-- Resolution is sound: what is derived is met wherever the clauses are.
use Rattle.std.proofs.Common.{◌≡◌, ℕ, ◌+◌, ◌*◌, ◌/◌, ◌%◌, Bool, true, false, not, ◌&&◌, ◌||◌, cond, eqb, List, [], ◌∷◌, ◌++◌, Option, Some, None, Result, Ok, Err, refl, ap, sym, ◌∙◌, subst, ◌⊎◌, inl, inr, ⊎_elim, arith}
use Rattle.std.specs.List.{slice_get}
use Rattle.std.proofs.lemmas.Bool.{true≢false, eqb-true, eq-eqb, ne_eqb, cases_Bool, or_cases, or_left, or_right, cond-true, cond-false}
use Rattle.px_chain.specs.declared.chain.Chain.{Chain}
use Rattle.px_chain.specs.declared.chain.Why.{Why}
use Rattle.px_chain.specs.Clause.{Valuation, MeetsAll, clause_of, has, holds, meets, is_negated}
use Rattle.px_chain.specs.Resolution.{Refutes, derived, joined, negative, positive, resolvent, resolved_by, start_of, step_with, steps_from, without}
use Rattle.px_chain.proofs.Members.{has-append, has-clause_of, has-without}
use Rattle.px_chain.proofs.Stores.{all_at, all_push}

-- a literal that holds meets its clauses
pub meets_by : (a : Valuation) (clause : List ℕ) (l : ℕ) → has clause l ≡ true → holds a l ≡ true → meets a clause ≡ true
meets_by a [] l there held = absurd (true≢false (sym there))
meets_by a (m ∷ clause) l there held =
    ⊎_elim (λ e. let here : holds a m ≡ true = subst (λ k. holds a k ≡ true) (sym (eqb-true m l e)) held in or_left (holds a m) (meets a clause) here)
    (λ later. or_right (holds a m) (meets a clause) (meets_by a clause l later held)) (or_cases (eqb m l) (has clause l) there)

-- a clause that is met has a literal that holds
pub meets_at : (a : Valuation) (clause : List ℕ) → meets a clause ≡ true → (l : ℕ) × (has clause l ≡ true) × (holds a l ≡ true)
meets_at a [] met = absurd (true≢false (sym met))
meets_at a (m ∷ clause) met =
    ⊎_elim (λ held. (m, or_left (eqb m m) (has clause m) (eq-eqb m m refl), held))
    (λ later. let w = meets_at a clause later in (w.0, or_right (eqb m w.0) (has clause w.0) w.1, w.2)) (or_cases (holds a m) (meets a clause) met)

-- a variable's two literals hold by turns
holds-positive : (a : Valuation) (v : ℕ) → holds a (positive v) ≡ a v
holds-positive a v =
    cond-false (is_negated (2 * v)) _ _ (ne_eqb (2 * v % 2) 1 (λ e. omega arith)) ∙ (let same : 2 * v / 2 ≡ v = omega arith in ap a same)

holds-negative : (a : Valuation) (v : ℕ) → holds a (negative v) ≡ not (a v)
holds-negative a v =
    cond-true (is_negated (2 * v + 1)) _ _ (eq-eqb ((2 * v + 1) % 2) 1 (omega arith)) ∙ (let same : (2 * v + 1) / 2 ≡ v = omega arith in ap (λ w. not (a w)) same)

-- a literal of one of two clauses, without a literal each
joined_by : (a : Valuation) (x y : List ℕ) (l m k : ℕ) → (has (without x l) k || has (without y m) k) ≡ true → holds a k ≡ true → meets a (joined x l y m) ≡ true
joined_by a x y l m k there held =
    meets_by a (joined x l y m) k (has-clause_of (without x l ++ without y m) k ∙ has-append (without x l) (without y m) k ∙ there) held

-- a literal that holds isn't one that doesn't
other_literal : (a : Valuation) (k l : ℕ) → holds a k ≡ true → holds a l ≡ false → eqb k l ≡ false
other_literal a k l held fails = ne_eqb k l (λ e. true≢false (sym held ∙ ap (holds a) e ∙ fails))

-- clauses without two literals of which one fails
joined-met : (a : Valuation) (x y : List ℕ) (l m : ℕ) → holds a m ≡ not (holds a l) → meets a x ≡ true → meets a y ≡ true → meets a (joined x l y m) ≡ true
joined-met a x y l m apart mx my =
    ⊎_elim
    (λ held. let w = meets_at a y my in let fails : holds a m ≡ false = grind (arith, apart, held) in
    joined_by a x y l m w.0 (grind (arith, has-without y m w.0, w.1, other_literal a w.0 m w.2 fails)) w.2)
    (λ fails. let w = meets_at a x mx in
    joined_by a x y l m w.0 (grind (arith, has-without x l w.0, w.1, other_literal a w.0 l w.2 fails)) w.2)
    (cases_Bool (holds a l))

one_of : (b c : Bool) (s t r : List ℕ) → cond b (Some s) (cond c (Some t) None) ≡ Some r → (s ≡ r) ⊎ (t ≡ r)
one_of true c s t r e = inl (cc)
one_of false true s t r e = inr (cc)
one_of false false s t r e = absurd (cc)

resolved : (o : Option (List ℕ)) (v : ℕ) (r : List ℕ) → resolved_by o v ≡ Ok r → o ≡ Some r
resolved None v r e = absurd (cc)
resolved (Some x) v r e = cc

started : (o : Option (List ℕ)) (n : ℕ) (r : List ℕ) → start_of o n ≡ Ok r → o ≡ Some r
started None n r e = absurd (cc)
started (Some x) n r e = cc

-- two clauses that are met resolve to one that is met
pub resolvent-met : (a : Valuation) (x : List ℕ) (v : ℕ) (y r : List ℕ) → resolvent x v y ≡ Some r → meets a x ≡ true → meets a y ≡ true → meets a r ≡ true
resolvent-met a x v y r e mx my =
    let p = joined-met a x y (positive v) (negative v) (holds-negative a v ∙ ap not (sym (holds-positive a v))) mx my in
    let twice : a v ≡ not (holds a (negative v)) = grind (arith, holds-negative a v) in
    let n = joined-met a x y (negative v) (positive v) (holds-positive a v ∙ twice) mx my in
    ⊎_elim (λ f. subst (λ c. meets a c ≡ true) f p) (λ f. subst (λ c. meets a c ≡ true) f n)
    (one_of (has x (positive v) && has y (negative v)) (has x (negative v) && has y (positive v)) (joined x (positive v) y (negative v)) (joined x (negative v) y (positive v)) r e)

step-met : (a : Valuation) (clauses : List (List ℕ)) (x : List ℕ) (v n : ℕ) (found : Option (List ℕ)) (r : List ℕ) → MeetsAll a clauses → meets a x ≡ true → slice_get clauses n ≡ found
    → step_with x v n found ≡ Ok r → meets a r ≡ true
step-met a clauses x v n None r all mx at e = absurd (cc)
step-met a clauses x v n (Some y) r all mx at e =
    resolvent-met a x v y r (resolved (resolvent x v y) v r e) mx (all_at (λ clause. meets a clause ≡ true) clauses n y all at)

steps-met : (a : Valuation) (clauses : List (List ℕ)) (x : Result (List ℕ) Why) (steps : List (ℕ × ℕ)) (r : List ℕ) → MeetsAll a clauses → ((c : List ℕ) → x ≡ Ok c → meets a c ≡ true)
    → steps_from clauses x steps ≡ Ok r → meets a r ≡ true
steps-met a clauses (Err why) steps r all mx e = absurd (cc)
steps-met a clauses (Ok x) [] r all mx e = mx r e
steps-met a clauses (Ok x) (step ∷ steps) r all mx e =
    steps-met a clauses (step_with x step.0 step.1 (slice_get clauses step.1)) steps r all (λ c f. step-met a clauses x step.0 step.1 (slice_get clauses step.1) c all (mx x refl) refl f) e

-- what a chain resolves to is met wherever the clauses are
pub derived-met : (a : Valuation) (clauses : List (List ℕ)) (chain : Chain) (r : List ℕ) → MeetsAll a clauses → derived clauses chain ≡ Ok r → meets a r ≡ true
unfolding derived
derived-met a clauses chain r all e =
    steps-met a clauses (start_of (slice_get clauses chain.first) chain.first) chain.rest r all
    (λ c f. all_at (λ clause. meets a clause ≡ true) clauses chain.first c all (started (slice_get clauses chain.first) chain.first c f)) e

-- a formula with a refutation is met by no assignment
pub Refutes-unmet : (a : Valuation) (clauses : List (List ℕ)) (chains : List Chain) → Refutes clauses chains → MeetsAll a clauses → ⊥
Refutes-unmet a clauses [] is all = is
Refutes-unmet a clauses (chain ∷ []) is all =
    let met = derived-met a clauses chain (clause_of chain.claim) all is.0 in
    true≢false (sym (subst (λ claim. meets a (clause_of claim) ≡ true) is.1 met))
Refutes-unmet a clauses (chain ∷ next ∷ chains) is all =
    Refutes-unmet a (clauses ++ clause_of chain.claim ∷ []) (next ∷ chains) is.1
    (all_push (λ clause. meets a clause ≡ true) clauses (clause_of chain.claim) all (derived-met a clauses chain (clause_of chain.claim) all is.0))
