-- Clauses as sets: which literals stand in a clause, and that clauses that ascend and hold the same literals are one.
use Rattle.std.proofs.Common.{◌≡◌, ℕ, suc, ◌<◌, ◌≤◌, true, false, not, ◌&&◌, ◌||◌, cond, eqb, ltb, List, [], ◌∷◌, ◌++◌, get_or, refl, sym, ◌∙◌, subst, ⊎_elim, ap₂, arith, add-one}
use Rattle.std.specs.List.{AllByRecursion}
use Rattle.std.proofs.lemmas.Bool.{both_ways, eqb-true, eq-eqb, ne_eqb, true≢false, or_cases, cases_lt, cond_both, ltb-true, ltb-false, eqb-false}
use Rattle.std.proofs.lemmas.Bool.Decides.{nat_tests}
use Rattle.std.proofs.lemmas.List.Folds.{list_any-append}
use Rattle.std.specs.List.{dedup, dedup_from}
use Rattle.std.specs.List.Retain.{IsFiltered, DiffersFromLast}
use Rattle.std.specs.List.Sorted.{IsPermutation, IsSorted, IsStrictlyIncreasing}
use Rattle.std.specs.Ordering.{nat_cmp}
use Rattle.std.proofs.lemmas.List.Filters.{dedup_is}
use Rattle.std.proofs.lemmas.List.Sorted.{list_any-IsPermutation}
use Rattle.std.proofs.lemmas.Map.Keys.{IsStrictlyIncreasing-dedup}
use Rattle.px_chain.specs.Clause.{has, with_literal, clause_of, Ascends, IsOver, variable_of}
use Rattle.px_chain.specs.Resolution.{without}

-- A literal put into a clause stands in it, beside those that stood there.
pub has-with_literal : (l : ℕ) (c : List ℕ) (k : ℕ) → has (with_literal l c) k ≡ (eqb l k || has c k)
has-with_literal l [] k = refl
has-with_literal l (m ∷ c) k = grind (arith, nat_tests, has-with_literal l c k)

-- what a list holds, its clause holds
pub has-clause_of : (xs : List ℕ) (k : ℕ) → has (clause_of xs) k ≡ has xs k
has-clause_of [] k = refl
has-clause_of (l ∷ xs) k = grind (arith, has-with_literal l (clause_of xs) k, has-clause_of xs k)

pub has-append : (xs ys : List ℕ) (k : ℕ) → has (xs ++ ys) k ≡ (has xs k || has ys k)
has-append xs ys k = list_any-append (λ m. eqb m k) xs ys

pub has-without : (c : List ℕ) (l k : ℕ) → has (without c l) k ≡ (has c k && not (eqb k l))
has-without [] l k = refl
has-without (m ∷ c) l k = grind (arith, nat_tests, has-without c l k)

-- a fact of each member is one of each element
pub all_from_has : (P : ℕ → Type 0) (xs : List ℕ) → ((k : ℕ) → has xs k ≡ true → P k) → AllByRecursion P xs
all_from_has P [] each = tt
all_from_has P (x ∷ xs) each = (each x (grind (arith, nat_tests)), all_from_has P xs (λ k h. each k (grind (arith, nat_tests, h))))

pub has_from_all : (P : ℕ → Type 0) (xs : List ℕ) → AllByRecursion P xs → (k : ℕ) → has xs k ≡ true → P k
has_from_all P [] all k h = absurd (true≢false (sym h))
has_from_all P (x ∷ xs) all k h =
    ⊎_elim (λ e. subst P (eqb-true x k e) all.0) (λ rest. has_from_all P xs all.1 k rest) (or_cases (eqb x k) (has xs k) h)

-- what is in a list below a number is in it
pub over_has : (vars : ℕ) (xs ys : List ℕ) → ((k : ℕ) → has ys k ≡ true → has xs k ≡ true) → IsOver vars xs → IsOver vars ys
over_has vars xs ys keeps over =
    all_from_has (λ l. variable_of l < vars) ys (λ k h. has_from_all (λ l. variable_of l < vars) xs over k (keeps k h))

pub IsOver-clause_of : (vars : ℕ) (xs : List ℕ) → IsOver vars xs → IsOver vars (clause_of xs)
IsOver-clause_of vars xs over = over_has vars xs (clause_of xs) (λ k h. grind (arith, has-clause_of xs k)) over

-- below each later literal
all_weaker : (a b : ℕ) (xs : List ℕ) → a < b → AllByRecursion (λ m. b < m) xs → AllByRecursion (λ m. a < m) xs
all_weaker a b [] lt all = tt
all_weaker a b (x ∷ xs) lt all = (omega (arith, all.0), all_weaker a b xs lt all.1)

above_with : (a l : ℕ) (c : List ℕ) → a < l → AllByRecursion (λ m. a < m) c → AllByRecursion (λ m. a < m) (with_literal l c)
above_with a l c lt all =
    all_from_has (λ m. a < m) (with_literal l c) (λ k h.
    ⊎_elim (λ e. let s : l ≡ k = eqb-true l k e in omega arith) (λ rest. has_from_all (λ m. a < m) c all k rest) (or_cases (eqb l k) (has c k) (sym (has-with_literal l c k) ∙ h)))

pub Ascends-with_literal : (l : ℕ) (c : List ℕ) → Ascends c → Ascends (with_literal l c)
Ascends-with_literal l [] up = (tt, tt)
Ascends-with_literal l (m ∷ c) up =
    cond_both (ltb l m) (l ∷ m ∷ c) (cond (eqb l m) (m ∷ c) (m ∷ with_literal l c)) Ascends
    (λ e. let lt : l < m = ltb-true l m e in ((lt, all_weaker l m c lt up.0), up))
    (λ e. cond_both (eqb l m) (m ∷ c) (m ∷ with_literal l c) Ascends (λ _. up) (λ f.
    let lt : m < l = let ge : m ≤ l = ltb-false l m e in let ne : l ≡ m → ⊥ = eqb-false l m f in omega arith in
    (above_with m l c lt up.0, Ascends-with_literal l c up.1)))

pub Ascends-clause_of : (xs : List ℕ) → Ascends (clause_of xs)
Ascends-clause_of [] = tt
Ascends-clause_of (l ∷ xs) = Ascends-with_literal l (clause_of xs) (Ascends-clause_of xs)

-- the first literal of an ascending clause stands in no later place
not_later : (x : ℕ) (xs : List ℕ) → AllByRecursion (λ m. x < m) xs → (k : ℕ) → k ≤ x → has xs k ≡ false
not_later x [] all k le = refl
not_later x (y ∷ xs) all k le = let ne : eqb y k ≡ false = ne_eqb y k (λ e. omega (arith, all.0)) in grind (arith, ne, not_later x xs all.1 k le)

-- clauses that ascend and hold the same literals are one
first_same : (x y : ℕ) (xs ys : List ℕ) → Ascends (y ∷ ys) → ((k : ℕ) → has (x ∷ xs) k ≡ has (y ∷ ys) k) → y ≤ x
first_same x y xs ys up same =
    ⊎_elim
    (λ lt. let ne : eqb y x ≡ false = ne_eqb y x (λ e. omega arith) in let here : eqb x x ≡ true = eq-eqb x x refl in
    absurd (both_ways (has ys x) (not_later y ys up.0 x (omega arith)) (grind (arith, same x, ne, here))))
    (λ ge. ge)
    (cases_lt x y)

rest_same : (x : ℕ) (xs ys : List ℕ) → Ascends (x ∷ xs) → Ascends (x ∷ ys) → ((k : ℕ) → has (x ∷ xs) k ≡ has (x ∷ ys) k) → (k : ℕ) → has xs k ≡ has ys k
rest_same x xs ys up vp same k =
    ⊎_elim
    (λ lt. let ne : eqb x k ≡ false = ne_eqb x k (λ e. omega arith) in grind (arith, same k, ne))
    (λ ge. not_later x xs up.0 k ge ∙ sym (not_later x ys vp.0 k ge))
    (cases_lt x k)

-- clauses that ascend and hold the same literals are one
pub same_clause : (xs ys : List ℕ) → Ascends xs → Ascends ys → ((k : ℕ) → has xs k ≡ has ys k) → xs ≡ ys
same_clause [] [] up vp same = refl
same_clause [] (y ∷ ys) up vp same = let here : eqb y y ≡ true = eq-eqb y y refl in grind (arith, same y, here)
same_clause (x ∷ xs) [] up vp same = let here : eqb x x ≡ true = eq-eqb x x refl in grind (arith, same x, here)
same_clause (x ∷ xs) (y ∷ ys) up vp same =
    let e : x ≡ y = (let le = first_same x y xs ys vp same in let ge = first_same y x ys xs up (λ k. sym (same k)) in omega arith) in
    let vp' = subst (λ z. Ascends (z ∷ ys)) (sym e) vp in
    let same' = subst (λ z. (k : ℕ) → has (x ∷ xs) k ≡ has (z ∷ ys) k) (sym e) same in
    ap₂ (λ z zs. z ∷ zs) e (same_clause xs ys up.1 vp.1 (rest_same x xs ys up vp' same'))

-- an ascending clause that holds what a list holds is the list's clause
pub clause_of-unique : (xs c : List ℕ) → Ascends c → ((k : ℕ) → has c k ≡ has xs k) → c ≡ clause_of xs
clause_of-unique xs c up same = same_clause c (clause_of xs) up (Ascends-clause_of xs) (λ k. same k ∙ sym (has-clause_of xs k))

-- a clause stands for itself
pub clause_of-again : (xs : List ℕ) → clause_of (clause_of xs) ≡ clause_of xs
clause_of-again xs = sym (clause_of-unique (clause_of xs) (clause_of xs) (Ascends-clause_of xs) (λ k. refl))

pub clause_of-ascending : (c : List ℕ) → Ascends c → clause_of c ≡ c
clause_of-ascending c up = sym (clause_of-unique c c up (λ k. refl))

-- a list where each number is below the next ascends
later : (x : ℕ) (xs : List ℕ) → IsStrictlyIncreasing (x ∷ xs) → IsStrictlyIncreasing xs
later x xs up k h = rw add-one (rw add-one at (up (suc k) (omega arith)))

above_first : (x : ℕ) (xs : List ℕ) → IsStrictlyIncreasing (x ∷ xs) → AllByRecursion (λ m. x < m) xs
above_first x [] up = tt
above_first x (y ∷ xs) up = let lt : x < y = up 0 (omega arith) in (lt, all_weaker x y xs lt (above_first y xs (later x (y ∷ xs) up)))

Ascends-from_increasing : (xs : List ℕ) → IsStrictlyIncreasing xs → Ascends xs
Ascends-from_increasing [] up = tt
Ascends-from_increasing (x ∷ xs) up = (above_first x xs up, Ascends-from_increasing xs (later x xs up))

has-dedup_from : (x : ℕ) (xs : List ℕ) (k : ℕ) → has (dedup_from eqb x xs) k ≡ has (x ∷ xs) k
has-dedup_from x [] k = refl
has-dedup_from x (y ∷ xs) k = grind (arith, nat_tests, has-dedup_from x xs k, has-dedup_from y xs k)

has-dedup : (xs : List ℕ) (k : ℕ) → has (dedup eqb xs) k ≡ has xs k
has-dedup [] k = refl
has-dedup (x ∷ xs) k = has-dedup_from x xs k

-- a sort and a `dedup` make the clause of a list
pub clause_of-sorted : (xs ys zs : List ℕ) → IsPermutation xs ys → IsSorted nat_cmp ys → IsFiltered (DiffersFromLast eqb) [] ys zs → zs ≡ clause_of xs
clause_of-sorted xs ys zs moved sorted kept =
    let e : zs ≡ dedup eqb ys = dedup_is eqb ys zs kept in
    rw e (clause_of-unique xs (dedup eqb ys) (Ascends-from_increasing (dedup eqb ys) (IsStrictlyIncreasing-dedup ys sorted))
    (λ k. has-dedup ys k ∙ sym (list_any-IsPermutation (λ m. eqb m k) xs ys moved)))

-- a number past all elements isn't among them
pub not_past : (xs : List ℕ) (n k : ℕ) → ((i : ℕ) → get_or xs i 0 < n) → n ≤ k → has xs k ≡ false
not_past [] n k below le = refl
not_past (x ∷ xs) n k below le =
    let ne : eqb x k ≡ false = ne_eqb x k (λ e. omega (arith, below 0)) in
    grind (arith, ne, not_past xs n k (λ i. below (suc i)) le)
