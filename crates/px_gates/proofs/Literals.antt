-- Literals and clauses under an assignment: a variable's literals, complements, lists of clauses, and what agreement on the variables gives.
use Rattle.std.proofs.Common.{◌≡◌, ℕ, ◌+◌, ◌-◌, ◌*◌, ◌/◌, ◌%◌, ◌<◌, ◌≤◌, Bool, true, false, not, ◌||◌, cond, eqb, ltb, List, [], ◌∷◌, ◌++◌, map, refl, sym, ap, ap₂, ◌∙◌, subst, ◌⊎◌, inl, inr, ⊎_elim, arith}
use Rattle.std.specs.List.{AllByRecursion}
use Rattle.std.proofs.lemmas.Bool.{eqb-true, eq-eqb, ne_eqb, cond_both, cond-true, cond-false, cases_eq}
use Rattle.px_chain.specs.Clause.{Ascends, Valuation, IsOver, MeetsAll, clause_of, complement, holds, is_negated, meets, variable_of, with_literal}
use Rattle.px_chain.specs.Resolution.{negative, positive}
use Rattle.px_gates.specs.Circuit.{Agree}

-- ---- a variable's two literals

pub holds-positive : (a : Valuation) (v : ℕ) → holds a (positive v) ≡ a v
holds-positive a v =
    cond-false (is_negated (2 * v)) _ _ (ne_eqb (2 * v % 2) 1 (λ e. omega arith)) ∙ (let same : 2 * v / 2 ≡ v = omega arith in ap a same)

pub holds-negative : (a : Valuation) (v : ℕ) → holds a (negative v) ≡ not (a v)
holds-negative a v =
    cond-true (is_negated (2 * v + 1)) _ _ (eq-eqb ((2 * v + 1) % 2) 1 (omega arith)) ∙ (let same : (2 * v + 1) / 2 ≡ v = omega arith in ap (λ w. not (a w)) same)

pub variable_of-positive : (v : ℕ) → variable_of (positive v) ≡ v
variable_of-positive v = omega arith

pub complement-positive : (v : ℕ) → complement (positive v) ≡ negative v
complement-positive v = cond-false (is_negated (2 * v)) _ _ (ne_eqb (2 * v % 2) 1 (λ e. omega arith))

pub complement-negative : (v : ℕ) → complement (negative v) ≡ positive v
complement-negative v =
    let even : 2 * v + 1 - 1 ≡ 2 * v = omega arith in
    cond-true (is_negated (2 * v + 1)) _ _ (eq-eqb ((2 * v + 1) % 2) 1 (omega arith)) ∙ even

-- each literal is one of its variable's two
pub literal_cases : (l : ℕ) → (l ≡ positive (variable_of l)) ⊎ (l ≡ negative (variable_of l))
literal_cases l = ⊎_elim (λ odd. inr (omega arith)) (λ even. inl (omega arith)) (cases_eq (l % 2) 1)

twice_not : (b : Bool) → b ≡ not (not b)
twice_not true = refl
twice_not false = refl

-- a complement holds where the literal doesn't
pub holds-complement : (a : Valuation) (l : ℕ) → holds a (complement l) ≡ not (holds a l)
holds-complement a l =
    let v = variable_of l in
    ⊎_elim
    (λ e. subst (λ k. holds a (complement k) ≡ not (holds a k)) (sym e) (ap (holds a) (complement-positive v) ∙ holds-negative a v ∙ ap not (sym (holds-positive a v))))
    (λ e. subst (λ k. holds a (complement k) ≡ not (holds a k)) (sym e)
    (ap (holds a) (complement-negative v) ∙ holds-positive a v ∙ twice_not (a v) ∙ ap not (sym (holds-negative a v))))
    (literal_cases l)

pub variable_of-complement : (l : ℕ) → variable_of (complement l) ≡ variable_of l
variable_of-complement l =
    let v = variable_of l in
    ⊎_elim
    (λ e. let here : complement l ≡ negative v = ap complement e ∙ complement-positive v in omega arith)
    (λ e. let here : complement l ≡ positive v = ap complement e ∙ complement-negative v in omega arith)
    (literal_cases l)

-- ---- literals over the variables below a number

pub over_complement : (n l : ℕ) → variable_of l < n → variable_of (complement l) < n
over_complement n l lt = let same = variable_of-complement l in omega arith

pub IsOver-more : (n more : ℕ) (clause : List ℕ) → n ≤ more → IsOver n clause → IsOver more clause
IsOver-more n more [] le over = tt
IsOver-more n more (l ∷ clause) le over = (omega (arith, over.0), IsOver-more n more clause le over.1)

-- ---- what holds of each element of a list

pub all_append : {X : Type 0} (P : X → Type 0) (xs ys : List X) → AllByRecursion P xs → AllByRecursion P ys → AllByRecursion P (xs ++ ys)
all_append P [] ys front back = back
all_append P (x ∷ xs) ys front back = (front.0, all_append P xs ys front.1 back)

pub all_front : {X : Type 0} (P : X → Type 0) (xs ys : List X) → AllByRecursion P (xs ++ ys) → AllByRecursion P xs
all_front P [] ys all = tt
all_front P (x ∷ xs) ys all = (all.0, all_front P xs ys all.1)

pub all_back : {X : Type 0} (P : X → Type 0) (xs ys : List X) → AllByRecursion P (xs ++ ys) → AllByRecursion P ys
all_back P [] ys all = all
all_back P (x ∷ xs) ys all = all_back P xs ys all.1

pub all_weaker : {X : Type 0} (P Q : X → Type 0) (xs : List X) → ((x : X) → P x → Q x) → AllByRecursion P xs → AllByRecursion Q xs
all_weaker P Q [] f all = tt
all_weaker P Q (x ∷ xs) f all = (f x all.0, all_weaker P Q xs f all.1)

-- ---- clauses that an assignment meets

abbrev pub Met : Valuation → List ℕ → Type 0
Met a clause = meets a clause ≡ true

pub MeetsAll-append : (a : Valuation) (xs ys : List (List ℕ)) → MeetsAll a xs → MeetsAll a ys → MeetsAll a (xs ++ ys)
MeetsAll-append a xs ys = all_append (Met a) xs ys

pub MeetsAll-front : (a : Valuation) (xs ys : List (List ℕ)) → MeetsAll a (xs ++ ys) → MeetsAll a xs
MeetsAll-front a xs ys = all_front (Met a) xs ys

pub MeetsAll-back : (a : Valuation) (xs ys : List (List ℕ)) → MeetsAll a (xs ++ ys) → MeetsAll a ys
MeetsAll-back a xs ys = all_back (Met a) xs ys

or_false : (b : Bool) → b ≡ (b || false)
or_false true = refl
or_false false = refl

-- a clause of one literal
pub one-meets : (a : Valuation) (l : ℕ) → holds a l ≡ true → meets a (l ∷ []) ≡ true
one-meets a l held = ap (λ b. b || false) held

pub meets-one : (a : Valuation) (l : ℕ) → meets a (l ∷ []) ≡ true → holds a l ≡ true
meets-one a l met = or_false (holds a l) ∙ met

or_again : (b c : Bool) → (b || c) ≡ (b || (b || c))
or_again true c = refl
or_again false c = refl

or_swap : (b c d : Bool) → (c || (b || d)) ≡ (b || (c || d))
or_swap true true d = refl
or_swap true false d = refl
or_swap false true d = refl
or_swap false false d = refl

meets-with_literal : (a : Valuation) (l : ℕ) (c : List ℕ) → meets a (with_literal l c) ≡ (holds a l || meets a c)
meets-with_literal a l [] = refl
meets-with_literal a l (m ∷ c) =
    let P = λ (d : List ℕ). meets a d ≡ (holds a l || meets a (m ∷ c)) in
    cond_both (ltb l m) (l ∷ m ∷ c) (cond (eqb l m) (m ∷ c) (m ∷ with_literal l c)) P (λ _. refl)
    (λ _. cond_both (eqb l m) (m ∷ c) (m ∷ with_literal l c) P
    (λ e. subst (λ k. meets a (m ∷ c) ≡ (holds a k || meets a (m ∷ c))) (sym (eqb-true l m e)) (or_again (holds a m) (meets a c)))
    (λ _. ap (λ b. holds a m || b) (meets-with_literal a l c) ∙ or_swap (holds a l) (holds a m) (meets a c)))

-- a list's clause is met where the list is
pub meets-clause_of : (a : Valuation) (literals : List ℕ) → meets a (clause_of literals) ≡ meets a literals
meets-clause_of a [] = refl
meets-clause_of a (l ∷ literals) = meets-with_literal a l (clause_of literals) ∙ ap (λ b. holds a l || b) (meets-clause_of a literals)

pub MeetsAll-clauses : (a : Valuation) (literals : List (List ℕ)) → MeetsAll a literals → MeetsAll a (map clause_of literals)
MeetsAll-clauses a [] all = tt
MeetsAll-clauses a (first ∷ literals) all = (meets-clause_of a first ∙ all.0, MeetsAll-clauses a literals all.1)

pub MeetsAll-literals : (a : Valuation) (literals : List (List ℕ)) → MeetsAll a (map clause_of literals) → MeetsAll a literals
MeetsAll-literals a [] all = tt
MeetsAll-literals a (first ∷ literals) all = (sym (meets-clause_of a first) ∙ all.0, MeetsAll-literals a literals all.1)

-- ---- assignments that agree

pub holds-agree : (n : ℕ) (a b : Valuation) → Agree n a b → (l : ℕ) → variable_of l < n → holds a l ≡ holds b l
holds-agree n a b agree l lt = ap (λ w. cond (is_negated l) (not w) w) (agree (variable_of l) lt)

pub meets-agree : (n : ℕ) (a b : Valuation) → Agree n a b → (clause : List ℕ) → IsOver n clause → meets a clause ≡ meets b clause
meets-agree n a b agree [] over = refl
meets-agree n a b agree (l ∷ clause) over = ap₂ (λ x y. x || y) (holds-agree n a b agree l over.0) (meets-agree n a b agree clause over.1)

pub MeetsAll-agree : (n : ℕ) (a b : Valuation) → Agree n a b → (clauses : List (List ℕ)) → AllByRecursion (λ clause. Ascends clause × IsOver n clause) clauses
    → MeetsAll a clauses → MeetsAll b clauses
MeetsAll-agree n a b agree [] over all = tt
MeetsAll-agree n a b agree (clause ∷ clauses) over all = (sym (meets-agree n a b agree clause over.0.1) ∙ all.0, MeetsAll-agree n a b agree clauses over.1 all.1)
