-- Sets of literals by their marks, and the least one that is closed under clauses.
use Rattle.std.proofs.Common.{◌≡◌, ◌≢◌, ℕ, zero, suc, ◌+◌, ◌-◌, ◌*◌, ◌/◌, ◌%◌, ◌<◌, Bool, true, false, ◌||◌, eqb, List, [], ◌∷◌, length, get_or, set, take, drop, Some, refl, ap, sym, ◌∙◌, subst, ◌⊎◌, inl, inr, ⊎_elim, arith, take-append-drop, drop-cons, get_or-set_other}
use Rattle.std.specs.Bool.{OnFalse, OnTrue}
use Rattle.std.specs.List.{AllByRecursion, Contains, slice_get}
use Rattle.std.proofs.lemmas.Bool.{eqb-true, eq-eqb, ne_eqb, true≢false, eqb-false, cases_eq, cases_Bool, cond-true, cond-false, or_cases, or_left, or_right}
use Rattle.std.proofs.lemmas.Bool.Decides.{nat_tests}
use Rattle.std.proofs.lemmas.Grind.{get_or-set_at}
use Rattle.std.proofs.lemmas.List.{take_more}
use Rattle.std.proofs.lemmas.List.Elements.{All-contains, All-from_recursion}
use Rattle.px_chain.specs.declared.propagation.Open.{Open}
use Rattle.px_chain.specs.declared.propagation.Open.TheVariants as opens
use Rattle.px_chain.specs.Clause.{complement, has, is_negated}
use Rattle.px_chain.specs.Closure.{Has, HasFalse, IsClosedUnder, IsClosure, IsSound, KeepsMarks, CountsOpen, unmarked}
use Rattle.px_chain.specs.Propagation.{Closed, Given, Follows, IsConflict, Both, Empty}
use Rattle.px_chain.proofs.Members.{has-append, has_from_all}

-- one literal more of a list
has_more : (xs : List ℕ) (i : ℕ) (k : ℕ) → i < length xs → has (take (i + 1) xs) k ≡ (has (take i xs) k || eqb (get_or xs i 0) k)
has_more xs i k lt = ap (λ c. has c k) (take_more xs i 0 lt) ∙ has-append (take i xs) (get_or xs i 0 ∷ []) k ∙ grind arith

-- the count of what isn't marked
unmarked-set : (marks : List Bool) (l : ℕ) → l < length marks → get_or marks l false ≡ false → unmarked (set marks l true) + 1 ≡ unmarked marks
unmarked-set [] l lt e = absurd (omega arith)
unmarked-set (true ∷ marks) zero lt e = absurd (true≢false e)
unmarked-set (false ∷ marks) zero lt e = omega arith
unmarked-set (true ∷ marks) (suc l) lt e = unmarked-set marks l (omega arith) e
unmarked-set (false ∷ marks) (suc l) lt e = omega (arith, unmarked-set marks l (omega arith) e)

-- how far literals are marked
pub record AreMarked (old new : List Bool) (literals : List ℕ) (changed : Bool) : Type 0 where
  pub marked : (k : ℕ) → get_or new k false ≡ (get_or old k false || has literals k)
  pub same : OnFalse changed (new ≡ old)
  pub more : OnTrue changed (unmarked new < unmarked old)

pub AreMarked-none : (marks : List Bool) → AreMarked marks marks [] false
AreMarked-none marks = record { marked = λ k. grind arith; same = refl; more = tt }

pub AreMarked-same : (old new : List Bool) (literals : List ℕ) (i : ℕ) (changed : Bool) → i < length literals → get_or new (get_or literals i 0) false ≡ true
    → AreMarked old new (take i literals) changed → AreMarked old new (take (i + 1) literals) changed
AreMarked-same old new literals i changed lt here is = record {
  marked = λ k. grind (arith, nat_tests, is.marked k, is.marked (get_or literals i 0), has_more literals i k lt, here);
  same = is.same;
  more = is.more;
}

fewer : (old new after : List Bool) (changed : Bool) → OnFalse changed (new ≡ old) → OnTrue changed (unmarked new < unmarked old) → unmarked after + 1 ≡ unmarked new → unmarked after < unmarked old
fewer old new after true same more e = omega (arith, more)
fewer old new after false same more e = let s = ap unmarked same in omega arith

pub AreMarked-more : (old new : List Bool) (literals : List ℕ) (i : ℕ) (changed : Bool) → i < length literals → get_or literals i 0 < length new → get_or new (get_or literals i 0) false ≡ false
    → AreMarked old new (take i literals) changed → AreMarked old (set new (get_or literals i 0) true) (take (i + 1) literals) true
AreMarked-more old new literals i changed lt below here is =
    let l = get_or literals i 0 in
    record {
      marked = λ k.
          ⊎_elim
          (λ e. let same : eqb l k ≡ true = eq-eqb l k e in grind (arith, same, get_or-set_at new l k true false (sym e) below, has_more literals i k lt))
          (λ ne. let other : eqb l k ≡ false = ne_eqb l k ne in grind (arith, other, get_or-set_other new l k true false (λ e. ne (sym e)), is.marked k, has_more literals i k lt))
          (cases_eq l k);
      same = tt;
      more = fewer old new (set new l true) changed is.same is.more (unmarked-set new l below here);
    }

first_in : (clause : List ℕ) (i : ℕ) → i < length clause → has (drop i clause) (get_or clause i 0) ≡ true
first_in clause i lt = rw (drop-cons clause i 0 lt) (or_left (eqb (get_or clause i 0) (get_or clause i 0)) (has (drop (suc i) clause) (get_or clause i 0)) (eq-eqb (get_or clause i 0) (get_or clause i 0) refl))

-- which literals of the first of a clause aren't false
module _ (marks : List Bool) (clause : List ℕ) (i : ℕ) (lt : i < length clause) where
  at_most : (k : ℕ) → has (take (i + 1) clause) k ≡ true → (has (take i clause) k ≡ true) ⊎ (get_or clause i 0 ≡ k)
  at_most k h = ⊎_elim (λ before. inl before) (λ here. inr (eqb-true (get_or clause i 0) k here)) (or_cases (has (take i clause) k) (eqb (get_or clause i 0) k) (sym (has_more clause i k lt) ∙ h))

  before_in : (k : ℕ) → has (take i clause) k ≡ true → has (take (i + 1) clause) k ≡ true
  before_in k h = has_more clause i k lt ∙ or_left (has (take i clause) k) (eqb (get_or clause i 0) k) h

  here_in : has (take (i + 1) clause) (get_or clause i 0) ≡ true
  here_in = has_more clause i (get_or clause i 0) lt ∙ or_right (has (take i clause) (get_or clause i 0)) (eqb (get_or clause i 0) (get_or clause i 0)) (eq-eqb (get_or clause i 0) (get_or clause i 0) refl)

  all_in : (k : ℕ) → has (take i clause) k ≡ true → has clause k ≡ true
  all_in k h = subst (λ c. has c k ≡ true) (take-append-drop i clause) (has-append (take i clause) (drop i clause) k ∙ or_left (has (take i clause) k) (has (drop i clause) k) h)

  here_in_all : has clause (get_or clause i 0) ≡ true
  here_in_all = subst (λ c. has c (get_or clause i 0) ≡ true) (take-append-drop i clause)
      (has-append (take i clause) (drop i clause) (get_or clause i 0) ∙ or_right (has (take i clause) (get_or clause i 0)) (has (drop i clause) (get_or clause i 0)) (first_in clause i lt))

  pub CountsOpen-false : (found : Open) → HasFalse marks (get_or clause i 0) → CountsOpen marks (take i clause) found → CountsOpen marks (take (i + 1) clause) found
  CountsOpen-false opens.Nothing is tells = λ m h. ⊎_elim (tells m) (λ e. subst (HasFalse marks) e is) (at_most m h)
  CountsOpen-false (opens.Single l) is tells =
      (before_in l tells.0, tells.1, λ m h ne. ⊎_elim (λ before. tells.2 m before ne) (λ e. subst (HasFalse marks) e is) (at_most m h))
  CountsOpen-false opens.Several is tells = (tells.0, tells.1, before_in tells.0 tells.2, before_in tells.1 tells.3, tells.4, tells.5, tells.6)

  pub CountsOpen-first : (HasFalse marks (get_or clause i 0) → ⊥) → CountsOpen marks (take i clause) opens.Nothing → CountsOpen marks (take (i + 1) clause) (opens.Single (get_or clause i 0))
  CountsOpen-first is tells = (here_in, is, λ m h ne. ⊎_elim (tells m) (λ e. absurd (ne (sym e))) (at_most m h))

  pub CountsOpen-again : (l : ℕ) → l ≡ get_or clause i 0 → CountsOpen marks (take i clause) (opens.Single l) → CountsOpen marks (take (i + 1) clause) (opens.Single l)
  CountsOpen-again l e tells = (before_in l tells.0, tells.1, λ m h ne. ⊎_elim (λ before. tells.2 m before ne) (λ f. absurd (ne (sym f ∙ sym e))) (at_most m h))

  pub CountsOpen-second : (l : ℕ) → l ≢ get_or clause i 0 → (HasFalse marks (get_or clause i 0) → ⊥) → CountsOpen marks (take i clause) (opens.Single l) → CountsOpen marks clause opens.Several
  CountsOpen-second l ne is tells = (l, get_or clause i 0, all_in l tells.0, here_in_all, ne, tells.1, is)

  pub CountsOpen-several : CountsOpen marks (take i clause) opens.Several → CountsOpen marks clause opens.Several
  CountsOpen-several tells = (tells.0, tells.1, all_in tells.0 tells.2, all_in tells.1 tells.3, tells.4, tells.5, tells.6)

-- `has` and `Contains` say the same
pub has-Contains : (xs : List ℕ) (k : ℕ) → Contains xs k → has xs k ≡ true
has-Contains xs k there = subst (λ j. has xs j ≡ true) there.2 (subst (λ c. has c (get_or xs there.0 k) ≡ true) (take-append-drop there.0 xs)
    (has-append (take there.0 xs) (drop there.0 xs) (get_or xs there.0 k) ∙ or_right (has (take there.0 xs) (get_or xs there.0 k)) (has (drop there.0 xs) (get_or xs there.0 k))
    (rw (drop-cons xs there.0 k there.1) (or_left (eqb (get_or xs there.0 k) (get_or xs there.0 k)) (has (drop (suc there.0) xs) (get_or xs there.0 k)) (eq-eqb (get_or xs there.0 k) (get_or xs there.0 k) refl)))))

pub Contains-has : (xs : List ℕ) (k : ℕ) → has xs k ≡ true → Contains xs k
Contains-has [] k there = absurd (true≢false (sym there))
Contains-has (x ∷ xs) k there =
    ⊎_elim (λ e. (0, omega arith, eqb-true x k e)) (λ later. let w = Contains-has xs k later in (suc w.0, omega (arith, w.1), w.2)) (or_cases (eqb x k) (has xs k) there)

-- literals that are marked beside those that were
module _ (old new : List Bool) (literals : List ℕ) (is : (k : ℕ) → get_or new k false ≡ (get_or old k false || has literals k)) where
  pub KeepsMarks-marked : KeepsMarks old new
  KeepsMarks-marked k h = is k ∙ or_left (get_or old k false) (has literals k) h

  pub Has-marked : (k : ℕ) → has literals k ≡ true → Has new k
  Has-marked k h = is k ∙ or_right (get_or old k false) (has literals k) h

  pub IsSound-marked : (clauses : List (List ℕ)) (given : List ℕ) → IsSound clauses given old → ((k : ℕ) → has literals k ≡ true → Closed clauses given k) → IsSound clauses given new
  IsSound-marked clauses given sound follows k h = ⊎_elim (sound k) (follows k) (or_cases (get_or old k false) (has literals k) (sym (is k) ∙ h))

-- what a clause makes follow
module _ (clauses : List (List ℕ)) (given : List ℕ) (marks : List Bool) (clause : List ℕ) (there : Contains clauses clause) (sound : IsSound clauses given marks) where
  pub follow-nothing : CountsOpen marks clause opens.Nothing → (k : ℕ) → has clause k ≡ true → Closed clauses given k
  follow-nothing tells k h = Follows clause k there (Contains-has clause k h) (λ m within ne. sound (complement m) (tells m (has-Contains clause m within)))

  pub follow-single : (l : ℕ) → CountsOpen marks clause (opens.Single l) → (k : ℕ) → has (l ∷ []) k ≡ true → Closed clauses given k
  follow-single l tells k h =
      let e : l ≡ k = ⊎_elim (λ same. eqb-true l k same) (λ none. absurd (true≢false (sym none))) (or_cases (eqb l k) false h) in
      subst (Closed clauses given) e (Follows clause l there (Contains-has clause l tells.0) (λ m within ne. sound (complement m) (tells.2 m (has-Contains clause m within) ne)))

-- a set that is closed under a clause
pub closed-nothing : (old new : List Bool) (clause : List ℕ) → ((k : ℕ) → get_or new k false ≡ (get_or old k false || has clause k)) → IsClosedUnder new clause
closed-nothing old new clause is l h others = Has-marked old new clause is l h

pub closed-single : (marks : List Bool) (clause : List ℕ) (l : ℕ) → CountsOpen marks clause (opens.Single l) → Has marks l → IsClosedUnder marks clause
closed-single marks clause l tells here k h others =
    ⊎_elim (λ e. subst (Has marks) e here) (λ ne. absurd (tells.1 (others l tells.0 ne))) (cases_eq l k)

pub closed-several : (marks : List Bool) (clause : List ℕ) → CountsOpen marks clause opens.Several → IsClosedUnder marks clause
closed-several marks clause tells k h others =
    ⊎_elim
    (λ e. absurd (tells.6 (others tells.1 tells.3 (λ f. tells.4 (e ∙ sym f)))))
    (λ ne. absurd (tells.5 (others tells.0 tells.2 ne)))
    (cases_eq tells.0 k)

-- a set that is closed under all clauses has all that follows
module _ (clauses : List (List ℕ)) (given : List ℕ) (marks : List Bool) (all : AllByRecursion (Has marks) given) (closed : AllByRecursion (IsClosedUnder marks) clauses) where
  closure-has : {l : ℕ} → Closed clauses given l → Has marks l
  closure-has (Given l there) = has_from_all (Has marks) given all l (has-Contains given l there)
  closure-has (Follows clause l in_clauses within others) =
      All-contains (IsClosedUnder marks) clauses clause (All-from_recursion (IsClosedUnder marks) clauses closed) in_clauses l (has-Contains clause l within)
      (λ m h ne. closure-has (others m (Contains-has clause m h) ne))

  pub closure : IsSound clauses given marks → IsClosure clauses given marks
  closure sound = λ l. (sound l, closure-has)

-- a variable's two literals
pub complement-even : (v : ℕ) → complement (2 * v) ≡ 2 * v + 1
complement-even v = cond-false (is_negated (2 * v)) (2 * v - 1) (2 * v + 1) (ne_eqb (2 * v % 2) 1 (λ e. omega arith))

pub complement-odd : (v : ℕ) → complement (2 * v + 1) ≡ 2 * v
complement-odd v = cond-true (is_negated (2 * v + 1)) (2 * v + 1 - 1) (2 * v + 1 + 1) (eq-eqb ((2 * v + 1) % 2) 1 (omega arith)) ∙ omega arith

pub by_variable : (l : ℕ) → ((l ≡ 2 * (l / 2)) × (complement l ≡ 2 * (l / 2) + 1)) ⊎ ((l ≡ 2 * (l / 2) + 1) × (complement l ≡ 2 * (l / 2)))
by_variable l =
    ⊎_elim
    (λ odd. let e : l ≡ 2 * (l / 2) + 1 = (let r = eqb-true (l % 2) 1 odd in omega arith) in inr (e, ap complement e ∙ complement-odd (l / 2)))
    (λ even. let e : l ≡ 2 * (l / 2) = (let r = eqb-false (l % 2) 1 even in omega arith) in inl (e, ap complement e ∙ complement-even (l / 2)))
    (cases_Bool (is_negated l))

pub complement-twice : (l : ℕ) → complement (complement l) ≡ l
complement-twice l =
    ⊎_elim (λ e. ap complement e.1 ∙ complement-odd (l / 2) ∙ sym e.0) (λ e. ap complement e.1 ∙ complement-even (l / 2) ∙ sym e.0) (by_variable l)

pub complement-other : (l : ℕ) → complement l ≢ l
complement-other l same = ⊎_elim (λ e. absurd (omega arith)) (λ e. absurd (omega arith)) (by_variable l)

pub both_marked : (marks : List Bool) (l : ℕ) → Has marks l → HasFalse marks l → Has marks (2 * (l / 2)) × Has marks (2 * (l / 2) + 1)
both_marked marks l here other =
    ⊎_elim (λ e. (subst (Has marks) e.0 here, subst (Has marks) e.1 other)) (λ e. (subst (Has marks) e.1 other, subst (Has marks) e.0 here)) (by_variable l)

-- a set of all that follows shows a conflict
pub conflict-from : (clauses : List (List ℕ)) (given : List ℕ) (marks : List Bool) → IsClosure clauses given marks
    → ((l : ℕ) × Has marks l × HasFalse marks l) ⊎ Contains clauses [] → IsConflict clauses given
conflict-from clauses given marks is (inl w) = Both w.0 ((is w.0).0 w.1) ((is (complement w.0)).0 w.2)
conflict-from clauses given marks is (inr empty) = Empty empty

pub from-conflict : (clauses : List (List ℕ)) (given : List ℕ) (marks : List Bool) → IsClosure clauses given marks → IsConflict clauses given
    → ((l : ℕ) × Has marks l × HasFalse marks l) ⊎ Contains clauses []
from-conflict clauses given marks is (Both l here other) = inl (l, (is l).1 here, (is (complement l)).1 other)
from-conflict clauses given marks is (Empty empty) = inr empty

-- how far a round has gone
pub record HasGone (clauses : List (List ℕ)) (old new : List Bool) (number : ℕ) (changed : Bool) : Type 0 where
  pub keeps : KeepsMarks old new
  pub sound : (given : List ℕ) → IsSound clauses given old → IsSound clauses given new
  pub same : OnFalse changed (new ≡ old)
  pub closed : OnFalse changed ((k : ℕ) (clause : List ℕ) → k < number → slice_get clauses k ≡ Some clause → IsClosedUnder new clause)
  pub more : OnTrue changed (unmarked new < unmarked old)

pub all_kept : (old new : List Bool) (literals : List ℕ) → KeepsMarks old new → AllByRecursion (Has old) literals → AllByRecursion (Has new) literals
all_kept old new [] keeps all = tt
all_kept old new (l ∷ literals) keeps all = (keeps l all.0, all_kept old new literals keeps all.1)
