-- The count of open literals: at the start, with a resolution, and where it has come to one.
use Rattle.std.proofs.Common.{◌≡◌, ◌≢◌, ℕ, ◌+◌, ◌<◌, ◌≤◌, Bool, true, false, not, ◌&&◌, ◌||◌, eqb, List, [], ◌∷◌, ◌++◌, length, count_by, Some, refl, ap, ap₂, sym, ◌∙◌, subst, ⊎_elim, arith}
use Rattle.std.specs.List.{slice_get}
use Rattle.std.proofs.lemmas.Bool.{and_from, and_parts, both_ways, cases_eq, eq-eqb, false_from_ne_true, false≢true, ne_eqb, or_right}
use Rattle.px_chain.specs.declared.chain.Chain.{Chain}
use Rattle.px_chain.specs.Clause.{Ascends, IsOver, complement, has, variable_of}
use Rattle.px_chain.specs.Marks.{Resolves}
use Rattle.px_chain.specs.Propagation.{Closed, HasOneOpen}
use Rattle.px_chain.specs.Resolution.{Derives, joined, resolvent}
use Rattle.px_chain.proofs.Closures.{Contains-has, complement-other, complement-twice, has-Contains}
use Rattle.px_trail.specs.Trail.{AllFalse, IsTrail, View, literals_of, reason_of}
use Rattle.px_trail.proofs.Lookups.{never_both}
use Rattle.px_trail.proofs.Trails.{has_before}
use Rattle.px_sat.specs.Descent.{WasQuiet}
use Rattle.px_sat.specs.Learning.{IsChain, is_deep, is_new}
use Rattle.px_sat.proofs.Counting.{count-complements, count-element, count-no, count-one, count-same, count-sum, one_if}
use Rattle.px_sat.proofs.Opening.{ascends-distinct, before_not_deep, deep-complement, literals_before, next_deep, shallow, some_open-step, open_in}
use Rattle.px_sat.proofs.Steps.{literals-distinct}
use Rattle.px_sat.proofs.Tracing.{IsTraced, derives_by, has-joined, left-stands, new_is, next_of, not_earlier, not_in, reason_has, reason_others, stands, traced-resolve}

and_comm : (a b : Bool) → (a && b) ≡ (b && a)
and_comm true true = refl
and_comm true false = refl
and_comm false true = refl
and_comm false false = refl

and_true : (a b : Bool) → b ≡ true → (a && b) ≡ a
and_true true b e = e
and_true false b e = refl

-- the false clause, before any resolution
pub open-start : (v : View) (depth : ℕ) (making clause : List ℕ) → IsTrail v → making ≡ [] → Ascends clause → AllFalse (literals_of v.steps) clause
    → count_by (is_new v depth making) clause ≡ open_in v depth clause
open-start v depth making clause trail none up all =
    let apart = literals-distinct v.steps trail.assignment.apart in
    count-same (is_new v depth making) (λ m. is_deep v depth m && has (literals_of v.steps) (complement m)) clause (λ m h.
    ap (λ (c : List ℕ). not (has c m) && is_deep v depth m) none ∙ sym (and_true (is_deep v depth m) (has (literals_of v.steps) (complement m)) (all m h)))
    ∙ count-complements (is_deep v depth) clause (literals_of v.steps) (ascends-distinct clause up) apart
    ∙ count-same (λ y. is_deep v depth (complement y) && has clause (complement y)) (λ y. has clause (complement y) && is_deep v depth y) (literals_of v.steps) (λ y h.
    and_comm (is_deep v depth (complement y)) (has clause (complement y)) ∙ ap (λ b. has clause (complement y) && b) (deep-complement v depth y))

-- what the tests of a literal add up to
new_itself : (h d e : Bool) → h ≡ false → d ≡ true → e ≡ true → (t : Bool) → one_if (not h && d) + one_if false ≡ one_if ((not h && d && not e) && t) + one_if e
new_itself h d e a b c true = ap₂ (λ x y. one_if (not x && y) + one_if false) a b ∙ sym (ap₂ (λ x y. one_if ((not x && y && not e) && true) + one_if e) a b ∙ ap (λ z. one_if ((not false && true && not z) && true) + one_if z) c)
new_itself h d e a b c false = ap₂ (λ x y. one_if (not x && y) + one_if false) a b ∙ sym (ap₂ (λ x y. one_if ((not x && y && not e) && false) + one_if e) a b ∙ ap (λ z. one_if ((not false && true && not z) && false) + one_if z) c)

new_other : (h d e t : Bool) → e ≡ false → t ≡ true → one_if (not h && d) + one_if false ≡ one_if ((not h && d && not e) && t) + one_if e
new_other true d true t f g = absurd (false≢true (sym f))
new_other true d false t f g = refl
new_other false true true t f g = absurd (false≢true (sym f))
new_other false true false true f g = refl
new_other false true false false f g = absurd (false≢true g)
new_other false false true t f g = absurd (false≢true (sym f))
new_other false false false t f g = refl

-- one element's part in the sum over the trail: in the resolvent, the literal itself, in the clause before, and new
sum_itself : (a c d p q : Bool) → a ≡ true → c ≡ false → d ≡ true → p ≡ true → one_if (((a && not p) || (c && q)) && d) + 1 ≡ one_if (a && d) + one_if ((not a && d && q) && c)
sum_itself true false true true true e f g h = refl
sum_itself true false true true false e f g h = refl
sum_itself true false true false q e f g h = absurd (false≢true h)
sum_itself true false false p q e f g h = absurd (false≢true g)
sum_itself true true d p q e f g h = absurd (false≢true (sym f))
sum_itself false c d p q e f g h = absurd (false≢true e)

sum_other : (a c d p q : Bool) → p ≡ false → one_if (((a && not p) || (c && q)) && d) + 0 ≡ one_if (a && d) + one_if ((not a && d && q) && c)
sum_other a c d true q e = absurd (false≢true (sym e))
sum_other true true true false true e = refl
sum_other true true true false false e = refl
sum_other true false true false true e = refl
sum_other true false true false false e = refl
sum_other true true false false true e = refl
sum_other true true false false false e = refl
sum_other true false false false true e = refl
sum_other true false false false false e = refl
sum_other false true true false true e = refl
sum_other false true true false false e = refl
sum_other false false true false true e = refl
sum_other false false true false false e = refl
sum_other false true false false true e = refl
sum_other false true false false false e = refl
sum_other false false false false true e = refl
sum_other false false false false false e = refl

-- a resolution: the literal's complement leaves, and the literal itself, which is counted as new, doesn't come
module _ (v : View) (depth : ℕ) (making reason : List ℕ) (x : ℕ) (trail : IsTrail v) (up : Ascends reason) (stands : has (literals_of v.steps) x ≡ true)
    (deep : is_deep v depth x ≡ true) (here : has making (complement x) ≡ true) (out : has making x ≡ false) (within : has reason x ≡ true)
    (apart : has reason (complement x) ≡ false) (others : (m : ℕ) → has reason m ≡ true → m ≢ x → has (literals_of v.steps) (complement m) ≡ true) where
  abbrev passes : ℕ → Bool
  passes m = not (has making m) && is_deep v depth m && not (eqb m x)

  new_in_reason : count_by (is_new v depth making) reason ≡ count_by (λ m. passes m && has (literals_of v.steps) (complement m)) reason + 1
  new_in_reason =
      let sum = count-sum (is_new v depth making) (λ m. false) (λ m. passes m && has (literals_of v.steps) (complement m)) (λ m. eqb m x) reason (λ m h.
      ⊎_elim
      (λ same. new_itself (has making m) (is_deep v depth m) (eqb m x) (subst (λ k. has making k ≡ false) (sym same) out) (subst (λ k. is_deep v depth k ≡ true) (sym same) deep) (eq-eqb m x same)
      (has (literals_of v.steps) (complement m)))
      (λ ne. new_other (has making m) (is_deep v depth m) (eqb m x) (has (literals_of v.steps) (complement m)) (ne_eqb m x ne) (others m h ne))
      (cases_eq m x)) in
      let none = count-no (λ m. false) reason (λ m h. refl) in
      let one = count-element reason x (ascends-distinct reason up) within in
      omega arith

  on_trail : count_by (λ m. passes m && has (literals_of v.steps) (complement m)) reason ≡ count_by (λ y. passes (complement y) && has reason (complement y)) (literals_of v.steps)
  on_trail = count-complements passes reason (literals_of v.steps) (ascends-distinct reason up) (literals-distinct v.steps trail.assignment.apart)

  in_new : (new : List ℕ) → new ≡ joined making (complement x) reason x → (y : ℕ) → has new (complement y) ≡ ((has making (complement y) && not (eqb (complement y) (complement x))) || (has reason (complement y) && not (eqb (complement y) x)))
  in_new new is y = ap (λ c. has c (complement y)) is ∙ has-joined making (complement x) reason x (complement y)

  part : (new : List ℕ) → new ≡ joined making (complement x) reason x → (y : ℕ)
      → one_if (has new (complement y) && is_deep v depth y) + one_if (eqb y x)
      ≡ one_if (has making (complement y) && is_deep v depth y) + one_if (passes (complement y) && has reason (complement y))
  part new is y =
      let a = has making (complement y) in let c = has reason (complement y) in let d = is_deep v depth y in
      let p = eqb (complement y) (complement x) in let q = not (eqb (complement y) x) in
      let left = ap (λ b. one_if (b && d) + one_if (eqb y x)) (in_new new is y) in
      let right = ap (λ b. one_if (a && d) + one_if ((not a && b && q) && c)) (sym (deep-complement v depth y)) in
      ⊎_elim
      (λ same.
      left
      ∙ ap (λ b. one_if (((a && not p) || (c && q)) && d) + one_if b) (eq-eqb y x same)
      ∙ sum_itself a c d p q (subst (λ k. has making (complement k) ≡ true) (sym same) here) (subst (λ k. has reason (complement k) ≡ false) (sym same) apart)
      (subst (λ k. is_deep v depth k ≡ true) (sym same) deep) (eq-eqb (complement y) (complement x) (ap complement same))
      ∙ right)
      (λ ne.
      left
      ∙ ap (λ b. one_if (((a && not p) || (c && q)) && d) + one_if b) (ne_eqb y x ne)
      ∙ sum_other a c d p q (ne_eqb (complement y) (complement x) (λ e. ne (sym (complement-twice y) ∙ ap complement e ∙ complement-twice x)))
      ∙ right)
      (cases_eq y x)

  pub open-step : (new : List ℕ) → new ≡ joined making (complement x) reason x → open_in v depth new + 2 ≡ open_in v depth making + count_by (is_new v depth making) reason
  open-step new is =
      let sum = count-sum (λ y. has new (complement y) && is_deep v depth y) (λ y. eqb y x) (λ y. has making (complement y) && is_deep v depth y)
      (λ y. passes (complement y) && has reason (complement y)) (literals_of v.steps) (λ y h. part new is y) in
      let one = count-element (literals_of v.steps) x (literals-distinct v.steps trail.assignment.apart) stands in
      let more = new_in_reason in let same = on_trail in
      omega arith

-- the one literal that is open, where all others were false before the last decision
pub one_open-end : (v : View) (decisions : List ℕ) (last : ℕ) (was : WasQuiet v decisions last) (trail : IsTrail v) (clause : List ℕ) → AllFalse (literals_of v.steps) clause
    → open_in v (length decisions + 1) clause ≡ 1 → HasOneOpen v.clauses decisions clause
one_open-end v decisions last was trail clause all one =
    let depth = length decisions + 1 in
    let w = count-one (λ y. has clause (complement y) && is_deep v depth y) (literals_of v.steps) one in
    let y = w.element in
    let parts = and_parts (has clause (complement y)) (is_deep v depth y) w.passes in
    let closure : (l : ℕ) → Closed v.clauses decisions l → has (literals_of was.before) l ≡ true = λ l c. (was.quiet.closure l).1 (subst (λ ds. Closed v.clauses ds l) (sym was.decided_before) c) in
    record {
      literal = complement y;
      within = Contains-has clause (complement y) parts.0;
      is_open = record {
        literal = λ c. never_both v.vars v.steps y trail.assignment w.within (literals_before v decisions last was (complement y) (closure (complement y) c));
        complement_too = λ c. both_ways (is_deep v depth y)
            (before_not_deep v decisions last was trail y (subst (λ k. has (literals_of was.before) k ≡ true) (complement-twice y) (closure (complement (complement y)) c))) parts.1;
      };
      others = λ m there ne.
          let h = has-Contains clause m there in
          let out : is_deep v depth (complement m) ≡ false = false_from_ne_true (is_deep v depth (complement m)) (λ deep.
          ne (sym (complement-twice m) ∙ ap complement (w.only (complement m) (all m h)
          (and_from (has clause (complement (complement m))) (is_deep v depth (complement m)) (subst (λ k. has clause k ≡ true) (sym (complement-twice m)) h) deep)))) in
          subst (λ ds. Closed v.clauses ds (complement m)) was.decided_before ((was.quiet.closure (complement m)).0 (shallow v decisions last was trail (complement m) (all m h) out));
    }

-- what a turn leaves
pub record TurnsTo (v : View) (depth first : ℕ) (rest : List (ℕ × ℕ)) (earlier clause reason new : List ℕ) : Type 0 where
  pub traced : IsTraced v first rest earlier new
  pub count : open_in v depth new + 2 ≡ open_in v depth clause + count_by (is_new v depth clause) reason
  pub some : 1 ≤ open_in v depth new

-- a turn where two or more literals are open, and the one that is looked at is resolved on
module _ (v : View) (decisions : List ℕ) (last : ℕ) (was : WasQuiet v decisions last) (trail : IsTrail v) (first : ℕ) (rest : List (ℕ × ℕ)) (left clause earlier : List ℕ) (x : ℕ)
    (t : IsTraced v first rest left clause) (e : left ≡ earlier ++ x ∷ []) (several : 1 < open_in v (length decisions + 1) clause) (here : has clause (complement x) ≡ true)
    (number : ℕ) (has_reason : reason_of v.steps (variable_of x) ≡ Some number) (reason : List ℕ) (there : slice_get v.clauses number ≡ Some reason) (up : Ascends reason) where
  on_left : (m : ℕ) → has earlier m ≡ true → has (literals_of v.steps) m ≡ true
  on_left m h = left-stands v first rest left clause t m (subst (λ ls. has ls m ≡ true) (sym e) (has_before earlier (x ∷ []) m h))

  reason_false : (m : ℕ) → has reason m ≡ true → m ≢ x → has (literals_of v.steps) (complement m) ≡ true
  reason_false m h ne = on_left (complement m) (reason_others v first rest left clause earlier x t e trail here number has_reason reason there m h ne)

  no_complement : has reason (complement x) ≡ false
  no_complement =
      false_from_ne_true (has reason (complement x)) (λ h.
      both_ways (has earlier x) (not_earlier v earlier x trail (next_of v first rest left clause earlier x t e))
      (subst (λ k. has earlier k ≡ true) (complement-twice x)
      (reason_others v first rest left clause earlier x t e trail here number has_reason reason there (complement x) h (complement-other x))))

  pub turns_to : (found : Bool) (new : List ℕ) → Resolves (resolvent clause (variable_of x) reason) found new
      → TurnsTo v (length decisions + 1) first (rest ++ (variable_of x, number) ∷ []) earlier clause reason new
  turns_to found new is =
      let new_is' = new_is v first rest left clause earlier x t e trail here number has_reason reason there found new is in
      let within = reason_has v first rest left clause earlier x t e trail here number has_reason reason there in
      let stands' = stands v first rest left clause earlier x t e trail here in
      let deep = next_deep v decisions last was trail first rest left clause earlier x t e several in
      record {
        traced = traced-resolve v first rest left clause earlier x t e trail here number has_reason reason there found new is;
        count = open-step v (length decisions + 1) clause reason x trail up stands' deep here (not_in v first rest left clause earlier x t e trail here) within no_complement reason_false new new_is';
        some = some_open-step v decisions last was trail number reason new x there within stands' deep reason_false (λ m h ne.
            ap (λ c. has c m) new_is' ∙ has-joined clause (complement x) reason x m
            ∙ or_right (has clause m && not (eqb m (complement x))) (has reason m && not (eqb m x)) (ap₂ (λ a b. a && not b) h (ne_eqb m x ne)));
      }

-- a chain of which the claim is false, where one literal of it is open before the last decision
pub record Learns (v : View) (decisions : List ℕ) (chain : Chain) : Type 0 where
  pub over : IsOver v.vars chain.claim
  pub all_false : AllFalse (literals_of v.steps) chain.claim
  pub one_open : HasOneOpen v.clauses decisions chain.claim
  pub derives : Derives v.clauses chain

-- what is learnt where one literal is left open
pub learns_by : (v : View) (decisions : List ℕ) (last : ℕ) (was : WasQuiet v decisions last) (trail : IsTrail v) (vars first : ℕ) (rest : List (ℕ × ℕ)) (left clause : List ℕ)
    → IsTraced v first rest left clause → open_in v (length decisions + 1) clause ≡ 1 → vars ≡ v.vars → (chain : Chain) → IsChain vars first rest clause chain → Learns v decisions chain
learns_by v decisions last was trail vars first rest left clause t one same chain is =
    let all : AllFalse (literals_of v.steps) clause = λ m h. left-stands v first rest left clause t (complement m) (t.all_false m h) in
    record {
      over = subst (λ n. IsOver n chain.claim) same is.over;
      all_false = subst (AllFalse (literals_of v.steps)) (sym is.claim_is) all;
      one_open = subst (HasOneOpen v.clauses decisions) (sym is.claim_is) (one_open-end v decisions last was trail clause all one);
      derives = derives_by v.clauses chain first rest clause is.first_is is.rest_is is.claim_is t.ascends t.gives;
    }

-- in the empty clause no literal is open
pub open-none : (v : View) (depth : ℕ) (clause : List ℕ) → clause ≡ [] → open_in v depth clause ≡ 0
open-none v depth clause none =
    ap (open_in v depth) none ∙ count-no (λ y. has [] (complement y) && is_deep v depth y) (literals_of v.steps) (λ y h. refl)
