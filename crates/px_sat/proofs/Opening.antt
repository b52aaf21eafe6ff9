-- How many literals of the clause in the making became false after the last decision.
use Rattle.std.proofs.Common.{◌≡◌, ◌≢◌, ℕ, ◌+◌, ◌<◌, ◌≤◌, true, false, ◌&&◌, eqb, List, [], ◌∷◌, ◌++◌, length, count_by, Option, Some, None, refl, ap, sym, ◌∙◌, subst, ⊎_elim, arith, append_assoc}
use Rattle.std.specs.List.{AllByRecursion, IsDistinct, slice_get}
use Rattle.std.proofs.lemmas.Bool.{and_from, and_parts, both_ways, cases_lt, eq-eqb, false_from_ne_true, ne_eqb}
use Rattle.px_chain.specs.Clause.{Ascends, complement, has, variable_of}
use Rattle.px_chain.proofs.Closures.{complement-twice}
use Rattle.px_trail.specs.Trail.{AllFalse, IsAssignment, IsFalseClause, IsTrail, Step, View, decisions_of, level_of, literals_of, reason_of}
use Rattle.px_trail.proofs.Lookups.{variable-complement}
use Rattle.px_trail.proofs.Trails.{IsTrail-front, at_steps, contained, false_clause-conflict, has_push}
use Rattle.px_sat.specs.Descent.{WasQuiet}
use Rattle.px_sat.specs.Learning.{is_at, is_deep}
use Rattle.px_sat.proofs.Counting.{count-at_most_one, count-none}
use Rattle.px_sat.proofs.Steps.{decisions-count, decisions-split, has_reason, in_first, in_parts, level_at, literals-distinct, one_decision, stands_at}
use Rattle.px_sat.proofs.Tracing.{IsNext, IsTraced, next_of, reason_of_next}

-- how many literals of a clause became false when so many decisions stood
abbrev pub open_in : View → ℕ → List ℕ → ℕ
open_in v depth clause = count_by (λ y. has clause (complement y) && is_deep v depth y) (literals_of v.steps)

-- an ascending clause holds no literal twice
pub ascends-distinct : (clause : List ℕ) → Ascends clause → IsDistinct eqb clause
unfolding IsDistinct
ascends-distinct [] up = tt
ascends-distinct (l ∷ clause) up = (below clause up.0, ascends-distinct clause up.1)
  where
    below : (xs : List ℕ) → AllByRecursion (λ m. l < m) xs → AllByRecursion (λ m. eqb l m ≡ false) xs
    below [] all = tt
    below (m ∷ xs) all = (ne_eqb l m (λ e. let lt : l < m = all.0 in omega arith), below xs all.1)

is_at-level : (depth n : ℕ) (o : Option ℕ) → o ≡ Some n → is_at depth o ≡ eqb n depth
is_at-level depth n o e = ap (is_at depth) e

-- a literal and its complement have one level
pub deep-complement : (v : View) (depth l : ℕ) → is_deep v depth (complement l) ≡ is_deep v depth l
deep-complement v depth l = ap (λ w. is_at depth (level_of v.steps w)) (variable-complement l)

-- the level of the literal at a place
pub deep_at : (v : View) (depth : ℕ) (front : List Step) (s : Step) (back : List Step) → IsTrail v → v.steps ≡ front ++ s ∷ back
    → is_deep v depth s.literal ≡ eqb (length (decisions_of (front ++ s ∷ []))) depth
deep_at v depth front s back trail e =
    is_at-level depth (length (decisions_of (front ++ s ∷ []))) (level_of v.steps (variable_of s.literal))
    (ap (λ (steps : List Step). level_of steps (variable_of s.literal)) e ∙ level_at v.vars front s back (subst (IsAssignment v.vars) e trail.assignment))

-- a literal before which too few decisions stood
pub not_deep : (v : View) (depth : ℕ) (front back : List Step) (l : ℕ) → IsTrail v → v.steps ≡ front ++ back → length (decisions_of front) < depth → has (literals_of front) l ≡ true
    → is_deep v depth l ≡ false
not_deep v depth front back l trail e few h =
    let w = stands_at front l h in
    let split : v.steps ≡ w.front ++ w.step ∷ (w.back ++ back) = e ∙ ap (λ (steps : List Step). steps ++ back) w.split ∙ append_assoc w.front (w.step ∷ w.back) back in
    let counts = decisions-split w.front w.step w.back in
    let all = ap (λ (steps : List Step). length (decisions_of steps)) w.split in
    subst (λ k. is_deep v depth k ≡ false) w.literal
    (deep_at v depth w.front w.step (w.back ++ back) trail split ∙ ne_eqb (length (decisions_of (w.front ++ w.step ∷ []))) depth (λ same. omega arith))

-- the step of a decision
abbrev pub decided : ℕ → Step
decided literal = record { literal = literal; reason = None }

-- what stood before the last decision stands on the trail
pub literals_before : (v : View) (decisions : List ℕ) (last : ℕ) (was : WasQuiet v decisions last) (l : ℕ) → has (literals_of was.before) l ≡ true → has (literals_of v.steps) l ≡ true
literals_before v decisions last was l h =
    subst (λ (steps : List Step). has (literals_of steps) l ≡ true) (sym was.steps) (in_first was.before (decided last ∷ was.after) l h)

-- the level of a literal from the last decision on
module _ (v : View) (decisions : List ℕ) (last : ℕ) (was : WasQuiet v decisions last) (trail : IsTrail v) where
  total : length (decisions_of v.steps) ≡ length decisions + 1
  total =
      let all = ap (λ (steps : List Step). length (decisions_of steps)) was.steps ∙ decisions-count was.before (decided last ∷ was.after) in
      let before = ap length was.decided_before in
      let after = ap length was.none_after in
      let one = one_decision (decided last) was.after refl in
      omega arith

  before_few : length (decisions_of was.before) < length decisions + 1
  before_few = let before = ap length was.decided_before in omega arith

  pub before_not_deep : (l : ℕ) → has (literals_of was.before) l ≡ true → is_deep v (length decisions + 1) l ≡ false
  before_not_deep l h = not_deep v (length decisions + 1) was.before (decided last ∷ was.after) l trail was.steps before_few h

  -- from the last decision on
  after_count : (f : List Step) (s : Step) (b : List Step) → decided last ∷ was.after ≡ f ++ s ∷ b → length (decisions_of (f ++ s ∷ [])) ≡ 1
  after_count [] s b e =
      let same : decided last ≡ s = cc in
      let one = one_decision s [] (ap (λ (t : Step). t.reason) (sym same)) in omega arith
  after_count (t ∷ f) s b e =
      let same : decided last ≡ t = cc in
      let rest : was.after ≡ f ++ s ∷ b = cc in
      let one = one_decision t (f ++ s ∷ []) (ap (λ (u : Step). u.reason) (sym same)) in
      let none = ap (λ (steps : List Step). length (decisions_of steps)) rest ∙ decisions-split f s b in
      let after = ap length was.none_after in
      omega arith

  pub after_deep : (l : ℕ) → has (literals_of (decided last ∷ was.after)) l ≡ true → is_deep v (length decisions + 1) l ≡ true
  after_deep l h =
      let w = stands_at (decided last ∷ was.after) l h in
      let split : v.steps ≡ (was.before ++ w.front) ++ w.step ∷ w.back =
      was.steps ∙ ap (λ (steps : List Step). was.before ++ steps) w.split ∙ sym (append_assoc was.before w.front (w.step ∷ w.back)) in
      let count = ap (λ (steps : List Step). length (decisions_of steps)) (append_assoc was.before w.front (w.step ∷ [])) ∙ decisions-count was.before (w.front ++ w.step ∷ []) in
      let one = after_count w.front w.step w.back w.split in
      let before = ap length was.decided_before in
      subst (λ k. is_deep v (length decisions + 1) k ≡ true) w.literal
      (deep_at v (length decisions + 1) (was.before ++ w.front) w.step w.back trail split
      ∙ eq-eqb (length (decisions_of ((was.before ++ w.front) ++ w.step ∷ []))) (length decisions + 1) (omega arith))

  -- a literal of another level stood before the last decision
  pub shallow : (l : ℕ) → has (literals_of v.steps) l ≡ true → is_deep v (length decisions + 1) l ≡ false → has (literals_of was.before) l ≡ true
  shallow l h out =
      ⊎_elim (λ before. before) (λ after. absurd (both_ways (is_deep v (length decisions + 1) l) out (after_deep l after)))
      (in_parts was.before (decided last ∷ was.after) l (subst (λ (steps : List Step). has (literals_of steps) l ≡ true) was.steps h))

  -- a clause in the making, of which the literals are false on the trail
  not_counted : (clause : List ℕ) → open_in v (length decisions + 1) clause ≡ 0 → (m : ℕ) → has clause m ≡ true → has (literals_of v.steps) (complement m) ≡ true
      → has (literals_of was.before) (complement m) ≡ true
  not_counted clause none m h stands =
      let test = count-none (λ y. has clause (complement y) && is_deep v (length decisions + 1) y) (literals_of v.steps) (complement m) none stands in
      shallow (complement m) stands
      (false_from_ne_true (is_deep v (length decisions + 1) (complement m)) (λ deep.
      both_ways (has clause (complement (complement m)) && is_deep v (length decisions + 1) (complement m)) test
      (and_from (has clause (complement (complement m))) (is_deep v (length decisions + 1) (complement m)) (subst (λ k. has clause k ≡ true) (sym (complement-twice m)) h) deep)))

  -- some literal of the false clause is of the last level
  pub some_open-start : (number : ℕ) (clause : List ℕ) → slice_get v.clauses number ≡ Some clause → AllFalse (literals_of v.steps) clause → 1 ≤ open_in v (length decisions + 1) clause
  some_open-start number clause there all =
      ⊎_elim (λ some. some)
      (λ none.
      let nothing : open_in v (length decisions + 1) clause ≡ 0 = omega arith in
      let front : View = at_steps v was.before in
      let conflict : IsFalseClause front number = record { clause = clause; there = there; all = λ m h. not_counted clause nothing m h (all m h) } in
      absurd (was.quiet.no_conflict (false_clause-conflict front number (IsTrail-front v was.before (decided last ∷ was.after) was.steps trail) conflict)))
      (cases_lt 0 (open_in v (length decisions + 1) clause))

  -- and so is some literal of what it is resolved to
  pub some_open-step : (number : ℕ) (reason new : List ℕ) (x : ℕ) → slice_get v.clauses number ≡ Some reason → has reason x ≡ true → has (literals_of v.steps) x ≡ true
      → is_deep v (length decisions + 1) x ≡ true → ((m : ℕ) → has reason m ≡ true → m ≢ x → has (literals_of v.steps) (complement m) ≡ true)
      → ((m : ℕ) → has reason m ≡ true → m ≢ x → has new m ≡ true) → 1 ≤ open_in v (length decisions + 1) new
  some_open-step number reason new x there within stands deep others keeps =
      ⊎_elim (λ some. some)
      (λ none.
      let nothing : open_in v (length decisions + 1) new ≡ 0 = omega arith in
      absurd (was.quiet.no_unit reason x (contained v.clauses number reason there) (record {
        within = within;
        unassigned = (
          false_from_ne_true (has (literals_of was.before) x) (λ h. both_ways (is_deep v (length decisions + 1) x) (before_not_deep x h) deep),
          false_from_ne_true (has (literals_of was.before) (complement x)) (λ h. both_ways (is_deep v (length decisions + 1) (complement x)) (before_not_deep (complement x) h) (deep-complement v (length decisions + 1) x ∙ deep)),
        );
        others = λ m h ne. not_counted new nothing m (keeps m h ne) (others m h ne);
      })))
      (cases_lt 0 (open_in v (length decisions + 1) new))

  -- where two or more are open, the literal that is looked at is of the last level, and no decision
  module _ (first : ℕ) (rest : List (ℕ × ℕ)) (left clause earlier : List ℕ) (x : ℕ) (t : IsTraced v first rest left clause) (e : left ≡ earlier ++ x ∷ [])
      (several : 1 < open_in v (length decisions + 1) clause) where
    next : IsNext v earlier x
    next = next_of v first rest left clause earlier x t e

    passes : (y : ℕ) → has (literals_of v.steps) y ≡ true → (has clause (complement y) && is_deep v (length decisions + 1) y) ≡ true → length (decisions_of next.start) < length decisions + 1 → y ≡ x
    passes y stands both few =
        let parts = and_parts (has clause (complement y)) (is_deep v (length decisions + 1) y) both in
        let there : has left y ≡ true = subst (λ k. has left k ≡ true) (complement-twice y) (t.all_false (complement y) parts.0) in
        ⊎_elim
        (λ before. absurd (both_ways (is_deep v (length decisions + 1) y)
        (not_deep v (length decisions + 1) next.start (next.step ∷ next.back) y trail next.steps few (subst (λ ls. has ls y ≡ true) next.literals before)) parts.1))
        (λ same. sym same)
        (has_push earlier x y (subst (λ ls. has ls y ≡ true) e there))

    enough_before : length decisions + 1 ≤ length (decisions_of next.start)
    enough_before =
        ⊎_elim
        (λ few.
        let at_most = count-at_most_one (λ y. has clause (complement y) && is_deep v (length decisions + 1) y) (literals_of v.steps) x (literals-distinct v.steps trail.assignment.apart)
        (λ y h both. passes y h both few) in
        absurd (omega arith))
        (λ ge. ge)
        (cases_lt (length (decisions_of next.start)) (length decisions + 1))

    all_before : length (decisions_of (next.step ∷ next.back)) ≡ 0
    all_before =
        let all = ap (λ (steps : List Step). length (decisions_of steps)) next.steps ∙ decisions-count next.start (next.step ∷ next.back) in
        let sum = total in let few = enough_before in omega arith

    step_only : length (decisions_of (next.step ∷ [])) ≡ 0
    step_only = let none = all_before in let parts = decisions-count (next.step ∷ []) next.back in omega arith

    pub next_deep : is_deep v (length decisions + 1) x ≡ true
    next_deep =
        let here = decisions-count next.start (next.step ∷ []) in
        let all = ap (λ (steps : List Step). length (decisions_of steps)) next.steps ∙ decisions-count next.start (next.step ∷ next.back) in
        let sum = total in let none = all_before in let one = step_only in
        subst (λ k. is_deep v (length decisions + 1) k ≡ true) next.literal
        (deep_at v (length decisions + 1) next.start next.step next.back trail next.steps ∙ eq-eqb (length (decisions_of (next.start ++ next.step ∷ []))) (length decisions + 1) (omega arith))

    pub next_reason : reason_of v.steps (variable_of x) ≡ None → ⊥
    next_reason none = let w = has_reason next.step step_only in absurd (cc (sym w.1 ∙ sym (reason_of_next v earlier x trail next) ∙ none))
