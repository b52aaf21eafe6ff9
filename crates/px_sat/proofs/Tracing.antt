-- A conflict traced back along the trail, literal by literal.
use Rattle.std.proofs.Common.{◌≡◌, ◌≢◌, ℕ, ◌/◌, ◌<◌, Bool, true, false, not, ◌&&◌, ◌||◌, cond, eqb, List, [], ◌∷◌, ◌++◌, length, Option, Some, None, Result, Ok, Err, refl, ap, ap₂, sym, ◌∙◌, subst, ⊎_elim, arith, append_assoc}
use Rattle.std.specs.List.{IsDistinct, slice_get}
use Rattle.std.specs.Option.{MatchOption}
use Rattle.std.proofs.lemmas.Bool.{and_from, and_left, and_parts, both_ways, cond-false, cond-true, eq-eqb, false_from_ne_true, false≢true, or_cases}
use Rattle.std.proofs.lemmas.List.{append-nil}
use Rattle.std.proofs.lemmas.Option.{slice_get_within}
use Rattle.px_chain.specs.declared.chain.Chain.{Chain}
use Rattle.px_chain.specs.declared.chain.Why.{Why}
use Rattle.px_chain.specs.Clause.{Ascends, clause_of, complement, has, variable_of}
use Rattle.px_chain.specs.Marks.{Resolves}
use Rattle.px_chain.specs.Resolution.{Derives, derived, joined, negative, positive, resolvent, resolved_by, start_of, step_with, steps_from, without}
use Rattle.px_chain.proofs.Closures.{by_variable, complement-twice}
use Rattle.px_chain.proofs.Members.{Ascends-clause_of, clause_of-ascending, has-append, has-clause_of, has-without}
use Rattle.px_trail.specs.Trail.{AllFalse, IsAssignment, IsFalseClause, IsReason, IsTrail, Step, View, decisions_of, literals_of, reason_of, variables_of}
use Rattle.px_trail.proofs.Lookups.{never_both}
use Rattle.px_trail.proofs.Trails.{has_after, has_here, has_push, reason_stands_before}
use Rattle.px_sat.proofs.Steps.{decisions-count, ends_at, in_first, not_before, one_decision, reason_at}

-- the steps of a chain, from the clause of a number, resolve to a clause
abbrev pub Gives : List (List ℕ) → ℕ → List (ℕ × ℕ) → List ℕ → Type 0
Gives clauses first rest clause = steps_from clauses (start_of (slice_get clauses first) first) rest ≡ Ok clause

-- How far a conflict is traced back: these literals, the first of the trail, are left to look at, and they make the clause in the making false,
-- to which the steps of a chain resolve.
pub record IsTraced (v : View) (first : ℕ) (rest : List (ℕ × ℕ)) (left clause : List ℕ) : Type 0 where
  pub front : List Step
  pub back : List Step
  pub steps : v.steps ≡ front ++ back
  pub literals : left ≡ literals_of front
  pub ascends : Ascends clause
  pub all_false : AllFalse left clause
  pub gives : Gives v.clauses first rest clause

-- the steps of a chain with one step more
no_steps : (clauses : List (List ℕ)) (r : Result (List ℕ) Why) → steps_from clauses r [] ≡ r
no_steps clauses (Ok a) = refl
no_steps clauses (Err why) = refl

steps-push : (clauses : List (List ℕ)) (r : Result (List ℕ) Why) (rest : List (ℕ × ℕ)) (step : ℕ × ℕ) (a : List ℕ) → steps_from clauses r rest ≡ Ok a
    → steps_from clauses r (rest ++ step ∷ []) ≡ step_with a step.0 step.1 (slice_get clauses step.1)
steps-push clauses (Err why) rest step a e = absurd (cc)
steps-push clauses (Ok b) [] step a e =
    let same : b ≡ a = cc in
    no_steps clauses (step_with b step.0 step.1 (slice_get clauses step.1)) ∙ ap (λ c. step_with c step.0 step.1 (slice_get clauses step.1)) same
steps-push clauses (Ok b) (s ∷ rest) step a e = steps-push clauses (step_with b s.0 s.1 (slice_get clauses s.1)) rest step a e

pub Gives-push : (clauses : List (List ℕ)) (first : ℕ) (rest : List (ℕ × ℕ)) (variable number : ℕ) (a reason next : List ℕ) → Gives clauses first rest a
    → slice_get clauses number ≡ Some reason → resolvent a variable reason ≡ Some next → Gives clauses first (rest ++ (variable, number) ∷ []) next
Gives-push clauses first rest variable number a reason next gives there resolves =
    steps-push clauses (start_of (slice_get clauses first) first) rest (variable, number) a gives
    ∙ ap (λ o. step_with a variable number o) there
    ∙ ap (λ o. resolved_by o variable) resolves

-- the chain of what the steps give
pub derives_by : (clauses : List (List ℕ)) (chain : Chain) (first : ℕ) (rest : List (ℕ × ℕ)) (clause : List ℕ) → chain.first ≡ first → chain.rest ≡ rest → chain.claim ≡ clause
    → Ascends clause → Gives clauses first rest clause → Derives clauses chain
unfolding derived
derives_by clauses chain first rest clause f r c up gives =
    ap₂ (λ n (steps : List (ℕ × ℕ)). steps_from clauses (start_of (slice_get clauses n) n) steps) f r ∙ gives ∙ ap Ok (sym (ap clause_of c ∙ clause_of-ascending clause up))

-- the resolvent where a literal's complement is replaced by what the literal follows from
pub resolvent-at : (a : List ℕ) (x : ℕ) (c : List ℕ) → has a x ≡ false → has a (complement x) ≡ true → has c x ≡ true → resolvent a (variable_of x) c ≡ Some (joined a (complement x) c x)
resolvent-at a x c out here there =
    let v = x / 2 in
    let p = positive v in let n = negative v in
    ⊎_elim
    (λ e.
    cond-false (has a p && has c n) (Some (joined a p c n)) (cond (has a n && has c p) (Some (joined a n c p)) None)
    (and_left (has a p) (has c n) (subst (λ k. has a k ≡ false) e.0 out))
    ∙ cond-true (has a n && has c p) (Some (joined a n c p)) None
    (and_from (has a n) (has c p) (subst (λ k. has a k ≡ true) e.1 here) (subst (λ k. has c k ≡ true) e.0 there))
    ∙ ap₂ (λ l m. Some (joined a l c m)) (sym e.1) (sym e.0))
    (λ e.
    cond-true (has a p && has c n) (Some (joined a p c n)) (cond (has a n && has c p) (Some (joined a n c p)) None)
    (and_from (has a p) (has c n) (subst (λ k. has a k ≡ true) e.1 here) (subst (λ k. has c k ≡ true) e.0 there))
    ∙ ap₂ (λ l m. Some (joined a l c m)) (sym e.1) (sym e.0))
    (by_variable x)

pub has-joined : (a : List ℕ) (l : ℕ) (c : List ℕ) (m k : ℕ) → has (joined a l c m) k ≡ ((has a k && not (eqb k l)) || (has c k && not (eqb k m)))
has-joined a l c m k =
    has-clause_of (without a l ++ without c m) k ∙ has-append (without a l) (without c m) k ∙ ap₂ (λ p q. p || q) (has-without a l k) (has-without c m k)

resolved_to : (o : Option (List ℕ)) (r : List ℕ) (found : Bool) (new : List ℕ) → o ≡ Some r → Resolves o found new → new ≡ r
resolved_to None r found new e is = absurd (cc)
resolved_to (Some s) r found new e is = is.1 ∙ cc

same_at : (xs : List (List ℕ)) (n : ℕ) (c d : List ℕ) → slice_get xs n ≡ Some c → slice_get xs n ≡ Some d → c ≡ d
same_at xs n c d e f = cc

-- the step that is looked at next
pub record IsNext (v : View) (earlier : List ℕ) (x : ℕ) : Type 0 where
  pub start : List Step
  pub step : Step
  pub back : List Step
  pub steps : v.steps ≡ start ++ step ∷ back
  pub literals : earlier ≡ literals_of start
  pub literal : step.literal ≡ x

pub next_of : (v : View) (first : ℕ) (rest : List (ℕ × ℕ)) (left clause earlier : List ℕ) (x : ℕ) → IsTraced v first rest left clause → left ≡ earlier ++ x ∷ [] → IsNext v earlier x
next_of v first rest left clause earlier x t e =
    let w = ends_at t.front earlier x (sym t.literals ∙ e) in
    record {
      start = w.start;
      step = w.step;
      back = t.back;
      steps = t.steps ∙ ap (λ (f : List Step). f ++ t.back) w.steps ∙ append_assoc w.start (w.step ∷ []) t.back;
      literals = sym w.literals;
      literal = w.literal;
    }

-- what is left is of the trail
pub left-stands : (v : View) (first : ℕ) (rest : List (ℕ × ℕ)) (left clause : List ℕ) → IsTraced v first rest left clause → (l : ℕ) → has left l ≡ true → has (literals_of v.steps) l ≡ true
left-stands v first rest left clause t l h =
    subst (λ (steps : List Step). has (literals_of steps) l ≡ true) (sym t.steps) (in_first t.front t.back l (subst (λ ls. has ls l ≡ true) t.literals h))

pub traced-start : (v : View) (number : ℕ) (clause : List ℕ) → IsFalseClause v number → slice_get v.clauses number ≡ Some clause → Ascends clause
    → IsTraced v number [] (literals_of v.steps) clause
traced-start v number clause conflict there up = record {
  front = v.steps;
  back = [];
  steps = sym (append-nil v.steps);
  literals = refl;
  ascends = up;
  all_false = subst (AllFalse (literals_of v.steps)) (same_at v.clauses number conflict.clause clause conflict.there there) conflict.all;
  gives = ap (λ o. steps_from v.clauses (start_of o number) []) there;
}

-- the reason of its literal
pub reason_of_next : (v : View) (earlier : List ℕ) (x : ℕ) → IsTrail v → (n : IsNext v earlier x) → reason_of v.steps (variable_of x) ≡ n.step.reason
reason_of_next v earlier x trail n =
    subst (λ l. reason_of v.steps (variable_of l) ≡ n.step.reason) n.literal
    (ap (λ (steps : List Step). reason_of steps (variable_of n.step.literal)) n.steps ∙ reason_at v.vars n.start n.step n.back (subst (IsAssignment v.vars) n.steps trail.assignment))

-- its literal isn't among those before it
pub not_earlier : (v : View) (earlier : List ℕ) (x : ℕ) → IsTrail v → IsNext v earlier x → has earlier x ≡ false
not_earlier v earlier x trail n =
    subst (λ ls. has ls x ≡ false) (sym n.literals) (subst (λ l. has (literals_of n.start) l ≡ false) n.literal
    (not_before n.start n.step n.back (subst (λ (steps : List Step). IsDistinct eqb (variables_of steps)) n.steps trail.assignment.apart)))

-- a literal whose complement isn't in the clause in the making
pub traced-pass : (v : View) (first : ℕ) (rest : List (ℕ × ℕ)) (left clause earlier : List ℕ) (x : ℕ) → IsTraced v first rest left clause → left ≡ earlier ++ x ∷ []
    → has clause (complement x) ≡ false → IsTraced v first rest earlier clause
traced-pass v first rest left clause earlier x t e out =
    let n = next_of v first rest left clause earlier x t e in
    record {
      front = n.start;
      back = n.step ∷ n.back;
      steps = n.steps;
      literals = n.literals;
      ascends = t.ascends;
      all_false = λ m h.
          ⊎_elim (λ before. before)
          (λ here. absurd (both_ways (has clause (complement x)) out (subst (λ k. has clause k ≡ true) (sym (ap complement here ∙ complement-twice m)) h)))
          (has_push earlier x (complement m) (subst (λ ls. has ls (complement m) ≡ true) e (t.all_false m h)));
      gives = t.gives;
    }

-- a literal whose complement is in the clause in the making, and the clause that the literal follows from
module _ (v : View) (first : ℕ) (rest : List (ℕ × ℕ)) (left clause earlier : List ℕ) (x : ℕ) (t : IsTraced v first rest left clause) (e : left ≡ earlier ++ x ∷ [])
    (trail : IsTrail v) (here : has clause (complement x) ≡ true) where
  next : IsNext v earlier x
  next = next_of v first rest left clause earlier x t e

  pub stands : has (literals_of v.steps) x ≡ true
  stands = left-stands v first rest left clause t x (subst (λ ls. has ls x ≡ true) (sym e) (has_after earlier (x ∷ []) x (has_here x [])))

  pub not_in : has clause x ≡ false
  not_in = false_from_ne_true (has clause x) (λ h. never_both v.vars v.steps x trail.assignment stands (left-stands v first rest left clause t (complement x) (t.all_false x h)))

  follows_from : (n : ℕ) (r : Option ℕ) (before : List ℕ) (l : ℕ) → r ≡ Some n → MatchOption r (Unit {0}) (IsReason v.clauses before l) → IsReason v.clauses before l n
  follows_from n None before l f is = absurd (cc)
  follows_from n (Some k) before l f is = let same : k ≡ n = cc in subst (IsReason v.clauses before l) same is

  module _ (number : ℕ) (has_reason : reason_of v.steps (variable_of x) ≡ Some number) where
    pub reason_is : IsReason v.clauses earlier x number
    reason_is =
        let is = follows_from number next.step.reason (literals_of next.start) next.step.literal (sym (reason_of_next v earlier x trail next) ∙ has_reason)
        (reason_stands_before v next.start next.step next.back next.steps trail) in
        subst (λ ls. IsReason v.clauses ls x number) (sym next.literals) (subst (λ l. IsReason v.clauses (literals_of next.start) l number) next.literal is)

    pub reason-within : number < length v.clauses
    reason-within = slice_get_within v.clauses number reason_is.clause reason_is.there

    module _ (reason : List ℕ) (there : slice_get v.clauses number ≡ Some reason) where
      pub reason_has : has reason x ≡ true
      reason_has = subst (λ c. has c x ≡ true) (same_at v.clauses number reason_is.clause reason reason_is.there there) reason_is.within

      pub reason_others : (m : ℕ) → has reason m ≡ true → m ≢ x → has earlier (complement m) ≡ true
      reason_others m h ne = reason_is.others m (subst (λ c. has c m ≡ true) (sym (same_at v.clauses number reason_is.clause reason reason_is.there there)) h) ne

      pub resolvent_is : resolvent clause (variable_of x) reason ≡ Some (joined clause (complement x) reason x)
      resolvent_is = resolvent-at clause x reason not_in here reason_has

      pub new_is : (found : Bool) (new : List ℕ) → Resolves (resolvent clause (variable_of x) reason) found new → new ≡ joined clause (complement x) reason x
      new_is found new is = resolved_to (resolvent clause (variable_of x) reason) (joined clause (complement x) reason x) found new resolvent_is is

      all_false-new : AllFalse earlier (joined clause (complement x) reason x)
      all_false-new m h =
          ⊎_elim
          (λ old.
          let parts = and_parts (has clause m) (not (eqb m (complement x))) old in
          ⊎_elim (λ before. before)
          (λ same. absurd (both_ways (eqb m (complement x)) (not_false (eqb m (complement x)) parts.1) (eq-eqb m (complement x) (sym (ap complement same ∙ complement-twice m)))))
          (has_push earlier x (complement m) (subst (λ ls. has ls (complement m) ≡ true) e (t.all_false m parts.0))))
          (λ other.
          let parts = and_parts (has reason m) (not (eqb m x)) other in
          reason_others m parts.0 (λ same. both_ways (eqb m x) (not_false (eqb m x) parts.1) (eq-eqb m x same)))
          (or_cases (has clause m && not (eqb m (complement x))) (has reason m && not (eqb m x)) (sym (has-joined clause (complement x) reason x m) ∙ h))
        where
          not_false : (a : Bool) → not a ≡ true → a ≡ false
          not_false true f = absurd (false≢true f)
          not_false false f = refl

      pub traced-resolve : (found : Bool) (new : List ℕ) → Resolves (resolvent clause (variable_of x) reason) found new
          → IsTraced v first (rest ++ (variable_of x, number) ∷ []) earlier new
      traced-resolve found new is = record {
        front = next.start;
        back = next.step ∷ next.back;
        steps = next.steps;
        literals = next.literals;
        ascends = subst Ascends (sym (new_is found new is)) (Ascends-clause_of (without clause (complement x) ++ without reason x));
        all_false = subst (AllFalse earlier) (sym (new_is found new is)) all_false-new;
        gives = Gives-push v.clauses first rest (variable_of x) number clause reason new t.gives there (resolvent_is ∙ ap Some (sym (new_is found new is)));
      }

  -- where nothing was decided, each literal follows from a clause
  pub undecided-reason : decisions_of v.steps ≡ [] → reason_of v.steps (variable_of x) ≡ None → ⊥
  undecided-reason undecided none =
      let r : next.step.reason ≡ None = sym (reason_of_next v earlier x trail next) ∙ none in
      let one = one_decision next.step next.back r in
      let all = ap (λ (ss : List Step). length (decisions_of ss)) next.steps ∙ decisions-count next.start (next.step ∷ next.back) in
      let zero_all = ap length undecided in
      omega arith

-- a clause that is false by no literal is empty
by_nothing : (clause : List ℕ) → AllFalse [] clause → clause ≡ []
by_nothing [] all = refl
by_nothing (m ∷ clause) all = absurd (false≢true (all m (has_here m clause)))

pub nothing_left : (left clause : List ℕ) → length left ≡ 0 → AllFalse left clause → clause ≡ []
nothing_left [] clause e all = by_nothing clause all
nothing_left (l ∷ left) clause e all = absurd (omega arith)
