-- Trails: what follows from their decisions, and their parts.
use Rattle.std.proofs.Common.{◌≡◌, ℕ, zero, suc, true, false, eqb, List, [], ◌∷◌, ◌++◌, Option, Some, None, Result, Ok, Err, refl, ap, sym, ◌∙◌, subst, ◌⊎◌, inl, inr, ⊎_elim, append_assoc}
use Rattle.std.specs.List.{Contains, slice_get}
use Rattle.std.specs.Option.{IfSome, MatchOption}
use Rattle.std.specs.Result.{OnErr, OnOk}
use Rattle.std.proofs.lemmas.Bool.{cases_Bool, cases_eq, eq-eqb, eqb-true, false≢true, or_cases, or_left, or_right}
use Rattle.std.proofs.lemmas.List.{append-nil}
use Rattle.std.proofs.lemmas.Option.{get_or_from_slice_get, slice_get-get_or, slice_get_within}
use Rattle.px_chain.specs.Clause.{complement, has}
use Rattle.px_chain.specs.Propagation.{Both, Closed, Empty, Follows, Given, IsConflict}
use Rattle.px_chain.proofs.Closures.{Contains-has, has-Contains}
use Rattle.px_chain.proofs.Members.{has-append}
use Rattle.px_trail.specs.declared.assignment.Known.{Known}
use Rattle.px_trail.specs.Propagation.{IsSettled}
use Rattle.px_trail.specs.Trail.{Explains, FollowFrom, IsAssignment, IsFalseClause, IsQuiet, IsReason, IsTrail, OthersFalse, Step, View, decision_of, decisions_of, known_of, literals_of, reason_in, reason_of, up_to}
use Rattle.px_trail.proofs.Levels.{up_to-begins}
use Rattle.px_trail.proofs.Lookups.{IsAssignment-front, known-has, known-splits, never_both}

-- a clause of a number is one of the clauses
pub contained : {X : Type 0} (xs : List X) (n : ℕ) (x : X) → slice_get xs n ≡ Some x → Contains xs x
contained xs n x there = (n, slice_get_within xs n x there, get_or_from_slice_get xs n x x there)

pub numbered : {X : Type 0} (xs : List X) (x : X) (there : Contains xs x) → slice_get xs there.0 ≡ Some x
numbered xs x there = slice_get-get_or xs there.0 x there.1 ∙ ap Some there.2

pub has_here : (l : ℕ) (literals : List ℕ) → has (l ∷ literals) l ≡ true
has_here l literals = or_left (eqb l l) (has literals l) (eq-eqb l l refl)

-- the last literal, or one before it
pub has_push : (xs : List ℕ) (y k : ℕ) → has (xs ++ y ∷ []) k ≡ true → (has xs k ≡ true) ⊎ (y ≡ k)
has_push xs y k h =
    ⊎_elim (λ before. inl before)
    (λ here. ⊎_elim (λ e. inr (eqb-true y k e)) (λ none. absurd (false≢true none)) (or_cases (eqb y k) false here))
    (or_cases (has xs k) (has (y ∷ []) k) (sym (has-append xs (y ∷ []) k) ∙ h))

pub has_before : (xs ys : List ℕ) (k : ℕ) → has xs k ≡ true → has (xs ++ ys) k ≡ true
has_before xs ys k h = has-append xs ys k ∙ or_left (has xs k) (has ys k) h

pub has_after : (xs ys : List ℕ) (k : ℕ) → has ys k ≡ true → has (xs ++ ys) k ≡ true
has_after xs ys k h = has-append xs ys k ∙ or_right (has xs k) (has ys k) h

-- the decisions are literals of the trail
decided_here : (l : ℕ) (r : Option ℕ) (ds : List ℕ) (k : ℕ) → has (decision_of l r ++ ds) k ≡ true → (l ≡ k) ⊎ (has ds k ≡ true)
decided_here l None ds k h = ⊎_elim (λ e. inl (eqb-true l k e)) (λ later. inr later) (or_cases (eqb l k) (has ds k) h)
decided_here l (Some n) ds k h = inr h

pub decisions-stand : (steps : List Step) (l : ℕ) → has (decisions_of steps) l ≡ true → has (literals_of steps) l ≡ true
decisions-stand [] l h = h
decisions-stand (s ∷ steps) l h =
    ⊎_elim
    (λ e. or_left (eqb s.literal l) (has (literals_of steps) l) (eq-eqb s.literal l e))
    (λ later. or_right (eqb s.literal l) (has (literals_of steps) l) (decisions-stand steps l later))
    (decided_here s.literal s.reason (decisions_of steps) l h)

-- a literal follows from a clause whose other literals are false
pub reason-closed : (clauses : List (List ℕ)) (given before : List ℕ) (l n : ℕ) → ((k : ℕ) → has before k ≡ true → Closed clauses given k) → IsReason clauses before l n → Closed clauses given l
reason-closed clauses given before l n closed is =
    Follows is.clause l (contained clauses n is.clause is.there) (Contains-has is.clause l is.within)
    (λ m there ne. closed (complement m) (is.others m (has-Contains is.clause m there) ne))

step-closed : (clauses : List (List ℕ)) (given before : List ℕ) (l : ℕ) (r : Option ℕ) (ds : List ℕ) → ((k : ℕ) → has before k ≡ true → Closed clauses given k)
    → ((k : ℕ) → has (decision_of l r ++ ds) k ≡ true → has given k ≡ true) → MatchOption r (Unit {0}) (IsReason clauses before l) → Closed clauses given l
step-closed clauses given before l None ds closed are_given follows = Given l (Contains-has given l (are_given l (has_here l ds)))
step-closed clauses given before l (Some n) ds closed are_given follows = reason-closed clauses given before l n closed follows

later_given : (given : List ℕ) (l : ℕ) (r : Option ℕ) (ds : List ℕ) → ((k : ℕ) → has (decision_of l r ++ ds) k ≡ true → has given k ≡ true) → (k : ℕ) → has ds k ≡ true → has given k ≡ true
later_given given l r ds are_given k h = are_given k (has_after (decision_of l r) ds k h)

steps-closed : (clauses : List (List ℕ)) (given before : List ℕ) (steps : List Step) → ((k : ℕ) → has before k ≡ true → Closed clauses given k)
    → ((k : ℕ) → has (decisions_of steps) k ≡ true → has given k ≡ true) → FollowFrom clauses before steps → (l : ℕ) → has (literals_of steps) l ≡ true → Closed clauses given l
steps-closed clauses given before [] closed are_given follow l h = absurd (false≢true h)
steps-closed clauses given before (s ∷ steps) closed are_given follow l h =
    let here : Closed clauses given s.literal = step-closed clauses given before s.literal s.reason (decisions_of steps) closed are_given follow.0 in
    ⊎_elim
    (λ e. subst (Closed clauses given) (eqb-true s.literal l e) here)
    (λ later. steps-closed clauses given (before ++ s.literal ∷ []) steps
    (λ k there. ⊎_elim (closed k) (λ e. subst (Closed clauses given) e here) (has_push before s.literal k there))
    (later_given given s.literal s.reason (decisions_of steps) are_given) follow.1 l later)
    (or_cases (eqb s.literal l) (has (literals_of steps) l) h)

-- Each literal of a trail follows from its decisions.
pub trail-closed : (v : View) → IsTrail v → (l : ℕ) → has (literals_of v.steps) l ≡ true → Closed v.clauses (decisions_of v.steps) l
trail-closed v is l h = steps-closed v.clauses (decisions_of v.steps) [] v.steps (λ k none. absurd (false≢true none)) (λ k there. there) is.follow l h

pub false-conflict : (clauses : List (List ℕ)) (given clause : List ℕ) → Contains clauses clause → ((m : ℕ) → has clause m ≡ true → Closed clauses given (complement m)) → IsConflict clauses given
false-conflict clauses given [] there all = Empty there
false-conflict clauses given (l ∷ clause) there all =
    Both l (Follows (l ∷ clause) l there (Contains-has (l ∷ clause) l (has_here l clause)) (λ m within ne. all m (has-Contains (l ∷ clause) m within))) (all l (has_here l clause))

-- A false clause shows that what follows from the decisions is a conflict.
pub false_clause-conflict : (v : View) (number : ℕ) → IsTrail v → IsFalseClause v number → IsConflict v.clauses (decisions_of v.steps)
false_clause-conflict v number is false_one =
    false-conflict v.clauses (decisions_of v.steps) false_one.clause (contained v.clauses number false_one.clause false_one.there) (λ m h. trail-closed v is (complement m) (false_one.all m h))

-- where every clause is settled, nothing more follows
module _ (v : View) (is : IsTrail v) (settled : (clause : List ℕ) → Contains v.clauses clause → IsSettled (literals_of v.steps) clause) where
  last_one : (clause : List ℕ) (l : ℕ) → Contains v.clauses clause → has clause l ≡ true → OthersFalse (literals_of v.steps) clause l → has (literals_of v.steps) l ≡ true
  last_one clause l there within others =
      ⊎_elim
      (λ holds. holds)
      (λ free.
      ⊎_elim
      (λ fails. absurd ((settled clause there).not_false (λ m h. ⊎_elim (λ e. subst (λ k. has (literals_of v.steps) (complement k) ≡ true) e fails) (λ ne. others m h (λ e. ne (sym e))) (cases_eq l m))))
      (λ free_too. absurd ((settled clause there).not_unit l (record { within = within; unassigned = (free, free_too); others = others })))
      (cases_Bool (has (literals_of v.steps) (complement l))))
      (cases_Bool (has (literals_of v.steps) l))

  closed-stands : {l : ℕ} → Closed v.clauses (decisions_of v.steps) l → has (literals_of v.steps) l ≡ true
  closed-stands (Given l there) = decisions-stand v.steps l (has-Contains (decisions_of v.steps) l there)
  closed-stands (Follows clause l in_clauses within others) =
      last_one clause l in_clauses (has-Contains clause l within) (λ m h ne. closed-stands (others m (Contains-has clause m h) ne))

  no_conflict : IsConflict v.clauses (decisions_of v.steps) → ⊥
  no_conflict (Both l here other) = never_both v.vars v.steps l is.assignment (closed-stands here) (closed-stands other)
  no_conflict (Empty there) = (settled [] there).not_false (λ m h. absurd (false≢true h))

  pub quiet : IsQuiet v
  quiet = record {
    closure = λ l. (trail-closed v is l, closed-stands);
    no_conflict = no_conflict;
    no_unit = λ clause l there. (settled clause there).not_unit l;
  }

-- one step more
pub follow-push : (clauses : List (List ℕ)) (before : List ℕ) (steps : List Step) (s : Step) → FollowFrom clauses before steps
    → MatchOption s.reason (Unit {0}) (IsReason clauses (before ++ literals_of steps) s.literal) → FollowFrom clauses before (steps ++ s ∷ [])
follow-push clauses before [] s follow last = (subst (λ ls. MatchOption s.reason (Unit {0}) (IsReason clauses ls s.literal)) (append-nil before) last, tt)
follow-push clauses before (t ∷ steps) s follow last = (
  follow.0,
  follow-push clauses (before ++ t.literal ∷ []) steps s follow.1
      (subst (λ ls. MatchOption s.reason (Unit {0}) (IsReason clauses ls s.literal)) (sym (append_assoc before (t.literal ∷ []) (literals_of steps))) last),
)

-- the front of a trail
pub follow-front : (clauses : List (List ℕ)) (before : List ℕ) (front back : List Step) → FollowFrom clauses before (front ++ back) → FollowFrom clauses before front
follow-front clauses before [] back follow = tt
follow-front clauses before (s ∷ front) back follow = (follow.0, follow-front clauses (before ++ s.literal ∷ []) front back follow.1)

abbrev pub at_steps : View → List Step → View
at_steps v steps = record { vars = v.vars; clauses = v.clauses; steps = steps }

pub IsTrail-front : (v : View) (front back : List Step) → v.steps ≡ front ++ back → IsTrail v → IsTrail (at_steps v front)
IsTrail-front v front back e is = record {
  assignment = IsAssignment-front v.vars front back (subst (IsAssignment v.vars) e is.assignment);
  follow = follow-front v.clauses [] front back (subst (FollowFrom v.clauses []) e is.follow);
}

-- the first levels of a trail
pub IsTrail-up_to : (v : View) (level : ℕ) → IsTrail v → IsTrail (at_steps v (up_to level v.steps))
IsTrail-up_to v level is = let w = up_to-begins level v.steps in IsTrail-front v (up_to level v.steps) w.0 w.1 is

-- a reason stands on what came before
reason-before : (clauses : List (List ℕ)) (before : List ℕ) (front : List Step) (s : Step) (back : List Step) → FollowFrom clauses before (front ++ s ∷ back)
    → MatchOption s.reason (Unit {0}) (IsReason clauses (before ++ literals_of front) s.literal)
reason-before clauses before [] s back follow = subst (λ ls. MatchOption s.reason (Unit {0}) (IsReason clauses ls s.literal)) (sym (append-nil before)) follow.0
reason-before clauses before (t ∷ front) s back follow =
    subst (λ ls. MatchOption s.reason (Unit {0}) (IsReason clauses ls s.literal)) (append_assoc before (t.literal ∷ []) (literals_of front))
    (reason-before clauses (before ++ t.literal ∷ []) front s back follow.1)

pub reason_stands_before : (v : View) (front : List Step) (s : Step) (back : List Step) → v.steps ≡ front ++ s ∷ back → IsTrail v
    → MatchOption s.reason (Unit {0}) (IsReason v.clauses (literals_of front) s.literal)
reason_stands_before v front s back e is = reason-before v.clauses [] front s back (subst (FollowFrom v.clauses []) e is.follow)

-- a reason explains its variable
explains-some : (v : View) (variable : ℕ) (k : Known) (r : Option ℕ) → IsTrail v → known_of v.steps variable ≡ Some k → k.reason ≡ r → IfSome r (Explains v variable)
explains-some v variable k None is e f = tt
explains-some v variable k (Some number) is e f =
    let w = known-splits 0 v.steps variable k e in
    let s : Step = record { literal = k.literal; reason = Some number } in
    let steps : v.steps ≡ w.0 ++ s ∷ w.1 = w.2 ∙ ap (λ r. let t : Step = record { literal = k.literal; reason = r } in w.0 ++ t ∷ w.1) f in
    record {
      literal = k.literal;
      of_variable = (known-has 0 v.steps variable k e).1;
      front = w.0;
      back = w.1;
      steps = steps;
      reason = reason_stands_before v w.0 s w.1 steps is;
    }

explains-known : (v : View) (variable : ℕ) (o : Option Known) → IsTrail v → known_of v.steps variable ≡ o → IfSome (reason_in o) (Explains v variable)
explains-known v variable None is e = tt
explains-known v variable (Some k) is e = explains-some v variable k k.reason is e refl

pub explains : (v : View) (variable : ℕ) → IsTrail v → IfSome (reason_of v.steps variable) (Explains v variable)
explains v variable is = explains-known v variable (known_of v.steps variable) is refl

-- clauses that are learnt leave a trail a trail
slice_get-more : {X : Type 0} (xs ys : List X) (n : ℕ) (x : X) → slice_get xs n ≡ Some x → slice_get (xs ++ ys) n ≡ Some x
slice_get-more [] ys n x e = absurd (cc)
slice_get-more (y ∷ xs) ys zero x e = e
slice_get-more (y ∷ xs) ys (suc n) x e = slice_get-more xs ys n x e

reason-more : (clauses more : List (List ℕ)) (before : List ℕ) (l : ℕ) (r : Option ℕ) → MatchOption r (Unit {0}) (IsReason clauses before l) → MatchOption r (Unit {0}) (IsReason (clauses ++ more) before l)
reason-more clauses more before l None is = tt
reason-more clauses more before l (Some n) is = record { clause = is.clause; there = slice_get-more clauses more n is.clause is.there; within = is.within; others = is.others }

follow-more : (clauses more : List (List ℕ)) (before : List ℕ) (steps : List Step) → FollowFrom clauses before steps → FollowFrom (clauses ++ more) before steps
follow-more clauses more before [] follow = tt
follow-more clauses more before (s ∷ steps) follow = (reason-more clauses more before s.literal s.reason follow.0, follow-more clauses more (before ++ s.literal ∷ []) steps follow.1)

pub IsTrail-more : (v : View) (more : List (List ℕ)) → IsTrail v → IsTrail (record { vars = v.vars; clauses = v.clauses ++ more; steps = v.steps })
IsTrail-more v more is = record { assignment = is.assignment; follow = follow-more v.clauses more [] v.steps is.follow }

-- a trail by its parts
pub IsTrail-like : (vars : ℕ) (clauses : List (List ℕ)) (steps : List Step) (v : View) → v.vars ≡ vars → v.clauses ≡ clauses → v.steps ≡ steps
    → IsTrail (record { vars = vars; clauses = clauses; steps = steps }) → IsTrail v
IsTrail-like vars clauses steps v e f g is = record {
  assignment = subst (λ n. IsAssignment n v.steps) (sym e) (subst (IsAssignment vars) (sym g) is.assignment);
  follow = subst (λ cs. FollowFrom cs [] v.steps) (sym f) (subst (FollowFrom clauses []) (sym g) is.follow);
}

-- what follows from both answers of a call
pub ok_or_err : {A E : Type 0} (r : Result A E) (P Q R : Type 0) → OnOk r P → OnErr r Q → (P → R) → (Q → R) → R
ok_or_err (Ok x) P Q R ok err from_ok from_err = from_ok ok
ok_or_err (Err e) P Q R ok err from_ok from_err = from_err err
