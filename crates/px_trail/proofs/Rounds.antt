-- How far a round over the clauses has gone.
use Rattle.std.proofs.Common.{◌≡◌, ℕ, ◌+◌, ◌<◌, ◌≤◌, Bool, true, false, List, [], ◌∷◌, ◌++◌, length, Option, Some, None, refl, ap, sym, ◌∙◌, subst, ⊎_elim, arith, append_assoc, length-append}
use Rattle.std.specs.Bool.{OnFalse, OnTrue}
use Rattle.std.specs.List.{slice_get}
use Rattle.std.specs.Option.{MatchOption}
use Rattle.std.proofs.lemmas.Bool.{cases_eq}
use Rattle.std.proofs.lemmas.List.{append-nil}
use Rattle.px_trail.specs.Propagation.{IsSettled, SettledAt}
use Rattle.px_trail.specs.Trail.{FollowFrom, GoesOn, IsQuiet, IsTrail, IsUnit, Step, View, decisions_of, literals_of}
use Rattle.px_trail.proofs.Levels.{decisions-append}
use Rattle.px_trail.proofs.Trails.{at_steps, follow-push, numbered, quiet}

pub GoesOn-same : (v : View) → GoesOn v v
GoesOn-same v = record { vars = refl; clauses = refl; more = []; steps = sym (append-nil v.steps); decisions = refl }

pub GoesOn-trans : (a b c : View) → GoesOn a b → GoesOn b c → GoesOn a c
GoesOn-trans a b c one two = record {
  vars = two.vars ∙ one.vars;
  clauses = two.clauses ∙ one.clauses;
  more = one.more ++ two.more;
  steps = two.steps ∙ ap (λ (steps : List Step). steps ++ two.more) one.steps ∙ append_assoc a.steps one.more two.more;
  decisions = two.decisions ∙ one.decisions;
}

-- a step that follows from a clause
module _ (v : View) (l number : ℕ) (clause : List ℕ) (there : slice_get v.clauses number ≡ Some clause) (unit : IsUnit (literals_of v.steps) clause l) where
  pub GoesOn-unit : GoesOn v (at_steps v (v.steps ++ record { literal = l; reason = Some number } ∷ []))
  GoesOn-unit =
      let s : Step = record { literal = l; reason = Some number } in
      record { vars = refl; clauses = refl; more = s ∷ []; steps = refl; decisions = decisions-append v.steps (s ∷ []) ∙ append-nil (decisions_of v.steps) }

  pub follow-unit : IsTrail v → FollowFrom v.clauses [] (v.steps ++ record { literal = l; reason = Some number } ∷ [])
  follow-unit is =
      let s : Step = record { literal = l; reason = Some number } in
      follow-push v.clauses [] v.steps s is.follow (record { clause = clause; there = there; within = unit.within; others = unit.others })

-- how far a round has gone
pub record HasGone (old now : View) (number : ℕ) (changed : Bool) : Type 0 where
  pub goes_on : GoesOn old now
  pub trail : IsTrail now
  pub settled : OnFalse changed ((k : ℕ) → k < number → SettledAt now k)
  pub more : OnTrue changed (length old.steps < length now.steps)

pub HasGone-none : (v : View) → IsTrail v → HasGone v v 0 false
HasGone-none v is = record { goes_on = GoesOn-same v; trail = is; settled = λ k lt. absurd (omega arith); more = tt }

settled_kept : (now next : View) (k : ℕ) → next.clauses ≡ now.clauses → next.steps ≡ now.steps → SettledAt now k → SettledAt next k
settled_kept now next k clauses steps is clause there =
    subst (λ (ss : List Step). IsSettled (literals_of ss) clause) (sym steps) (is clause (subst (λ (cs : List (List ℕ)). slice_get cs k ≡ Some clause) clauses there))

still_settled : (now next : View) (n : ℕ) (changed : Bool) → next.clauses ≡ now.clauses → (next.steps ≡ now.steps) × SettledAt next n
    → OnFalse changed ((k : ℕ) → k < n → SettledAt now k) → OnFalse changed ((k : ℕ) → k < n + 1 → SettledAt next k)
still_settled now next n true clauses visited before = tt
still_settled now next n false clauses visited before = λ k lt.
    ⊎_elim
    (λ e. subst (SettledAt next) (sym e) visited.1)
    (λ ne. settled_kept now next k clauses visited.0 (before k (omega arith)))
    (cases_eq k n)

longer : (old now next : View) (changed : Bool) → next.steps ≡ now.steps → OnTrue changed (length old.steps < length now.steps) → OnTrue changed (length old.steps < length next.steps)
longer old now next true same more = subst (λ (ss : List Step). length old.steps < length ss) (sym same) more
longer old now next false same more = tt

pub HasGone-settled : (old now next : View) (n : ℕ) (changed : Bool) → GoesOn now next → IsTrail next → (next.steps ≡ now.steps) × SettledAt next n → HasGone old now n changed → HasGone old next (n + 1) changed
HasGone-settled old now next n changed goes is visited before = record {
  goes_on = GoesOn-trans old now next before.goes_on goes;
  trail = is;
  settled = still_settled now next n changed goes.clauses visited before.settled;
  more = longer old now next changed visited.0 before.more;
}

pub HasGone-unit : (old now next : View) (n : ℕ) (changed : Bool) → GoesOn now next → IsTrail next → length now.steps < length next.steps → HasGone old now n changed → HasGone old next (n + 1) true
HasGone-unit old now next n changed goes is more before = record {
  goes_on = GoesOn-trans old now next before.goes_on goes;
  trail = is;
  settled = tt;
  more = omega (arith, ap length before.goes_on.steps, length-append old.steps before.goes_on.more);
}

-- a whole round without a change
pub round-quiet : (old now : View) (n : ℕ) → length now.clauses ≤ n → HasGone old now n false → IsQuiet now
round-quiet old now n le gone =
    quiet now gone.trail (λ clause there. gone.settled there.0 (omega (arith, there.1)) clause (numbered now.clauses clause there))

-- what holds where an answer is none
pub not_some : {X : Type 0} (o : Option X) (P : Type 0) (Q : X → Type 0) → ((x : X) → o ≡ Some x → ⊥) → MatchOption o P Q → P
not_some None P Q never h = h
not_some (Some x) P Q never h = absurd (never x refl)
