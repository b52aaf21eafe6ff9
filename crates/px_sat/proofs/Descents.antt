-- The way down: decisions one after another, and the values that the variables have.
use Rattle.std.proofs.Common.{◌≡◌, ℕ, ◌+◌, ◌<◌, ◌≤◌, Bool, eqb, List, [], ◌∷◌, ◌++◌, length, get_or, take, Option, Some, None, refl, ap, ap₂, sym, ◌∙◌, subst, arith, append_assoc}
use Rattle.std.specs.Prelude.{IsSome, is_some}
use Rattle.std.specs.List.{AllByRecursion}
use Rattle.std.specs.Option.{option_map}
use Rattle.std.proofs.lemmas.Bool.{cond-true, eq-eqb, true≢false}
use Rattle.std.proofs.lemmas.Bool.Decides.{nat_tests}
use Rattle.std.proofs.lemmas.List.{take_all, take_more}
use Rattle.px_chain.specs.Clause.{variable_of}
use Rattle.px_chain.proofs.Members.{has_from_all}
use Rattle.px_chain.proofs.Stores.{all_mapped, all_push}
use Rattle.px_trail.specs.declared.assignment.Known.{Known}
use Rattle.px_trail.specs.declared.outcome.Outcome.{Outcome}
use Rattle.px_trail.specs.declared.outcome.Outcome.TheVariants.{Quiet, Conflict}
use Rattle.px_trail.specs.Outcome.{IsOutcome}
use Rattle.px_trail.specs.Trail.{GoesOn, IsQuiet, Step, View, decisions_of, known_from, known_of, next_level, value_of}
use Rattle.px_trail.proofs.Levels.{decisions-append}
use Rattle.px_trail.proofs.Lookups.{known-append, or_known}
use Rattle.px_sat.specs.Descent.{ComesTo, Decides, WasQuiet}
use Rattle.px_sat.specs.Order.{HasAllBelow}

no_more : (xs ys : List ℕ) → xs ++ ys ≡ xs → ys ≡ []
no_more [] ys e = e
no_more (x ∷ xs) ys e = no_more xs ys (cc)

not_empty : (xs : List ℕ) (y : ℕ) → [] ≡ xs ++ y ∷ [] → ⊥
not_empty [] y e = cc
not_empty (x ∷ xs) y e = cc

last_same : (xs ys : List ℕ) (x y : ℕ) → xs ++ x ∷ [] ≡ ys ++ y ∷ [] → (xs ≡ ys) × (x ≡ y)
last_same [] [] x y e = (refl, cc)
last_same [] (b ∷ ys) x y e = let rest : [] ≡ ys ++ y ∷ [] = cc in absurd (not_empty ys y rest)
last_same (a ∷ xs) [] x y e = let rest : [] ≡ xs ++ x ∷ [] = cc in absurd (not_empty xs x rest)
last_same (a ∷ xs) (b ∷ ys) x y e =
    let here : a ≡ b = cc in
    let rest : xs ++ x ∷ [] ≡ ys ++ y ∷ [] = cc in
    let w = last_same xs ys x y rest in (ap₂ (λ (l : ℕ) (ls : List ℕ). l ∷ ls) here w.0, w.1)

-- a decision and what follows
pub decides_by : (old mid new : View) (x : ℕ) (decisions : List ℕ) (outcome : Outcome) → mid.steps ≡ old.steps ++ record { literal = x; reason = None } ∷ [] → GoesOn mid new
    → decisions ≡ decisions_of old.steps ++ x ∷ [] → IsOutcome new outcome → Decides old x new decisions outcome
decides_by old mid new x decisions outcome decided on are tells = record {
  after = on.more;
  steps = on.steps ∙ ap (λ (steps : List Step). steps ++ on.more) decided ∙ append_assoc old.steps (record { literal = x; reason = None } ∷ []) on.more;
  none_after = no_more (decisions_of mid.steps) (decisions_of on.more) (sym (decisions-append mid.steps on.more) ∙ ap decisions_of (sym on.steps) ∙ on.decisions);
  decisions_are = are;
  tells = tells;
}

quiet_at : (old new : View) → new.vars ≡ old.vars → new.clauses ≡ old.clauses → IsQuiet old → IsQuiet (record { vars = new.vars; clauses = new.clauses; steps = old.steps })
quiet_at old new vars clauses is =
    subst (λ n. IsQuiet (record { vars = n; clauses = new.clauses; steps = old.steps })) (sym vars)
    (subst (λ cs. IsQuiet (record { vars = old.vars; clauses = cs; steps = old.steps })) (sym clauses) is)

decisions_after : (old : View) (x : ℕ) (new : View) (decisions : List ℕ) (outcome : Outcome) → Decides old x new decisions outcome → decisions_of new.steps ≡ decisions_of old.steps ++ x ∷ []
decisions_after old x new decisions outcome is =
    ap decisions_of is.steps ∙ decisions-append old.steps (record { literal = x; reason = None } ∷ is.after) ∙ ap (λ (ds : List ℕ). decisions_of old.steps ++ x ∷ ds) is.none_after

-- where nothing more followed from the decisions before it, that was so before the last decision
last_decision : (old : View) (x : ℕ) (new : View) (decisions : List ℕ) (outcome : Outcome) → Decides old x new decisions outcome → new.vars ≡ old.vars → new.clauses ≡ old.clauses → IsQuiet old
    → (front : List ℕ) (last : ℕ) → decisions ≡ front ++ last ∷ [] → WasQuiet new front last
last_decision old x new decisions outcome is vars clauses quiet front last e =
    let w = last_same (decisions_of old.steps) front x last (sym is.decisions_are ∙ e) in
    record {
      before = old.steps;
      after = is.after;
      steps = is.steps ∙ ap (λ l. let s : Step = record { literal = l; reason = None } in old.steps ++ s ∷ is.after) w.1;
      decided_before = w.0;
      none_after = is.none_after;
      quiet = quiet_at old new vars clauses quiet;
    }

some_known : (o other : Option Known) → IsSome o → IsSome (or_known o other)
some_known None other is = absurd (true≢false (sym is))
some_known (Some k) other is = refl

some_either : (o other : Option Known) → IsSome other → IsSome (or_known o other)
some_either None other is = is
some_either (Some k) other is = refl

is_some-mapped : (f : Known → Bool) (o : Option Known) → is_some (option_map f o) ≡ is_some o
is_some-mapped f None = refl
is_some-mapped f (Some k) = refl

-- a variable keeps its value
value-more : (xs ys : List Step) (w : ℕ) → IsSome (value_of xs w) → IsSome (value_of (xs ++ ys) w)
value-more xs ys w is =
    is_some-mapped _ (known_of (xs ++ ys) w) ∙ ap is_some (known-append 0 xs ys w)
    ∙ some_known (known_of xs w) (known_from (0 + length (decisions_of xs)) ys w) (sym (is_some-mapped _ (known_of xs w)) ∙ is)

-- a variable that was decided has a value
value-decided : (xs : List Step) (x : ℕ) (ys : List Step) → IsSome (value_of (xs ++ record { literal = x; reason = None } ∷ ys) (variable_of x))
value-decided xs x ys =
    let n = 0 + length (decisions_of xs) in
    is_some-mapped _ (known_of (xs ++ record { literal = x; reason = None } ∷ ys) (variable_of x)) ∙ ap is_some (known-append 0 xs (record { literal = x; reason = None } ∷ ys) (variable_of x))
    ∙ some_either (known_of xs (variable_of x)) (known_from n (record { literal = x; reason = None } ∷ ys) (variable_of x))
    (ap is_some (cond-true (eqb (variable_of x) (variable_of x)) (Some (record { literal = x; level = next_level n None; reason = None })) (known_from (next_level n None) ys (variable_of x))
    (eq-eqb (variable_of x) (variable_of x) refl)))

-- How far a descent has come: nothing more follows, and the first variables of the order have a value.
pub record IsDown (v : View) (decisions variables : List ℕ) (i : ℕ) : Type 0 where
  pub decisions_are : decisions ≡ decisions_of v.steps
  pub quiet : IsQuiet v
  pub valued : AllByRecursion (λ w. IsSome (value_of v.steps w)) (take i variables)
  pub last : (front : List ℕ) (last : ℕ) → decisions ≡ front ++ last ∷ [] → WasQuiet v front last

-- propagation without a decision
undecided : (old new : View) → decisions_of old.steps ≡ [] → GoesOn old new → decisions_of new.steps ≡ []
undecided old new none on = on.decisions ∙ none

pub down-start : (old new : View) (decisions variables : List ℕ) → decisions_of old.steps ≡ [] → GoesOn old new → decisions ≡ [] → IsQuiet new → IsDown new decisions variables 0
down-start old new decisions variables none on empty quiet = record {
  decisions_are = empty ∙ sym (undecided old new none on);
  quiet = quiet;
  valued = tt;
  last = λ front last e. absurd (not_empty front last (sym empty ∙ e));
}

pub comes-start : (old new : View) (decisions : List ℕ) (number : ℕ) → decisions_of old.steps ≡ [] → GoesOn old new → decisions ≡ [] → IsOutcome new (Conflict number) → ComesTo new decisions (Conflict number)
comes-start old new decisions number none on empty tells = record {
  decisions_are = empty ∙ sym (undecided old new none on);
  tells = tells;
  whole = λ e. absurd (cc);
  last = λ front last e. absurd (not_empty front last (sym empty ∙ e));
}

one_more_valued : (steps : List Step) (variables : List ℕ) (i : ℕ) → i < length variables → AllByRecursion (λ w. IsSome (value_of steps w)) (take i variables) → IsSome (value_of steps (get_or variables i 0))
    → AllByRecursion (λ w. IsSome (value_of steps w)) (take (i + 1) variables)
one_more_valued steps variables i lt all here =
    subst (AllByRecursion (λ w. IsSome (value_of steps w))) (sym (take_more variables i 0 lt)) (all_push (λ w. IsSome (value_of steps w)) (take i variables) (get_or variables i 0) all here)

pub down-same : (v : View) (decisions variables : List ℕ) (i : ℕ) → i < length variables → IsDown v decisions variables i → IsSome (value_of v.steps (get_or variables i 0)) → IsDown v decisions variables (i + 1)
down-same v decisions variables i lt is here = record {
  decisions_are = is.decisions_are;
  quiet = is.quiet;
  valued = one_more_valued v.steps variables i lt is.valued here;
  last = is.last;
}

-- a decision on the next variable
module _ (old new : View) (x : ℕ) (before decisions variables : List ℕ) (i : ℕ) (is : IsDown old before variables i) (vars : new.vars ≡ old.vars) (clauses : new.clauses ≡ old.clauses) where
  pub down-decided : i < length variables → variable_of x ≡ get_or variables i 0 → Decides old x new decisions Quiet → IsDown new decisions variables (i + 1)
  down-decided lt here decides = record {
    decisions_are = decides.decisions_are ∙ sym (decisions_after old x new decisions Quiet decides);
    quiet = decides.tells;
    valued =
        one_more_valued new.steps variables i lt
        (all_mapped (λ w. IsSome (value_of old.steps w)) (λ w. IsSome (value_of new.steps w)) (take i variables)
        (λ w some. subst (λ (steps : List Step). IsSome (value_of steps w)) (sym decides.steps) (value-more old.steps (record { literal = x; reason = None } ∷ decides.after) w some)) is.valued)
        (subst (λ w. IsSome (value_of new.steps w)) here
        (subst (λ (steps : List Step). IsSome (value_of steps (variable_of x))) (sym decides.steps) (value-decided old.steps x decides.after)));
    last = last_decision old x new decisions Quiet decides vars clauses is.quiet;
  }

  pub comes-decided : (number : ℕ) → Decides old x new decisions (Conflict number) → ComesTo new decisions (Conflict number)
  comes-decided number decides = record {
    decisions_are = decides.decisions_are ∙ sym (decisions_after old x new decisions (Conflict number) decides);
    tells = decides.tells;
    whole = λ e. absurd (cc);
    last = last_decision old x new decisions (Conflict number) decides vars clauses is.quiet;
  }

-- when each variable has a value
pub comes-whole : (v : View) (decisions variables : List ℕ) (i vars : ℕ) → IsDown v decisions variables i → length variables ≤ i → HasAllBelow vars variables → vars ≡ v.vars → ComesTo v decisions Quiet
comes-whole v decisions variables i vars is all below same = record {
  decisions_are = is.decisions_are;
  tells = is.quiet;
  whole = λ e variable lt.
      has_from_all (λ w. IsSome (value_of v.steps w)) variables (subst (AllByRecursion (λ w. IsSome (value_of v.steps w))) (take_all i variables all) is.valued) variable
      (below variable ∙ (let lt' : variable < vars = omega arith in grind (arith, nat_tests)));
  last = is.last;
}
