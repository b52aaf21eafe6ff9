-- The steps of a trail: the literal at a place, and the level that it has.
use Rattle.std.proofs.Common.{◌≡◌, ℕ, ◌+◌, true, false, eqb, List, [], ◌∷◌, ◌++◌, length, Option, Some, None, refl, ap, ap₂, sym, ◌∙◌, subst, ◌⊎◌, ⊎_elim, arith, append_assoc, length-append, zero-add}
use Rattle.std.specs.List.{IsDistinct}
use Rattle.std.specs.Option.{option_map}
use Rattle.std.proofs.lemmas.Bool.{both_ways, cond-true, eq-eqb, eqb-true, false_from_ne_true, false≢true, or_cases, or_from}
use Rattle.std.proofs.lemmas.List.{map-append}
use Rattle.std.proofs.lemmas.Map.Keys.{IsDistinct-cons, IsDistinct-head, IsDistinct-tail}
use Rattle.px_chain.specs.Clause.{has, variable_of}
use Rattle.px_chain.proofs.Members.{all_from_has, has-append, has_from_all}
use Rattle.px_trail.specs.declared.assignment.Known.{Known}
use Rattle.px_trail.specs.Trail.{IsAssignment, Step, decision_of, decisions_of, known_from, known_of, level_of, literals_of, next_level, reason_in, reason_of, variables_of}
use Rattle.px_trail.proofs.Levels.{count_push, decisions-append}
use Rattle.px_trail.proofs.Lookups.{IsAssignment-front, has-variable, known-append, last_known, or_known}
use Rattle.px_trail.proofs.Trails.{has_after, has_before, has_here}

-- the last of some steps, by their literals
pub record EndsAt (front : List Step) (earlier : List ℕ) (x : ℕ) : Type 0 where
  pub start : List Step
  pub step : Step
  pub steps : front ≡ start ++ step ∷ []
  pub literals : literals_of start ≡ earlier
  pub literal : step.literal ≡ x

pub ends_at : (front : List Step) (earlier : List ℕ) (x : ℕ) → literals_of front ≡ earlier ++ x ∷ [] → EndsAt front earlier x
ends_at [] [] x e = absurd (cc)
ends_at [] (y ∷ ys) x e = absurd (cc)
ends_at (s ∷ []) [] x e = record { start = []; step = s; steps = refl; literals = refl; literal = cc }
ends_at (s ∷ t ∷ front) [] x e = absurd (cc)
ends_at (s ∷ front) (y ∷ ys) x e =
    let rest : literals_of front ≡ ys ++ x ∷ [] = cc in
    let here : s.literal ≡ y = cc in
    let w = ends_at front ys x rest in
    record {
      start = s ∷ w.start;
      step = w.step;
      steps = ap (λ (r : List Step). s ∷ r) w.steps;
      literals = ap₂ (λ (l : ℕ) (ls : List ℕ). l ∷ ls) here w.literals;
      literal = w.literal;
    }

-- the place of a literal
pub record StandsAt (steps : List Step) (l : ℕ) : Type 0 where
  pub front : List Step
  pub step : Step
  pub back : List Step
  pub split : steps ≡ front ++ step ∷ back
  pub literal : step.literal ≡ l

pub stands_at : (steps : List Step) (l : ℕ) → has (literals_of steps) l ≡ true → StandsAt steps l
stands_at [] l h = absurd (false≢true h)
stands_at (s ∷ steps) l h =
    ⊎_elim
    (λ here. record { front = []; step = s; back = steps; split = refl; literal = eqb-true s.literal l here })
    (λ later. let w = stands_at steps l later in
    record { front = s ∷ w.front; step = w.step; back = w.back; split = ap (λ (r : List Step). s ∷ r) w.split; literal = w.literal })
    (or_cases (eqb s.literal l) (has (literals_of steps) l) h)

or_known-left : (o other : Option Known) → o ≡ None → or_known o other ≡ other
or_known-left o other none = ap (λ k. or_known k other) none

-- what is known of the variable of a step
pub known_at : (vars : ℕ) (front : List Step) (s : Step) (back : List Step) → IsAssignment vars (front ++ s ∷ back)
    → known_of (front ++ s ∷ back) (variable_of s.literal) ≡ Some (record { literal = s.literal; level = next_level (length (decisions_of front)) s.reason; reason = s.reason })
known_at vars front s back is =
    let v = variable_of s.literal in
    let up_to = IsAssignment-front vars (front ++ s ∷ []) back (subst (IsAssignment vars) (sym (append_assoc front (s ∷ []) back)) is) in
    known-append 0 front (s ∷ back) v
    ∙ or_known-left (known_from 0 front v) (known_from (0 + length (decisions_of front)) (s ∷ back) v) (last_known vars front s up_to 0)
    ∙ ap (λ n. known_from n (s ∷ back) v) (zero-add (length (decisions_of front)))
    ∙ cond-true (eqb v v) (Some (record { literal = s.literal; level = next_level (length (decisions_of front)) s.reason; reason = s.reason }))
    (known_from (next_level (length (decisions_of front)) s.reason) back v) (eq-eqb v v refl)

pub reason_at : (vars : ℕ) (front : List Step) (s : Step) (back : List Step) → IsAssignment vars (front ++ s ∷ back) → reason_of (front ++ s ∷ back) (variable_of s.literal) ≡ s.reason
reason_at vars front s back is = ap reason_in (known_at vars front s back is)

pub level_at : (vars : ℕ) (front : List Step) (s : Step) (back : List Step) → IsAssignment vars (front ++ s ∷ back)
    → level_of (front ++ s ∷ back) (variable_of s.literal) ≡ Some (length (decisions_of (front ++ s ∷ [])))
level_at vars front s back is =
    ap (λ (o : Option Known). option_map (λ (k : Known). k.level) o) (known_at vars front s back is) ∙ ap Some (count_push front s)

-- how many decisions stand in the parts of steps
pub decisions-count : (front back : List Step) → length (decisions_of (front ++ back)) ≡ length (decisions_of front) + length (decisions_of back)
decisions-count front back = ap length (decisions-append front back) ∙ length-append (decisions_of front) (decisions_of back)

pub decisions-split : (front : List Step) (s : Step) (back : List Step) → length (decisions_of (front ++ s ∷ back)) ≡ length (decisions_of (front ++ s ∷ [])) + length (decisions_of back)
decisions-split front s back = ap (λ (steps : List Step). length (decisions_of steps)) (sym (append_assoc front (s ∷ []) back)) ∙ decisions-count (front ++ s ∷ []) back

-- a decision among them
pub one_decision : (s : Step) (steps : List Step) → s.reason ≡ None → length (decisions_of (s ∷ steps)) ≡ length (decisions_of steps) + 1
one_decision s steps none = ap (λ (r : Option ℕ). length (decision_of s.literal r ++ decisions_of steps)) none ∙ omega arith

no_reason : (s : Step) → (r : Option ℕ) → s.reason ≡ r → length (decisions_of (s ∷ [])) ≡ 0 → (n : ℕ) × (r ≡ Some n)
no_reason s None e none = absurd (let one = one_decision s [] e in omega arith)
no_reason s (Some n) e none = (n, refl)

-- where no decision is left, a step has a reason
pub has_reason : (s : Step) → length (decisions_of (s ∷ [])) ≡ 0 → (n : ℕ) × (s.reason ≡ Some n)
has_reason s none = no_reason s s.reason refl none

-- no two literals are one
pub literals-distinct : (steps : List Step) → IsDistinct eqb (variables_of steps) → IsDistinct eqb (literals_of steps)
literals-distinct [] apart = apart
literals-distinct (s ∷ steps) apart =
    IsDistinct-cons eqb s.literal (literals_of steps)
    (all_from_has (λ l. eqb s.literal l ≡ false) (literals_of steps) (λ l there. false_from_ne_true (eqb s.literal l) (λ same.
    both_ways (eqb (variable_of s.literal) (variable_of l))
    (has_from_all (λ v. eqb (variable_of s.literal) v ≡ false) (variables_of steps) (IsDistinct-head eqb (variable_of s.literal) (variables_of steps) apart) (variable_of l) (has-variable steps l there))
    (eq-eqb (variable_of s.literal) (variable_of l) (ap variable_of (eqb-true s.literal l same))))))
    (literals-distinct steps (IsDistinct-tail eqb (variable_of s.literal) (variables_of steps) apart))

distinct_before : (xs : List ℕ) (y : ℕ) (zs : List ℕ) → IsDistinct eqb (xs ++ y ∷ zs) → has xs y ≡ false
distinct_before [] y zs apart = refl
distinct_before (x ∷ xs) y zs apart =
    or_from (eqb x y) (has xs y)
    (has_from_all (λ z. eqb x z ≡ false) (xs ++ y ∷ zs) (IsDistinct-head eqb x (xs ++ y ∷ zs) apart) y (has_after xs (y ∷ zs) y (has_here y zs)))
    (distinct_before xs y zs (IsDistinct-tail eqb x (xs ++ y ∷ zs) apart))

-- a step's literal isn't among those before it
pub not_before : (front : List Step) (s : Step) (back : List Step) → IsDistinct eqb (variables_of (front ++ s ∷ back)) → has (literals_of front) s.literal ≡ false
not_before front s back apart =
    distinct_before (literals_of front) s.literal (literals_of back)
    (subst (IsDistinct eqb) (map-append (λ (t : Step). t.literal) front (s ∷ back)) (literals-distinct (front ++ s ∷ back) apart))

-- the literals of the parts of steps
pub in_first : (front back : List Step) (l : ℕ) → has (literals_of front) l ≡ true → has (literals_of (front ++ back)) l ≡ true
in_first front back l h = subst (λ ls. has ls l ≡ true) (sym (map-append (λ (t : Step). t.literal) front back)) (has_before (literals_of front) (literals_of back) l h)

pub in_second : (front back : List Step) (l : ℕ) → has (literals_of back) l ≡ true → has (literals_of (front ++ back)) l ≡ true
in_second front back l h = subst (λ ls. has ls l ≡ true) (sym (map-append (λ (t : Step). t.literal) front back)) (has_after (literals_of front) (literals_of back) l h)

pub in_parts : (front back : List Step) (l : ℕ) → has (literals_of (front ++ back)) l ≡ true → (has (literals_of front) l ≡ true) ⊎ (has (literals_of back) l ≡ true)
in_parts front back l h =
    or_cases (has (literals_of front) l) (has (literals_of back) l)
    (sym (has-append (literals_of front) (literals_of back) l) ∙ subst (λ ls. has ls l ≡ true) (map-append (λ (t : Step). t.literal) front back) h)
