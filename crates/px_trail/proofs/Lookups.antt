-- What is known of a variable, from the steps of an assignment.
use Rattle.std.proofs.Common.{◌≡◌, ℕ, ◌+◌, ◌<◌, ◌≤◌, Bool, true, false, cond, eqb, List, [], ◌∷◌, ◌++◌, length, Option, Some, None, refl, ap, sym, ◌∙◌, subst, ◌⊎◌, inl, inr, ⊎_elim, arith}
use Rattle.std.specs.List.{AllByRecursion, IsDistinct, list_any}
use Rattle.std.specs.Option.{option_map}
use Rattle.std.proofs.lemmas.Bool.{both_ways, eq-eqb, eqb-true, false_from_ne_true, false≢true, or_cases, or_from, or_left, or_parts, or_right}
use Rattle.std.proofs.lemmas.List.{length-map, map-append}
use Rattle.std.proofs.lemmas.Map.Keys.{IsDistinct-cons, IsDistinct-head, IsDistinct-tail}
use Rattle.std.proofs.lemmas.Map.Steps.{length-le_from_distinct_below}
use Rattle.px_chain.specs.Clause.{complement, has, variable_of}
use Rattle.px_chain.proofs.Closures.{by_variable}
use Rattle.px_chain.proofs.Closures.{complement-other}
use Rattle.px_chain.proofs.Members.{has_from_all}
use Rattle.px_trail.specs.declared.assignment.Known.{Known}
use Rattle.px_trail.specs.Assignment.{truth_of}
use Rattle.px_trail.specs.Trail.{IsAssignment, IsUnassigned, Step, decision_of, decisions_of, known_from, known_of, literals_of, next_level, variables_of}

-- the first of two answers
abbrev pub or_known : Option Known → Option Known → Option Known
or_known None other = other
or_known (Some k) other = Some k

or_known-cond : (b : Bool) (k : Known) (x y z : Option Known) → x ≡ or_known y z → cond b (Some k) x ≡ or_known (cond b (Some k) y) z
or_known-cond true k x y z e = refl
or_known-cond false k x y z e = e

pub or_known-none : (x : Option Known) → or_known x None ≡ x
or_known-none None = refl
or_known-none (Some k) = refl

level_after : (l : ℕ) (r : Option ℕ) (level : ℕ) (ds : List ℕ) → next_level level r + length ds ≡ level + length (decision_of l r ++ ds)
level_after l None level ds = omega arith
level_after l (Some n) level ds = omega arith

-- what is known from steps and further ones
pub known-append : (level : ℕ) (xs ys : List Step) (v : ℕ) → known_from level (xs ++ ys) v ≡ or_known (known_from level xs v) (known_from (level + length (decisions_of xs)) ys v)
known-append level [] ys v = ap (λ n. known_from n ys v) (omega arith)
known-append level (s ∷ xs) ys v =
    or_known-cond (eqb (variable_of s.literal) v) (record { literal = s.literal; level = next_level level s.reason; reason = s.reason })
    (known_from (next_level level s.reason) (xs ++ ys) v) (known_from (next_level level s.reason) xs v) (known_from (level + length (decisions_of (s ∷ xs))) ys v)
    (known-append (next_level level s.reason) xs ys v
    ∙ ap (λ n. or_known (known_from (next_level level s.reason) xs v) (known_from n ys v)) (level_after s.literal s.reason level (decisions_of xs)))

cond_none : (b : Bool) (k : Known) (x : Option Known) → b ≡ false → x ≡ None → cond b (Some k) x ≡ None
cond_none true k x e f = absurd (false≢true (sym e))
cond_none false k x e f = f

none_cond : (b : Bool) (k : Known) (x : Option Known) → cond b (Some k) x ≡ None → (b ≡ false) × (x ≡ None)
none_cond true k x e = absurd (cc)
none_cond false k x e = (refl, e)

-- nothing is known of a variable exactly where no literal has it
pub known-absent : (level : ℕ) (steps : List Step) (v : ℕ) → has (variables_of steps) v ≡ false → known_from level steps v ≡ None
known-absent level [] v e = refl
known-absent level (s ∷ steps) v e =
    let parts = or_parts (eqb (variable_of s.literal) v) (has (variables_of steps) v) e in
    cond_none (eqb (variable_of s.literal) v) (record { literal = s.literal; level = next_level level s.reason; reason = s.reason })
    (known_from (next_level level s.reason) steps v) parts.0 (known-absent (next_level level s.reason) steps v parts.1)

pub absent-known : (level : ℕ) (steps : List Step) (v : ℕ) → known_from level steps v ≡ None → has (variables_of steps) v ≡ false
absent-known level [] v e = refl
absent-known level (s ∷ steps) v e =
    let parts = none_cond (eqb (variable_of s.literal) v) (record { literal = s.literal; level = next_level level s.reason; reason = s.reason })
    (known_from (next_level level s.reason) steps v) e in
    or_from (eqb (variable_of s.literal) v) (has (variables_of steps) v) parts.0 (absent-known (next_level level s.reason) steps v parts.1)

-- a literal's variable is among the variables
pub has-variable : (steps : List Step) (l : ℕ) → has (literals_of steps) l ≡ true → has (variables_of steps) (variable_of l) ≡ true
has-variable [] l h = h
has-variable (s ∷ steps) l h =
    ⊎_elim
    (λ e. or_left (eqb (variable_of s.literal) (variable_of l)) (has (variables_of steps) (variable_of l)) (eq-eqb (variable_of s.literal) (variable_of l) (ap variable_of (eqb-true s.literal l e))))
    (λ later. or_right (eqb (variable_of s.literal) (variable_of l)) (has (variables_of steps) (variable_of l)) (has-variable steps l later))
    (or_cases (eqb s.literal l) (has (literals_of steps) l) h)

pub some_cond : (b : Bool) (k j : Known) (x : Option Known) → cond b (Some k) x ≡ Some j → ((b ≡ true) × (k ≡ j)) ⊎ (x ≡ Some j)
some_cond true k j x e = inl (refl, cc)
some_cond false k j x e = inr e

-- what is known of a variable is a literal of it
pub known-has : (level : ℕ) (steps : List Step) (v : ℕ) (k : Known) → known_from level steps v ≡ Some k → (has (literals_of steps) k.literal ≡ true) × (variable_of k.literal ≡ v)
known-has level [] v k e = absurd (cc)
known-has level (s ∷ steps) v k e =
    ⊎_elim
    (λ here. let same : s.literal ≡ k.literal = ap (λ (j : Known). j.literal) here.1 in (
      or_left (eqb s.literal k.literal) (has (literals_of steps) k.literal) (eq-eqb s.literal k.literal same),
      ap variable_of (sym same) ∙ eqb-true (variable_of s.literal) v here.0,
    ))
    (λ later. let rest = known-has (next_level level s.reason) steps v k later in
    (or_right (eqb s.literal k.literal) (has (literals_of steps) k.literal) rest.0, rest.1))
    (some_cond (eqb (variable_of s.literal) v) (record { literal = s.literal; level = next_level level s.reason; reason = s.reason }) k (known_from (next_level level s.reason) steps v) e)

known_here : (b : Bool) (k : Known) (x : Option Known) (l : ℕ) → b ≡ true → k.literal ≡ l → (j : Known) × (cond b (Some k) x ≡ Some j) × (j.literal ≡ l)
known_here true k x l e same = (k, refl, same)
known_here false k x l e same = absurd (false≢true e)

known_later : (b : Bool) (k : Known) (x : Option Known) (l : ℕ) → b ≡ false → (j : Known) × (x ≡ Some j) × (j.literal ≡ l) → (j : Known) × (cond b (Some k) x ≡ Some j) × (j.literal ≡ l)
known_later true k x l e w = absurd (false≢true (sym e))
known_later false k x l e w = w

-- a literal is what is known of its variable
pub has-known : (level : ℕ) (steps : List Step) (l : ℕ) → IsDistinct eqb (variables_of steps) → has (literals_of steps) l ≡ true
    → (k : Known) × (known_from level steps (variable_of l) ≡ Some k) × (k.literal ≡ l)
has-known level [] l apart h = absurd (false≢true h)
has-known level (s ∷ steps) l apart h =
    let here : Known = record { literal = s.literal; level = next_level level s.reason; reason = s.reason } in
    ⊎_elim
    (λ e. let same : s.literal ≡ l = eqb-true s.literal l e in
    known_here (eqb (variable_of s.literal) (variable_of l)) here (known_from (next_level level s.reason) steps (variable_of l)) l
    (eq-eqb (variable_of s.literal) (variable_of l) (ap variable_of same)) same)
    (λ later.
    known_later (eqb (variable_of s.literal) (variable_of l)) here (known_from (next_level level s.reason) steps (variable_of l)) l
    (has_from_all (λ w. eqb (variable_of s.literal) w ≡ false) (variables_of steps) (IsDistinct-head eqb (variable_of s.literal) (variables_of steps) apart) (variable_of l) (has-variable steps l later))
    (has-known (next_level level s.reason) steps l (IsDistinct-tail eqb (variable_of s.literal) (variables_of steps) apart) later))
    (or_cases (eqb s.literal l) (has (literals_of steps) l) h)

-- where a variable's step stands
pub known-splits : (level : ℕ) (steps : List Step) (v : ℕ) (k : Known) → known_from level steps v ≡ Some k
    → (front : List Step) × (back : List Step) × (steps ≡ front ++ record { literal = k.literal; reason = k.reason } ∷ back)
known-splits level [] v k e = absurd (cc)
known-splits level (s ∷ steps) v k e =
    ⊎_elim
    (λ here. ([], steps, ap (λ (j : Known). let t : Step = record { literal = j.literal; reason = j.reason } in t ∷ steps) here.1))
    (λ later. let w = known-splits (next_level level s.reason) steps v k later in (s ∷ w.0, w.1, ap (λ rest. s ∷ rest) w.2))
    (some_cond (eqb (variable_of s.literal) v) (record { literal = s.literal; level = next_level level s.reason; reason = s.reason }) k (known_from (next_level level s.reason) steps v) e)

-- the two literals of a variable
pub variable-complement : (l : ℕ) → variable_of (complement l) ≡ variable_of l
variable-complement l = ⊎_elim (λ e. omega (arith, e.1)) (λ e. omega (arith, e.1)) (by_variable l)

pub same_variable : (l m : ℕ) → variable_of m ≡ variable_of l → (m ≡ l) ⊎ (m ≡ complement l)
same_variable l m same =
    ⊎_elim
    (λ e. ⊎_elim (λ f. inl (omega arith)) (λ f. inr (omega arith)) (by_variable m))
    (λ e. ⊎_elim (λ f. inr (omega arith)) (λ f. inl (omega arith)) (by_variable m))
    (by_variable l)

-- a literal and its complement don't both stand
pub never_both : (vars : ℕ) (steps : List Step) (l : ℕ) → IsAssignment vars steps → has (literals_of steps) l ≡ true → has (literals_of steps) (complement l) ≡ true → ⊥
never_both vars steps l is here other =
    let one = has-known 0 steps l is.apart here in
    let two = has-known 0 steps (complement l) is.apart other in
    let same : known_of steps (variable_of l) ≡ Some two.0 = ap (known_of steps) (sym (variable-complement l)) ∙ two.1 in
    let known : one.0 ≡ two.0 = cc (same, one.1) in
    complement-other l (sym two.2 ∙ ap (λ (k : Known). k.literal) (sym known) ∙ one.2)

-- and so two literals of one variable that stand are one
pub same_literal : (vars : ℕ) (steps : List Step) (l m : ℕ) → IsAssignment vars steps → has (literals_of steps) l ≡ true → has (literals_of steps) m ≡ true → variable_of l ≡ variable_of m → l ≡ m
same_literal vars steps l m is here there same =
    ⊎_elim (λ e. e) (λ e. absurd (never_both vars steps m is there (subst (λ k. has (literals_of steps) k ≡ true) e here))) (same_variable m l same)

-- what the value of a literal says
value-some : (l : ℕ) (b : Bool) (o : Option Known) → option_map (λ (k : Known). eqb k.literal l) o ≡ Some b → (k : Known) × (o ≡ Some k) × (eqb k.literal l ≡ b)
value-some l b None e = absurd (cc)
value-some l b (Some k) e = (k, refl, cc)

value-none : (l : ℕ) (o : Option Known) → option_map (λ (k : Known). eqb k.literal l) o ≡ None → o ≡ None
value-none l None e = refl
value-none l (Some k) e = absurd (cc)

pub truth-true : (steps : List Step) (l : ℕ) → truth_of steps l ≡ Some true → has (literals_of steps) l ≡ true
truth-true steps l e =
    let w = value-some l true (known_of steps (variable_of l)) e in
    subst (λ m. has (literals_of steps) m ≡ true) (eqb-true w.0.literal l w.2) (known-has 0 steps (variable_of l) w.0 w.1).0

pub truth-false : (steps : List Step) (l : ℕ) → truth_of steps l ≡ Some false → has (literals_of steps) (complement l) ≡ true
truth-false steps l e =
    let w = value-some l false (known_of steps (variable_of l)) e in
    let there = known-has 0 steps (variable_of l) w.0 w.1 in
    ⊎_elim
    (λ same. absurd (both_ways (eqb w.0.literal l) w.2 (eq-eqb w.0.literal l same)))
    (λ other. subst (λ m. has (literals_of steps) m ≡ true) other there.0)
    (same_variable l w.0.literal there.1)

-- a variable of which nothing is known has no literal
pub known-unassigned : (steps : List Step) (l : ℕ) → known_of steps (variable_of l) ≡ None → IsUnassigned (literals_of steps) l
known-unassigned steps l e =
    let absent = absent-known 0 steps (variable_of l) e in (
      false_from_ne_true (has (literals_of steps) l) (λ h. both_ways (has (variables_of steps) (variable_of l)) absent (has-variable steps l h)),
      false_from_ne_true (has (literals_of steps) (complement l)) (λ h. both_ways (has (variables_of steps) (variable_of l)) absent
          (subst (λ v. has (variables_of steps) v ≡ true) (variable-complement l) (has-variable steps (complement l) h))),
    )

pub truth-none : (steps : List Step) (l : ℕ) → truth_of steps l ≡ None → IsUnassigned (literals_of steps) l
truth-none steps l e = known-unassigned steps l (value-none l (known_of steps (variable_of l)) e)

none_since : (o : Option Known) → ((k : Known) → o ≡ Some k → ⊥) → o ≡ None
none_since None never = refl
none_since (Some k) never = absurd (never k refl)

pub unassigned-known : (steps : List Step) (l : ℕ) → IsUnassigned (literals_of steps) l → known_of steps (variable_of l) ≡ None
unassigned-known steps l free =
    none_since (known_of steps (variable_of l)) (λ k e.
    let there = known-has 0 steps (variable_of l) k e in
    ⊎_elim
    (λ same. both_ways (has (literals_of steps) l) free.0 (subst (λ m. has (literals_of steps) m ≡ true) same there.0))
    (λ other. both_ways (has (literals_of steps) (complement l)) free.1 (subst (λ m. has (literals_of steps) m ≡ true) other there.0))
    (same_variable l k.literal there.1))

-- lists with no number twice
all_push : {X : Type 0} (P : X → Type 0) (xs : List X) (y : X) → AllByRecursion P xs → P y → AllByRecursion P (xs ++ y ∷ [])
all_push P [] y all p = (p, tt)
all_push P (x ∷ xs) y all p = (all.0, all_push P xs y all.1 p)

pub all_front : {X : Type 0} (P : X → Type 0) (xs ys : List X) → AllByRecursion P (xs ++ ys) → AllByRecursion P xs
all_front P [] ys all = tt
all_front P (x ∷ xs) ys all = (all.0, all_front P xs ys all.1)

all_last : {X : Type 0} (P : X → Type 0) (xs : List X) (y : X) → AllByRecursion P (xs ++ y ∷ []) → P y
all_last P [] y all = all.0
all_last P (x ∷ xs) y all = all_last P xs y all.1

distinct_push : (xs : List ℕ) (y : ℕ) → IsDistinct eqb xs → has xs y ≡ false → IsDistinct eqb (xs ++ y ∷ [])
distinct_push [] y apart new = IsDistinct-cons eqb y [] tt apart
distinct_push (x ∷ xs) y apart new =
    let parts = or_parts (eqb x y) (has xs y) new in
    IsDistinct-cons eqb x (xs ++ y ∷ []) (all_push (λ z. eqb x z ≡ false) xs y (IsDistinct-head eqb x xs apart) parts.0)
    (distinct_push xs y (IsDistinct-tail eqb x xs apart) parts.1)

distinct_front : (xs ys : List ℕ) → IsDistinct eqb (xs ++ ys) → IsDistinct eqb xs
unfolding IsDistinct
distinct_front [] ys apart = tt
distinct_front (x ∷ xs) ys apart = (all_front (λ z. eqb x z ≡ false) xs ys apart.0, distinct_front xs ys apart.1)

distinct_last : (xs : List ℕ) (y : ℕ) → IsDistinct eqb (xs ++ y ∷ []) → has xs y ≡ false
distinct_last [] y apart = refl
distinct_last (x ∷ xs) y apart =
    or_from (eqb x y) (has xs y) (all_last (λ z. eqb x z ≡ false) xs y (IsDistinct-head eqb x (xs ++ y ∷ []) apart))
    (distinct_last xs y (IsDistinct-tail eqb x (xs ++ y ∷ []) apart))

pub IsAssignment-none : (vars : ℕ) → IsAssignment vars []
unfolding IsDistinct
IsAssignment-none vars = record { over = tt; apart = tt }

-- an assignment and one step more
pub IsAssignment-push : (vars : ℕ) (steps : List Step) (s : Step) → IsAssignment vars steps → variable_of s.literal < vars → known_of steps (variable_of s.literal) ≡ None
    → IsAssignment vars (steps ++ s ∷ [])
IsAssignment-push vars steps s is lt none =
    let e = map-append (λ (t : Step). variable_of t.literal) steps (s ∷ []) in
    record {
      over = subst (AllByRecursion (λ v. v < vars)) (sym e) (all_push (λ v. v < vars) (variables_of steps) (variable_of s.literal) is.over lt);
      apart = subst (IsDistinct eqb) (sym e) (distinct_push (variables_of steps) (variable_of s.literal) is.apart (absent-known 0 steps (variable_of s.literal) none));
    }

-- the front of an assignment
pub IsAssignment-front : (vars : ℕ) (front back : List Step) → IsAssignment vars (front ++ back) → IsAssignment vars front
IsAssignment-front vars front back is =
    let e = map-append (λ (t : Step). variable_of t.literal) front back in
    record {
      over = all_front (λ v. v < vars) (variables_of front) (variables_of back) (subst (AllByRecursion (λ v. v < vars)) e is.over);
      apart = distinct_front (variables_of front) (variables_of back) (subst (IsDistinct eqb) e is.apart);
    }

pub last_known : (vars : ℕ) (front : List Step) (s : Step) → IsAssignment vars (front ++ s ∷ []) → (level : ℕ) → known_from level front (variable_of s.literal) ≡ None
last_known vars front s is level =
    let e = map-append (λ (t : Step). variable_of t.literal) front (s ∷ []) in
    known-absent level front (variable_of s.literal) (distinct_last (variables_of front) (variable_of s.literal) (subst (IsDistinct eqb) e is.apart))

pub last_over : (vars : ℕ) (front : List Step) (s : Step) → IsAssignment vars (front ++ s ∷ []) → variable_of s.literal < vars
last_over vars front s is =
    let e = map-append (λ (t : Step). variable_of t.literal) front (s ∷ []) in
    all_last (λ v. v < vars) (variables_of front) (variable_of s.literal) (subst (AllByRecursion (λ v. v < vars)) e is.over)

any_has : (xs : List ℕ) (q : ℕ) → list_any (eqb q) xs ≡ true → has xs q ≡ true
any_has [] q h = h
any_has (x ∷ xs) q h =
    ⊎_elim (λ e. or_left (eqb x q) (has xs q) (eq-eqb x q (sym (eqb-true q x e)))) (λ later. or_right (eqb x q) (has xs q) (any_has xs q later)) (or_cases (eqb q x) (list_any (eqb q) xs) h)

-- there are no more steps than variables
pub few_steps : (vars : ℕ) (steps : List Step) → IsAssignment vars steps → length steps ≤ vars
few_steps vars steps is =
    omega (
      arith,
      length-map steps (λ (t : Step). variable_of t.literal),
      length-le_from_distinct_below (variables_of steps) vars is.apart (λ q h. has_from_all (λ v. v < vars) (variables_of steps) is.over q (any_has (variables_of steps) q h)),
    )
