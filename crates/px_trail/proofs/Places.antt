-- The literals of a trail by their places, and what is known of those.
use Rattle.std.proofs.Common.{◌≡◌, ℕ, ◌<◌, Bool, true, eqb, List, [], ◌∷◌, ◌++◌, length, get_or, take, map, not, Option, Some, None, refl, ap, sym, ◌∙◌, subst, ⊎_elim, arith, length-append}
use Rattle.std.specs.List.{IsDistinct}
use Rattle.std.specs.Option.{IfSome, option_map}
use Rattle.std.proofs.lemmas.Bool.{both_ways, cases_order, eq-eqb}
use Rattle.std.proofs.lemmas.List.{get_or-map, get_or_at, length-map, map-append, take_at}
use Rattle.std.proofs.lemmas.Map.Keys.{apart_from_distinct}
use Rattle.px_chain.specs.Clause.{complement, has, is_negated, variable_of}
use Rattle.px_chain.specs.Propagation.{IsUnassigned as IsFree}
use Rattle.px_trail.specs.declared.assignment.Known.{Known}
use Rattle.px_trail.specs.Trail.{Explains, IsQuiet, IsReason, IsTrail, Step, View, decision_of, decisions_of, known_from, known_of, literals_of, next_level, reason_of, value_of, variables_of}
use Rattle.px_trail.proofs.Lookups.{known-unassigned, some_cond}
use Rattle.px_trail.proofs.Trails.{explains, has_after, has_here}

variables-literals : (steps : List Step) → variables_of steps ≡ map variable_of (literals_of steps)
variables-literals [] = refl
variables-literals (s ∷ steps) = ap (λ vs. variable_of s.literal ∷ vs) (variables-literals steps)

-- literals at two places have two variables
two_places : (steps : List Step) (i j : ℕ) → IsDistinct eqb (variables_of steps) → i < j → j < length (literals_of steps)
    → variable_of (get_or (literals_of steps) i 0) ≡ variable_of (get_or (literals_of steps) j 0) → ⊥
two_places steps i j apart lt within same =
    let vs = map variable_of (literals_of steps) in
    let size : length vs ≡ length (literals_of steps) = length-map (literals_of steps) variable_of in
    let differ = apart_from_distinct eqb vs i j 0 (subst (IsDistinct eqb) (variables-literals steps) apart) lt (omega arith) in
    both_ways (eqb (get_or vs i 0) (get_or vs j 0)) differ
    (eq-eqb (get_or vs i 0) (get_or vs j 0)
    (get_or-map variable_of (literals_of steps) i 0 0 (omega arith) ∙ same ∙ sym (get_or-map variable_of (literals_of steps) j 0 0 within)))

-- a variable stands at one place
pub same_place : (steps : List Step) (i j : ℕ) → IsDistinct eqb (variables_of steps) → i < length (literals_of steps) → j < length (literals_of steps)
    → variable_of (get_or (literals_of steps) i 0) ≡ variable_of (get_or (literals_of steps) j 0) → i ≡ j
same_place steps i j apart here there same =
    ⊎_elim (λ e. e)
    (λ ne. ⊎_elim (λ lt. absurd (two_places steps i j apart lt there same)) (λ gt. absurd (two_places steps j i apart gt here (sym same))) ne)
    (cases_order i j)

some_in : (P : ℕ → Type 0) (o : Option ℕ) (n : ℕ) → o ≡ Some n → IfSome o P → P n
some_in P o n e h = subst (λ r. IfSome r P) e h

-- The reason of the literal at a place: the complements of the clause's other literals stand at the places before.
pub reason_at : (v : View) (i n : ℕ) → IsTrail v → i < length (literals_of v.steps) → reason_of v.steps (variable_of (get_or (literals_of v.steps) i 0)) ≡ Some n
    → IsReason v.clauses (take i (literals_of v.steps)) (get_or (literals_of v.steps) i 0) n
reason_at v i n is within e =
    let l = get_or (literals_of v.steps) i 0 in
    let w : Explains v (variable_of l) n = some_in (Explains v (variable_of l)) (reason_of v.steps (variable_of l)) n e (explains v (variable_of l) is) in
    let s : Step = record { literal = w.literal; reason = Some n } in
    let literals : literals_of v.steps ≡ literals_of w.front ++ w.literal ∷ literals_of w.back =
    ap literals_of w.steps ∙ map-append (λ (t : Step). t.literal) w.front (s ∷ w.back) in
    let front = literals_of w.front in
    let j = length front in
    let there : get_or (literals_of v.steps) j 0 ≡ w.literal = ap (λ ls. get_or ls j 0) literals ∙ get_or_at front w.literal (literals_of w.back) 0 j refl in
    let bound : j < length (literals_of v.steps) = omega (arith, ap length literals, length-append front (w.literal ∷ literals_of w.back)) in
    let place : j ≡ i = same_place v.steps j i is.assignment.apart bound within (ap variable_of there ∙ w.of_variable) in
    let same : w.literal ≡ l = sym there ∙ ap (λ k. get_or (literals_of v.steps) k 0) place in
    let before : front ≡ take i (literals_of v.steps) = sym (take_at front (w.literal ∷ literals_of w.back) j refl) ∙ ap (take j) (sym literals) ∙ ap (λ k. take k (literals_of v.steps)) place in
    subst (λ ls. IsReason v.clauses ls l n) before (subst (λ m. IsReason v.clauses front m n) same w.reason)

-- A variable without a reason was decided.
decided_first : (l : ℕ) (r : Option ℕ) (ds : List ℕ) → r ≡ None → has (decision_of l r ++ ds) l ≡ true
decided_first l None ds e = has_here l ds
decided_first l (Some n) ds e = absurd (cc)

pub known-decided : (level : ℕ) (steps : List Step) (v : ℕ) (k : Known) → known_from level steps v ≡ Some k → k.reason ≡ None → has (decisions_of steps) k.literal ≡ true
known-decided level [] v k e none = absurd (cc)
known-decided level (s ∷ steps) v k e none =
    ⊎_elim
    (λ here. subst (λ l. has (decision_of s.literal s.reason ++ decisions_of steps) l ≡ true) (ap (λ (j : Known). j.literal) here.1)
    (decided_first s.literal s.reason (decisions_of steps) (ap (λ (j : Known). j.reason) here.1 ∙ none)))
    (λ later. has_after (decision_of s.literal s.reason) (decisions_of steps) k.literal (known-decided (next_level level s.reason) steps v k later none))
    (some_cond (eqb (variable_of s.literal) v) (record { literal = s.literal; level = next_level level s.reason; reason = s.reason }) k (known_from (next_level level s.reason) steps v) e)

value_none : (o : Option Known) (f : Known → Bool) → option_map f o ≡ None → o ≡ None
value_none None f e = refl
value_none (Some k) f e = absurd (cc)

-- After Quiet a variable that has no value is unassigned in all that follows from the decisions.
pub quiet-unassigned : (v : View) (l : ℕ) → IsQuiet v → value_of v.steps (variable_of l) ≡ None → IsFree v.clauses (decisions_of v.steps) l
quiet-unassigned v l is e =
    let free = known-unassigned v.steps l (value_none (known_of v.steps (variable_of l)) (λ (k : Known). not (is_negated k.literal)) e) in
    record {
      literal = λ closed. both_ways (has (literals_of v.steps) l) free.0 ((is.closure l).1 closed);
      complement_too = λ closed. both_ways (has (literals_of v.steps) (complement l)) free.1 ((is.closure (complement l)).1 closed);
    }
