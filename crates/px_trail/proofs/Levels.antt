-- The decisions of a trail, and its first levels.
use Rattle.std.proofs.Common.{◌≡◌, ℕ, zero, suc, ◌+◌, ◌<◌, ◌≤◌, false, cond, List, [], ◌∷◌, ◌++◌, length, take, Option, Some, None, refl, ap, sym, ◌∙◌, arith, append_assoc, length-append}
use Rattle.std.proofs.lemmas.Bool.{cond-false, cond-true}
use Rattle.px_trail.specs.Assignment.{last_level}
use Rattle.px_trail.specs.Trail.{Step, decision_of, decisions_of, is_decision, next_level, up_to}

pub decisions-append : (xs ys : List Step) → decisions_of (xs ++ ys) ≡ decisions_of xs ++ decisions_of ys
decisions-append [] ys = refl
decisions-append (s ∷ xs) ys =
    ap (λ ds. decision_of s.literal s.reason ++ ds) (decisions-append xs ys) ∙ sym (append_assoc (decision_of s.literal s.reason) (decisions_of xs) (decisions_of ys))

-- how many decisions stand after one step more
one_more : (l : ℕ) (r : Option ℕ) (n : ℕ) → next_level n r ≡ n + length (decision_of l r ++ [])
one_more l None n = omega arith
one_more l (Some m) n = omega arith

pub count_push : (steps : List Step) (s : Step) → next_level (length (decisions_of steps)) s.reason ≡ length (decisions_of (steps ++ s ∷ []))
count_push steps s =
    one_more s.literal s.reason (length (decisions_of steps))
    ∙ sym (ap length (decisions-append steps (s ∷ [])) ∙ length-append (decisions_of steps) (decisions_of (s ∷ [])))

-- and before it
one_less : (r : Option ℕ) (n : ℕ) → last_level (next_level n r) r ≡ n
one_less None n = omega arith
one_less (Some m) n = refl

pub count_pop : (steps : List Step) (s : Step) (n : ℕ) → n ≡ length (decisions_of (steps ++ s ∷ [])) → last_level n s.reason ≡ length (decisions_of steps)
count_pop steps s n e = ap (λ m. last_level m s.reason) (e ∙ sym (count_push steps s)) ∙ one_less s.reason (length (decisions_of steps))

at_most_one : (l : ℕ) (r : Option ℕ) (ds : List ℕ) → length (decision_of l r ++ ds) ≤ length ds + 1
at_most_one l None ds = omega arith
at_most_one l (Some m) ds = omega arith

-- there are no more decisions than steps
pub few_decisions : (steps : List Step) → length (decisions_of steps) ≤ length steps
few_decisions [] = omega arith
few_decisions (s ∷ steps) = omega (arith, few_decisions steps, at_most_one s.literal s.reason (decisions_of steps))

-- where no more decisions stand than are kept, all is kept
pub up_to-all : (level : ℕ) (steps : List Step) → length (decisions_of steps) ≤ level → up_to level steps ≡ steps
up_to-all zero [] h = refl
up_to-all (suc level) [] h = refl
up_to-all zero (s ∷ steps) h =
    elim s.reason as (λ r. length (decision_of s.literal r ++ decisions_of steps) ≤ zero → cond (is_decision r) [] (s ∷ up_to zero steps) ≡ s ∷ steps) [
      | None ↦ λ le. absurd (omega arith)
      | Some n ↦ λ le. ap (λ rest. s ∷ rest) (up_to-all zero steps le)
    ] h
up_to-all (suc level) (s ∷ steps) h =
    elim s.reason as (λ r. length (decision_of s.literal r ++ decisions_of steps) ≤ suc level → cond (is_decision r) (s ∷ up_to level steps) (s ∷ up_to (suc level) steps) ≡ s ∷ steps) [
      | None ↦ λ le. ap (λ rest. s ∷ rest) (up_to-all level steps (omega arith))
      | Some n ↦ λ le. ap (λ rest. s ∷ rest) (up_to-all (suc level) steps le)
    ] h

decision_only : (s : Step) (r : Option ℕ) → zero < length (decision_of s.literal r ++ []) → cond (is_decision r) [] (s ∷ []) ≡ []
decision_only s None lt = refl
decision_only s (Some n) lt = absurd (omega arith)

none_after : (s : Step) (r : Option ℕ) (level : ℕ) → suc level < length (decision_of s.literal r ++ []) → ⊥
none_after s None level lt = omega arith
none_after s (Some n) level lt = omega arith

-- where more decisions stand than are kept, the last step isn't kept
pub up_to-front : (level : ℕ) (front : List Step) (s : Step) → level < length (decisions_of (front ++ s ∷ [])) → up_to level (front ++ s ∷ []) ≡ up_to level front
up_to-front zero [] s lt = decision_only s s.reason lt
up_to-front (suc level) [] s lt = absurd (none_after s s.reason level lt)
up_to-front zero (t ∷ front) s lt =
    elim t.reason as (λ r. zero < length (decision_of t.literal r ++ decisions_of (front ++ s ∷ []))
    → cond (is_decision r) [] (t ∷ up_to zero (front ++ s ∷ [])) ≡ cond (is_decision r) [] (t ∷ up_to zero front)) [
      | None ↦ λ more. refl
      | Some n ↦ λ more. ap (λ rest. t ∷ rest) (up_to-front zero front s more)
    ] lt
up_to-front (suc level) (t ∷ front) s lt =
    elim t.reason as (λ r. suc level < length (decision_of t.literal r ++ decisions_of (front ++ s ∷ []))
    → cond (is_decision r) (t ∷ up_to level (front ++ s ∷ [])) (t ∷ up_to (suc level) (front ++ s ∷ [])) ≡ cond (is_decision r) (t ∷ up_to level front) (t ∷ up_to (suc level) front)) [
      | None ↦ λ more. ap (λ rest. t ∷ rest) (up_to-front level front s (omega arith))
      | Some n ↦ λ more. ap (λ rest. t ∷ rest) (up_to-front (suc level) front s more)
    ] lt

-- what is left when the last step is taken back
pub last_counts : (front : List Step) (s : Step) → length (decisions_of (front ++ s ∷ [])) ≤ length (decisions_of front) + 1
last_counts front s =
    omega (arith, ap length (decisions-append front (s ∷ [])), length-append (decisions_of front) (decisions_of (s ∷ [])), at_most_one s.literal s.reason [])

-- what is kept begins the steps
pub up_to-begins : (level : ℕ) (steps : List Step) → (back : List Step) × (steps ≡ up_to level steps ++ back)
up_to-begins zero [] = ([], refl)
up_to-begins (suc level) [] = ([], refl)
up_to-begins zero (s ∷ steps) =
    elim s.reason as (λ r. (back : List Step) × (s ∷ steps ≡ cond (is_decision r) [] (s ∷ up_to zero steps) ++ back)) [
      | None ↦ (s ∷ steps, refl)
      | Some n ↦ let w = up_to-begins zero steps in (w.0, ap (λ rest. s ∷ rest) w.1)
    ]
up_to-begins (suc level) (s ∷ steps) =
    elim s.reason as (λ r. (back : List Step) × (s ∷ steps ≡ cond (is_decision r) (s ∷ up_to level steps) (s ∷ up_to (suc level) steps) ++ back)) [
      | None ↦ let w = up_to-begins level steps in (w.0, ap (λ rest. s ∷ rest) w.1)
      | Some n ↦ let w = up_to-begins (suc level) steps in (w.0, ap (λ rest. s ∷ rest) w.1)
    ]

-- the decisions that are kept
pub decisions-up_to : (level : ℕ) (steps : List Step) → decisions_of (up_to level steps) ≡ take level (decisions_of steps)
decisions-up_to zero [] = refl
decisions-up_to (suc level) [] = refl
decisions-up_to zero (s ∷ steps) =
    elim s.reason as (λ r. let t : Step = record { literal = s.literal; reason = r } in decisions_of (up_to zero (t ∷ steps)) ≡ take zero (decisions_of (t ∷ steps))) [
      | None ↦ refl
      | Some n ↦ decisions-up_to zero steps
    ]
decisions-up_to (suc level) (s ∷ steps) =
    elim s.reason as (λ r. let t : Step = record { literal = s.literal; reason = r } in decisions_of (up_to (suc level) (t ∷ steps)) ≡ take (suc level) (decisions_of (t ∷ steps))) [
      | None ↦ ap (λ ds. s.literal ∷ ds) (decisions-up_to level steps)
      | Some n ↦ decisions-up_to (suc level) steps
    ]

up_to-kept : (level : ℕ) (s : Step) (steps : List Step) → is_decision s.reason ≡ false → up_to level (s ∷ steps) ≡ s ∷ up_to level steps
up_to-kept zero s steps e = cond-false (is_decision s.reason) [] (s ∷ up_to zero steps) e
up_to-kept (suc level) s steps e = cond-false (is_decision s.reason) (s ∷ up_to level steps) (s ∷ up_to (suc level) steps) e

-- what stood before a decision is what is kept of the decisions before it
pub up_to-before : (front : List Step) (s : Step) (back : List Step) → s.reason ≡ None → up_to (length (decisions_of front)) (front ++ s ∷ back) ≡ front
up_to-before [] s back e = cond-true (is_decision s.reason) [] (s ∷ up_to zero back) (ap is_decision e)
up_to-before (t ∷ front) s back e =
    elim t.reason as (λ r. let u : Step = record { literal = t.literal; reason = r } in up_to (length (decisions_of (u ∷ front))) (u ∷ front ++ s ∷ back) ≡ u ∷ front) [
      | None ↦ let u : Step = record { literal = t.literal; reason = None } in ap (λ rest. u ∷ rest) (up_to-before front s back e)
      | Some n ↦ let u : Step = record { literal = t.literal; reason = Some n } in
          up_to-kept (length (decisions_of front)) u (front ++ s ∷ back) refl ∙ ap (λ rest. u ∷ rest) (up_to-before front s back e)
    ]
