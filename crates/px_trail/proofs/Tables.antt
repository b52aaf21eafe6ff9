-- The table of what is known, as steps are added and taken back.
use Rattle.std.proofs.Common.{◌≡◌, ◌≢◌, ℕ, zero, suc, ◌+◌, ◌<◌, ◌≤◌, ◌^◌, false, eqb, List, [], ◌∷◌, ◌++◌, length, get_or, set, replicate, Option, Some, None, refl, ap, ap₂, sym, ◌∙◌, subst, ⊎_elim, arith, length-set, get_or-set_other, get_or-set_same, zero-add}
use Rattle.std.proofs.lemmas.Bool.{cases_eq, cond-false, cond-true, eq-eqb, eqb-false, ne_eqb, or_parts}
use Rattle.std.proofs.lemmas.List.{length-map, length-replicate, length_push, map_push}
use Rattle.px_chain.specs.Clause.{has, variable_of}
use Rattle.px_trail.specs.declared.assignment.Known.{Known}
use Rattle.px_trail.specs.Assignment.{IsKept, StepsOver, last_level, step_in, steps_in}
use Rattle.px_trail.specs.Trail.{IsAssignment, Step, decisions_of, known_from, known_of, literals_of, next_level, reason_in, variables_of}
use Rattle.px_trail.proofs.Levels.{count_pop, count_push, few_decisions}
use Rattle.px_trail.proofs.Lookups.{IsAssignment-front, IsAssignment-none, IsAssignment-push, absent-known, few_steps, known-append, last_known, last_over, or_known, or_known-none}

pub literals_in : (table : List (Option Known)) (literals : List ℕ) → literals_of (steps_in table literals) ≡ literals
literals_in table [] = refl
literals_in table (l ∷ literals) = ap (λ ls. l ∷ ls) (literals_in table literals)

-- the reasons of other variables stay
steps_in-set : (table : List (Option Known)) (v : ℕ) (known : Option Known) (literals : List ℕ) → has (variables_of (steps_in table literals)) v ≡ false
    → steps_in (set table v known) literals ≡ steps_in table literals
steps_in-set table v known [] absent = refl
steps_in-set table v known (l ∷ literals) absent =
    let parts = or_parts (eqb (variable_of l) v) (has (variables_of (steps_in table literals)) v) absent in
    let here = get_or-set_other table v (variable_of l) known None (eqb-false (variable_of l) v parts.0) in
    ap₂ (λ (k : Option Known) (rest : List Step). let s : Step = record { literal = l; reason = reason_in k } in s ∷ rest) here (steps_in-set table v known literals parts.1)

-- what one step tells
known-one : (n : ℕ) (s : Step) (v : ℕ) → variable_of s.literal ≢ v → known_from n (s ∷ []) v ≡ None
known-one n s v ne = cond-false (eqb (variable_of s.literal) v) (Some (record { literal = s.literal; level = next_level n s.reason; reason = s.reason })) None (ne_eqb (variable_of s.literal) v ne)

known-itself : (n : ℕ) (s : Step) → known_from n (s ∷ []) (variable_of s.literal) ≡ Some (record { literal = s.literal; level = next_level n s.reason; reason = s.reason })
known-itself n s =
    cond-true (eqb (variable_of s.literal) (variable_of s.literal)) (Some (record { literal = s.literal; level = next_level n s.reason; reason = s.reason })) None
    (eq-eqb (variable_of s.literal) (variable_of s.literal) refl)

known-other : (steps : List Step) (s : Step) (v : ℕ) → variable_of s.literal ≢ v → known_of (steps ++ s ∷ []) v ≡ known_of steps v
known-other steps s v ne =
    known-append 0 steps (s ∷ []) v ∙ ap (or_known (known_of steps v)) (known-one (0 + length (decisions_of steps)) s v ne) ∙ or_known-none (known_of steps v)

known-last : (steps : List Step) (s : Step) → known_of steps (variable_of s.literal) ≡ None
    → known_of (steps ++ s ∷ []) (variable_of s.literal) ≡ Some (record { literal = s.literal; level = next_level (length (decisions_of steps)) s.reason; reason = s.reason })
known-last steps s none =
    known-append 0 steps (s ∷ []) (variable_of s.literal)
    ∙ ap (λ k. or_known k (known_from (0 + length (decisions_of steps)) (s ∷ []) (variable_of s.literal))) none
    ∙ ap (λ n. known_from n (s ∷ []) (variable_of s.literal)) (zero-add (length (decisions_of steps)))
    ∙ known-itself (length (decisions_of steps)) s

-- the steps with one literal more
pub steps_in-push : (table : List (Option Known)) (literals : List ℕ) (k : Known) → variable_of k.literal < length table → known_of (steps_in table literals) (variable_of k.literal) ≡ None
    → steps_in (set table (variable_of k.literal) (Some k)) (literals ++ k.literal ∷ []) ≡ steps_in table literals ++ record { literal = k.literal; reason = k.reason } ∷ []
steps_in-push table literals k lt none =
    let v = variable_of k.literal in
    let after = set table v (Some k) in
    let here : get_or after v None ≡ Some k = get_or-set_same table v (Some k) None lt in
    map_push (step_in after) literals k.literal
    ∙ ap₂ (λ (rest : List Step) (o : Option Known). let s : Step = record { literal = k.literal; reason = reason_in o } in rest ++ s ∷ [])
    (steps_in-set table v (Some k) literals (absent-known 0 (steps_in table literals) v none)) here

-- a table with what is known of one variable more
pub record IsKnown (table : List (Option Known)) (steps : List Step) : Type 0 where
  pub each : (v : ℕ) → get_or table v None ≡ known_of steps v

IsKnown-push : (table : List (Option Known)) (steps : List Step) (k : Known) → IsKnown table steps → variable_of k.literal < length table → known_of steps (variable_of k.literal) ≡ None
    → k.level ≡ next_level (length (decisions_of steps)) k.reason
    → IsKnown (set table (variable_of k.literal) (Some k)) (steps ++ record { literal = k.literal; reason = k.reason } ∷ [])
IsKnown-push table steps k is lt none next =
    let s : Step = record { literal = k.literal; reason = k.reason } in
    record {
      each = λ v.
          ⊎_elim
          (λ same. subst (λ w. get_or (set table (variable_of k.literal) (Some k)) w None ≡ known_of (steps ++ s ∷ []) w) same
          (get_or-set_same table (variable_of k.literal) (Some k) None lt
          ∙ ap (λ n. let j : Known = record { literal = k.literal; level = n; reason = k.reason } in Some j) next
          ∙ sym (known-last steps s none)))
          (λ ne. get_or-set_other table (variable_of k.literal) v (Some k) None (λ e. ne (sym e)) ∙ is.each v ∙ sym (known-other steps s v ne))
          (cases_eq (variable_of k.literal) v);
    }

IsKnown-pop : (vars : ℕ) (table : List (Option Known)) (front : List Step) (s : Step) → IsKnown table (front ++ s ∷ []) → IsAssignment vars (front ++ s ∷ [])
    → variable_of s.literal < length table → IsKnown (set table (variable_of s.literal) None) front
IsKnown-pop vars table front s is formed lt =
    record {
      each = λ v.
          ⊎_elim
          (λ same. subst (λ w. get_or (set table (variable_of s.literal) None) w None ≡ known_of front w) same
          (get_or-set_same table (variable_of s.literal) None None lt ∙ sym (last_known vars front s formed 0)))
          (λ ne. get_or-set_other table (variable_of s.literal) v None None (λ e. ne (sym e)) ∙ is.each v ∙ known-other front s v ne)
          (cases_eq (variable_of s.literal) v);
    }

-- one literal more
pub IsKept-push : (room : ℕ) (table : List (Option Known)) (literals : List ℕ) (decided : ℕ) (k : Known) → IsKept room table literals decided → variable_of k.literal < length table
    → known_of (steps_in table literals) (variable_of k.literal) ≡ None → k.level ≡ next_level decided k.reason
    → IsKept room (set table (variable_of k.literal) (Some k)) (literals ++ k.literal ∷ []) k.level
IsKept-push room table literals decided k is lt none next =
    let v = variable_of k.literal in
    let after = set table v (Some k) in
    let steps = steps_in table literals in
    let s : Step = record { literal = k.literal; reason = k.reason } in
    let e : steps_in after (literals ++ k.literal ∷ []) ≡ steps ++ s ∷ [] = steps_in-push table literals k lt none in
    let size : length after ≡ length table = length-set table v (Some k) in
    let level : k.level ≡ next_level (length (decisions_of steps)) k.reason = next ∙ ap (λ n. next_level n k.reason) is.count in
    let known = IsKnown-push table steps k (record { each = is.known }) lt none level in
    record {
      formed = subst (λ n. IsAssignment n (steps_in after (literals ++ k.literal ∷ []))) (sym size)
          (subst (IsAssignment (length table)) (sym e) (IsAssignment-push (length table) steps s is.formed lt none));
      known = λ w. known.each w ∙ ap (λ ss. known_of ss w) (sym e);
      count = level ∙ count_push steps s ∙ ap (λ ss. length (decisions_of ss)) (sym e);
      room_for_all = omega (arith, is.room_for_all);
      few = omega (arith, is.few);
    }

-- the steps without the last literal
pub steps_in-pop : (table : List (Option Known)) (front : List ℕ) (x : ℕ) → IsAssignment (length table) (steps_in table (front ++ x ∷ []))
    → steps_in table (front ++ x ∷ []) ≡ steps_in (set table (variable_of x) None) front ++ step_in table x ∷ []
steps_in-pop table front x formed =
    let e : steps_in table (front ++ x ∷ []) ≡ steps_in table front ++ step_in table x ∷ [] = map_push (step_in table) front x in
    let none = last_known (length table) (steps_in table front) (step_in table x) (subst (IsAssignment (length table)) e formed) 0 in
    e ∙ ap (λ rest. rest ++ step_in table x ∷ []) (sym (steps_in-set table (variable_of x) None front (absent-known 0 (steps_in table front) (variable_of x) none)))

pub pop_over : (table : List (Option Known)) (front : List ℕ) (x : ℕ) → IsAssignment (length table) (steps_in table (front ++ x ∷ [])) → variable_of x < length table
pop_over table front x formed =
    last_over (length table) (steps_in table front) (step_in table x) (subst (IsAssignment (length table)) (map_push (step_in table) front x) formed)

-- without the last literal
pub IsKept-pop : (room : ℕ) (table : List (Option Known)) (front : List ℕ) (x decided : ℕ) → IsKept room table (front ++ x ∷ []) decided
    → IsKept room (set table (variable_of x) None) front (last_level decided (reason_in (get_or table (variable_of x) None)))
IsKept-pop room table front x decided is =
    let v = variable_of x in
    let after = set table v None in
    let steps = steps_in after front in
    let s = step_in table x in
    let e : steps_in table (front ++ x ∷ []) ≡ steps ++ s ∷ [] = steps_in-pop table front x is.formed in
    let size : length after ≡ length table = length-set table v None in
    let lt : v < length table = pop_over table front x is.formed in
    let formed = subst (IsAssignment (length table)) e is.formed in
    let known = IsKnown-pop (length table) table steps s (record { each = λ w. is.known w ∙ ap (λ ss. known_of ss w) e }) formed lt in
    record {
      formed = subst (λ n. IsAssignment n steps) (sym size) (IsAssignment-front (length table) steps (s ∷ []) formed);
      known = known.each;
      count = count_pop steps s decided (is.count ∙ ap (λ ss. length (decisions_of ss)) e);
      room_for_all = omega (arith, is.room_for_all);
      few = omega (arith, is.few);
    }

-- there is room for one literal more
module _ (room : ℕ) (table : List (Option Known)) (literals : List ℕ) (decided x : ℕ) (is : IsKept room table literals decided) (lt : variable_of x < length table)
    (none : known_of (steps_in table literals) (variable_of x) ≡ None) where
  one_more : length literals + 1 ≤ length table
  one_more =
      let s : Step = record { literal = x; reason = None } in
      let few = few_steps (length table) (steps_in table literals ++ s ∷ []) (IsAssignment-push (length table) (steps_in table literals) s is.formed lt none) in
      omega (arith, length_push (steps_in table literals) s, length-map literals (step_in table), few)

  pub room_for_one : length literals < room
  room_for_one = omega (arith, one_more, is.room_for_all)

  pub level_for_one : decided + 1 < 2 ^ 32
  level_for_one = omega (arith, one_more, is.few, is.count, few_decisions (steps_in table literals), length-map literals (step_in table))

none_in : (n v : ℕ) → get_or {A = Option Known} (replicate n None) v None ≡ None
none_in zero v = refl
none_in (suc n) zero = refl
none_in (suc n) (suc v) = none_in n v

-- the table of the empty assignment
pub IsKept-none : (room n : ℕ) → n ≤ room → n < 2 ^ 32 → IsKept room (replicate n None) [] 0
IsKept-none room n le lt =
    let size : length {A = Option Known} (replicate n None) ≡ n = length-replicate n None in
    record {
      formed = IsAssignment-none (length {A = Option Known} (replicate n None));
      known = none_in n;
      count = refl;
      room_for_all = omega arith;
      few = omega arith;
    }

-- a literal that may come next, by what is seen of the table
pub record MayCome (table : List (Option Known)) (literals : List ℕ) (x : ℕ) : Type 0 where
  pub over : variable_of x < length table
  pub unassigned : known_of (steps_in table literals) (variable_of x) ≡ None

pub may_come : (a : StepsOver) (table : List (Option Known)) (literals : List ℕ) (x : ℕ) → record { vars = length table; steps = steps_in table literals } ≡ a
    → variable_of x < a.vars → known_of a.steps (variable_of x) ≡ None → MayCome table literals x
may_come a table literals x e over none = record {
  over = subst (λ (b : StepsOver). variable_of x < b.vars) (sym e) over;
  unassigned = subst (λ (b : StepsOver). known_of b.steps (variable_of x) ≡ None) (sym e) none;
}
