-- The entry of a log for a conflict.
use Rattle.std.proofs.Common.{◌≡◌, ℕ, ◌<◌, true, eqb, List, [], ◌∷◌, ◌++◌, ap, ap₂, sym, ◌∙◌, subst, ⊎_elim}
use Rattle.std.specs.List.{Contains}
use Rattle.std.proofs.lemmas.Bool.{both_ways, eq-eqb, or_left, or_right}
use Rattle.px_chain.specs.declared.chain.Chain.{Chain}
use Rattle.px_chain.specs.Clause.{complement, has, variable_of}
use Rattle.px_chain.specs.Propagation.{Both, Closed, Empty, IsConflict, IsFalse, IsGenuine, IsUnassigned as IsOpen}
use Rattle.px_chain.proofs.Closures.{Contains-has, has-Contains}
use Rattle.px_chain.proofs.Conflicts.{Closed-more}
use Rattle.px_chain.proofs.Members.{all_from_has, has_from_all}
use Rattle.px_trail.specs.Trail.{IsFalseClause, IsTrail, Step, View, decisions_of, literals_of, variables_of}
use Rattle.px_trail.proofs.Levels.{decisions-append}
use Rattle.px_trail.proofs.Lookups.{has-variable, never_both}
use Rattle.px_trail.proofs.Trails.{decisions-stand, false_clause-conflict, has_here, has_push, trail-closed}
use Rattle.px_sat.specs.Descent.{WasQuiet}
use Rattle.px_sat.proofs.Opening.{after_deep, before_not_deep, decided, literals_before}
use Rattle.px_sat.proofs.Steps.{in_second}
use Rattle.px_sat.proofs.Turns.{Learns}

conflict-more : (clauses : List (List ℕ)) (given more : List ℕ) → ((l : ℕ) → Contains given l → Contains more l) → IsConflict clauses given → IsConflict clauses more
conflict-more clauses given more keeps (Both l here other) = Both l (Closed-more clauses given more keeps here) (Closed-more clauses given more keeps other)
conflict-more clauses given more keeps (Empty there) = Empty there

module _ (v : View) (decisions : List ℕ) (last : ℕ) (was : WasQuiet v decisions last) (trail : IsTrail v) where
  decisions_are : decisions_of v.steps ≡ decisions ++ last ∷ []
  decisions_are =
      ap decisions_of was.steps ∙ decisions-append was.before (decided last ∷ was.after)
      ∙ ap₂ (λ (xs ys : List ℕ). xs ++ last ∷ ys) was.decided_before was.none_after

  are_given : (l : ℕ) → Contains (decisions_of v.steps) l → Contains (last ∷ decisions) l
  are_given l there =
      Contains-has (last ∷ decisions) l
      (⊎_elim
      (λ before. or_right (eqb last l) (has decisions l) before)
      (λ same. or_left (eqb last l) (has decisions l) (eq-eqb last l same))
      (has_push decisions last l (subst (λ ds. has ds l ≡ true) decisions_are (has-Contains (decisions_of v.steps) l there))))

  over : (l : ℕ) → has (literals_of v.steps) l ≡ true → variable_of l < v.vars
  over l h = has_from_all (λ w. w < v.vars) (variables_of v.steps) trail.assignment.over (variable_of l) (has-variable v.steps l h)

  last_stands : has (literals_of v.steps) last ≡ true
  last_stands = subst (λ (steps : List Step). has (literals_of steps) last ≡ true) (sym was.steps)
      (in_second was.before (decided last ∷ was.after) last (has_here last (literals_of was.after)))

  before : (l : ℕ) → Closed v.clauses decisions l → has (literals_of was.before) l ≡ true
  before l c = (was.quiet.closure l).1 (subst (λ ds. Closed v.clauses ds l) (sym was.decided_before) c)

  last_open : IsOpen v.clauses decisions last
  last_open = record {
    literal = λ c. both_ways _ (before_not_deep v decisions last was trail last (before last c)) (after_deep v decisions last was trail last (has_here last (literals_of was.after)));
    complement_too = λ c. never_both v.vars v.steps last trail.assignment last_stands (literals_before v decisions last was (complement last) (before (complement last) c));
  }

  pub genuine_by : (number : ℕ) → IsFalseClause v number → (chain : Chain) → Learns v decisions chain → IsGenuine v.vars v.clauses (record { decisions = decisions; last = last; chain = chain })
  genuine_by number conflict chain learns = record {
    decisions_over = all_from_has (λ l. variable_of l < v.vars) decisions (λ l h.
        over l (literals_before v decisions last was l (decisions-stand was.before l (subst (λ ds. has ds l ≡ true) (sym was.decided_before) h))));
    last_over = over last last_stands;
    claim_over = learns.over;
    quiet = λ c. was.quiet.no_conflict (subst (IsConflict v.clauses) (sym was.decided_before) c);
    last_open = last_open;
    clash = conflict-more v.clauses (decisions_of v.steps) (last ∷ decisions) are_given (false_clause-conflict v number trail conflict);
    learnt_false = all_from_has (IsFalse v.clauses (last ∷ decisions)) chain.claim (λ m h.
        Closed-more v.clauses (decisions_of v.steps) (last ∷ decisions) are_given (trail-closed v trail (complement m) (learns.all_false m h)));
    one_open = learns.one_open;
    derives = learns.derives;
  }
