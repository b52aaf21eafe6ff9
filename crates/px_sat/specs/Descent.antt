-- Where a descent comes to.
use Rattle.std.specs.Prelude.{◌≡◌, ◌<◌, ℕ, List, [], ◌∷◌, ◌++◌, None, IsSome}
use Rattle.px_trail.specs.declared.outcome.Outcome.{Outcome}
use Rattle.px_trail.specs.declared.outcome.Outcome.TheVariants.{Quiet}
use Rattle.px_trail.specs.Outcome.{IsOutcome}
use Rattle.px_trail.specs.Trail.{IsQuiet, Step, View, decisions_of, value_of}

-- The last decision was made when nothing more followed from those before it.
pub record WasQuiet (v : View) (decisions : List ℕ) (last : ℕ) : Type 0 where
  pub before : List Step
  pub after : List Step
  pub steps : v.steps ≡ before ++ record { literal = last; reason = None } ∷ after
  pub decided_before : decisions_of before ≡ decisions
  pub none_after : decisions_of after ≡ []
  pub quiet : IsQuiet (record { vars = v.vars; clauses = v.clauses; steps = before })

-- a decision, what follows from it, and what the propagation told
pub record Decides (old : View) (x : ℕ) (new : View) (decisions : List ℕ) (outcome : Outcome) : Type 0 where
  pub after : List Step
  pub steps : new.steps ≡ old.steps ++ record { literal = x; reason = None } ∷ after
  pub none_after : decisions_of after ≡ []
  pub decisions_are : decisions ≡ decisions_of old.steps ++ x ∷ []
  pub tells : IsOutcome new outcome

-- every variable has a value
abbrev pub IsWhole : View → Type 0
IsWhole v = (variable : ℕ) → variable < v.vars → IsSome (value_of v.steps variable)

-- A descent comes to a whole assignment of which nothing more follows, or to a conflict after decisions of which the last was made when
-- nothing more followed from those before it.
pub record ComesTo (v : View) (decisions : List ℕ) (outcome : Outcome) : Type 0 where
  pub decisions_are : decisions ≡ decisions_of v.steps
  pub tells : IsOutcome v outcome
  pub whole : outcome ≡ Quiet → IsWhole v
  pub last : (front : List ℕ) (last : ℕ) → decisions ≡ front ++ last ∷ [] → WasQuiet v front last
