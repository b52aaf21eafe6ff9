-- What a look at a clause comes to, and a round over all clauses.
use Rattle.std.specs.Prelude.{◌≡◌, ℕ, ◌<◌, List, length, Option, Some, MatchOption, slice_get}
use Rattle.px_chain.specs.Clause.{Formula}
use Rattle.px_trail.specs.declared.outcome.Outcome.{Outcome}
use Rattle.px_trail.specs.declared.propagation.Found.{Found}
use Rattle.px_trail.specs.declared.propagation.Found.TheVariants as found
use Rattle.px_trail.specs.Assignment.{StepsOver}
use Rattle.px_trail.specs.Outcome.{IsOutcome}
use Rattle.px_trail.specs.Trail.{AllFalse, IsFalseClause, IsUnit, View, literals_of}

-- the trail of an assignment over clauses
abbrev pub trail_of : Formula → StepsOver → View
trail_of f a = record { vars = a.vars; clauses = f.clauses; steps = a.steps }

-- neither false nor unit
pub record IsSettled (literals clause : List ℕ) : Type 0 where
  pub not_false : AllFalse literals clause → ⊥
  pub not_unit : (l : ℕ) → IsUnit literals clause l → ⊥

-- whether all literals of a clause are false, or all but one that is unassigned
abbrev pub Shows : List ℕ → List ℕ → Found → Type 0
Shows literals clause found.False = AllFalse literals clause
Shows literals clause (found.Unit l) = IsUnit literals clause l
Shows literals clause found.Settled = IsSettled literals clause

-- the clause of a number is settled
abbrev pub SettledAt : View → ℕ → Type 0
SettledAt v number = (clause : List ℕ) → slice_get v.clauses number ≡ Some clause → IsSettled (literals_of v.steps) clause

-- a visit of the clause of a number: a literal that follows is assigned
abbrev pub Visits : View → View → ℕ → Found → Type 0
Visits old new number found.False = IsFalseClause new number
Visits old new number (found.Unit l) = length old.steps < length new.steps
Visits old new number found.Settled = (new.steps ≡ old.steps) × SettledAt new number

-- a round over all clauses: something was assigned, or that is what propagation comes to
abbrev pub Rounds : View → View → Option Outcome → Type 0
Rounds old new outcome = MatchOption outcome (length old.steps < length new.steps) (IsOutcome new)
