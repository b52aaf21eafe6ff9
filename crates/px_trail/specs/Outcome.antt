-- What propagation comes to.
use Rattle.px_chain.specs.Propagation.{IsConflict}
use Rattle.px_trail.specs.declared.outcome.Outcome.{Outcome}
use Rattle.px_trail.specs.declared.outcome.Outcome.TheVariants.{Quiet, Conflict}
use Rattle.px_trail.specs.Trail.{IsFalseClause, IsQuiet, View, decisions_of}

-- where a clause is false, what follows from the decisions is a conflict: so Quiet comes exactly where it is none
abbrev pub IsOutcome : View → Outcome → Type 0
IsOutcome v Quiet = IsQuiet v
IsOutcome v (Conflict number) = IsFalseClause v number × IsConflict v.clauses (decisions_of v.steps)
