use Rattle.std.proofs.Common.{◌≡◌, drop}
use Rattle.std.specs.List.{list_any}
use Rattle.px_verify_flow.specs.Leaving.{strays}
use Rattle.px_verify_flow.proofs.leaving.any_strays_to.Given as goal

abbrev pub invariant-loop-clause : goal.invariant-loop-clause
invariant-loop-clause l = list_any (strays l.at l.to) (drop l.clause-index l.clauses) ≡ list_any (strays l.at l.to) l.clauses
