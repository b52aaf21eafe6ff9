use Rattle.std.proofs.Common.{◌≡◌, drop}
use Rattle.std.specs.List.{list_any}
use Rattle.px_verify_flow.specs.Leaving.{is_around}
use Rattle.px_verify_flow.proofs.leaving.is_in_clause.Given as goal

abbrev pub invariant-loop-clause : goal.invariant-loop-clause
invariant-loop-clause l = list_any (is_around l.at) (drop l.clause-index l.clauses) ≡ list_any (is_around l.at) l.clauses
