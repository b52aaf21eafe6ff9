use Rattle.std.proofs.Common.{◌≡◌, drop}
use Rattle.std.specs.List.{list_any}
use Rattle.px_verify_flow.specs.Leaving.{leave_strays}
use Rattle.px_verify_flow.proofs.leaving.any_leave_strays.Given as goal

abbrev pub invariant-loop-clause : goal.invariant-loop-clause
invariant-loop-clause l = list_any (leave_strays l.at l.to) (drop l.clause-index l.clauses) ≡ list_any (leave_strays l.at l.to) l.clauses
