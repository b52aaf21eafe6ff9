use Rattle.std.proofs.Common.{◌≡◌, drop}
use Rattle.px_verify_flow.specs.Leaving.{any_strays}
use Rattle.px_verify_flow.proofs.leaving.any_strays.Given as goal

abbrev pub invariant-loop-target : goal.invariant-loop-target
invariant-loop-target l = any_strays l.at (drop l.target-index l.targets) l.clauses ≡ any_strays l.at l.targets l.clauses
