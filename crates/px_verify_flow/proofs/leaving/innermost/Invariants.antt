use Rattle.std.proofs.Common.{◌≡◌, drop}
use Rattle.px_verify_flow.specs.Leaving.{innermost}
use Rattle.px_verify_flow.proofs.leaving.innermost.Given as goal

abbrev pub invariant-loop-index : goal.invariant-loop-index
invariant-loop-index l = l.found ≡ innermost l.at (drop l.index l.clauses)
