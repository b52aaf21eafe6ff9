use Rattle.std.proofs.Common.{◌≡◌}
use Rattle.px_chain.proofs.Deriving.{HasCome}
use Rattle.px_chain.proofs.checker.derive.Given as goal

abbrev pub invariant-loop-variable : goal.invariant-loop-variable
invariant-loop-variable l =
    HasCome l.premises.clauses l.chain l.variable-items l.variable-index l.resolver.clause × (l.resolver.vars ≡ l.fn.resolver.vars)
