use Rattle.std.proofs.Common.{◌≡◌, []}
use Rattle.px_chain.proofs.Refuting.{AreAccepted}
use Rattle.px_chain.proofs.checker.check.Given as goal

abbrev pub invariant-loop-step : goal.invariant-loop-step
invariant-loop-step l =
    AreAccepted l.cnf.clauses l.chains l.step l.premises.clauses × (l.resolver.vars ≡ l.premises.vars) × (l.resolver.clause ≡ [])
