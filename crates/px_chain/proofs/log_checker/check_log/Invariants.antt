use Rattle.std.proofs.Common.{◌≡◌, []}
use Rattle.px_chain.proofs.Logs.{AreGenuine}
use Rattle.px_chain.proofs.log_checker.check_log.Given as goal

abbrev pub invariant-loop-number : goal.invariant-loop-number
invariant-loop-number l = AreGenuine l.cnf l.entries l.number l.premises × (l.resolver.vars ≡ l.premises.vars) × (l.resolver.clause ≡ [])
