use Rattle.px_chain.proofs.Closures.{HasGone}
use Rattle.px_chain.proofs.propagation.round.Given as goal

abbrev pub invariant-loop-number : goal.invariant-loop-number
invariant-loop-number l = HasGone l.premises.clauses l.initial.marks l.marks l.number l.changed
