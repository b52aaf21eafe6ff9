use Rattle.px_session.proofs.Adding.{Tried}
use Rattle.px_session.proofs.explore.records_of.Given as goal

-- what was found so far has the paths of the tuples so far
abbrev pub invariant-loop-number : goal.invariant-loop-number
invariant-loop-number l = Tried l.program l.domain l.bounds l.number l.records.items
