use Rattle.std.proofs.Common.{◌≡◌, drop}
use Rattle.px_unwind.specs.Clauses.{exit_in, exits, first_from}
use Rattle.px_unwind.proofs.clauses.exits_of.Given as goal

-- none of those before is the first
abbrev pub invariant-loop-number : goal.invariant-loop-number
invariant-loop-number l = first_from (exits l.from l.to) l.after l.number (drop l.number l.clause-items) ≡ exit_in l.method l.from l.to l.after
