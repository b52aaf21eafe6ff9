use Rattle.std.proofs.Common.{◌≡◌, drop}
use Rattle.px_unwind.specs.Clauses.{first_from, handler_in, meets}
use Rattle.px_unwind.proofs.clauses.handler_of.Given as goal

-- none of those before is the first
abbrev pub invariant-loop-number : goal.invariant-loop-number
invariant-loop-number l = first_from (meets l.program.types l.offset l.class) l.after l.number (drop l.number l.clauses) ≡ handler_in l.program l.fn.method l.offset l.after l.class
