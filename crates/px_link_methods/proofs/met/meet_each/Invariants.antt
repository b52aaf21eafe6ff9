use Rattle.std.proofs.Common.{◌≡◌, length}
use Rattle.px_link_methods.proofs.Passing.{AreMet}
use Rattle.px_link_methods.proofs.met.meet_each.Given as goal

-- the types that the methods so far meet have numbers
abbrev pub invariant-loop-row : goal.invariant-loop-row
invariant-loop-row l = record { tables : l.types.tables ≡ l.tokens; met : AreMet l.tokens l.rows l.bodies l.fn.types.keys (length l.yielded) l.types.keys l.passed }
