use Rattle.std.proofs.Common.{◌≡◌}
use Rattle.px_code.specs.Body.{clauses_at}
use Rattle.px_code.proofs.Front.{with_clauses}
use Rattle.px_code.proofs.clause.clauses_at.Given as goal

-- the clauses so far, and those that are left, are all
abbrev pub invariant-loop-index : goal.invariant-loop-index
invariant-loop-index l = with_clauses l.clauses.items l.instrs l.is_fat l.bytes l.from l.index l.count ≡ clauses_at l.instrs l.is_fat l.bytes l.from l.count
