use Rattle.std.proofs.Common.{◌≡◌, ℕ, List, map, take}
use Rattle.std.specs.Borrow.{Bor}
use Rattle.px_gates.specs.Gate.{with_clauses}
use Rattle.px_gates.proofs.gates.Gates.add_all.Given as goal

abbrev pub invariant-loop-clause : goal.invariant-loop-clause
invariant-loop-clause l = l.self ≡ with_clauses l.fn.self (map (λ (clause : Bor (List ℕ)). clause.now) (take l.clause-index l.clauses))
