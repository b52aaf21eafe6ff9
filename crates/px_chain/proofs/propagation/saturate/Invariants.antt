use Rattle.std.proofs.Common.{List, ℕ}
use Rattle.px_chain.specs.Closure.{KeepsMarks, IsSound, unmarked}
use Rattle.px_chain.proofs.propagation.saturate.Given as goal

abbrev pub invariant-loop : goal.invariant-loop
invariant-loop l =
    KeepsMarks l.initial.marks l.marks × ((given : List ℕ) → IsSound l.premises.clauses given l.initial.marks → IsSound l.premises.clauses given l.marks)

abbrev pub decreases-loop : goal.decreases-loop
decreases-loop l = unmarked l.marks
