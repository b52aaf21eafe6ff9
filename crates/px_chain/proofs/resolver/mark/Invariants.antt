use Rattle.std.proofs.Common.{◌≡◌, ◌++◌, ℕ, take}
use Rattle.px_chain.specs.Clause.{clause_of}
use Rattle.px_chain.specs.Marks.{marked, IsMarked}
use Rattle.px_chain.proofs.resolver.mark.Given as goal

abbrev pub invariant-loop-l : goal.invariant-loop-l
invariant-loop-l l =
    (marked l.marks ≡ clause_of (marked l.initial.marks ++ take l.l-index l.clause))
    × ((vars : ℕ) → IsMarked vars l.initial.marks l.initial.touched.items → IsMarked vars l.marks l.touched.items)
