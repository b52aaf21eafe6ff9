use Rattle.std.proofs.Common.{ℕ, take}
use Rattle.px_chain.specs.Marks.{IsMarked, Unmarks}
use Rattle.px_chain.proofs.resolver.unmark.Given as goal

abbrev pub invariant-loop-l : goal.invariant-loop-l
invariant-loop-l l =
    Unmarks l.initial.marks l.marks (take l.l-index l.literals) l.initial.out.items l.out.items
    × ((vars : ℕ) → IsMarked vars l.initial.marks l.literals → IsMarked vars l.marks l.literals)
