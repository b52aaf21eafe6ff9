use Rattle.std.proofs.Common.{take}
use Rattle.px_chain.proofs.Closures.{AreMarked}
use Rattle.px_chain.proofs.propagation.mark_each.Given as goal

abbrev pub invariant-loop-l : goal.invariant-loop-l
invariant-loop-l l = AreMarked l.initial.marks l.marks (take l.l-index l.literals) l.changed
