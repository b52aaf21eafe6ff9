use Rattle.std.proofs.Common.{take}
use Rattle.px_chain.specs.Closure.{CountsOpen}
use Rattle.px_chain.proofs.propagation.open_in.Given as goal

abbrev pub invariant-loop-l : goal.invariant-loop-l
invariant-loop-l l = CountsOpen l.marks (take l.l-index l.clause) l.found
