use Rattle.std.proofs.Common.{◌/◌, arith}
use Rattle.px_chain.proofs.Closures.{both_marked}
use Rattle.px_chain.proofs.Marking.{marked-within}
use Rattle.px_chain.proofs.propagation.has_both.Goals as goal

pub returns : goal.returns
returns c = (
  λ e. absurd (cc),
  λ w. let b = both_marked c.args.marks.now w.0 w.1 w.2 in let lt = marked-within c.args.marks.now w.0 w.1 in
      absurd (c.loop-variable.invariant (w.0 / 2) (omega arith) b.0 b.1),
)
