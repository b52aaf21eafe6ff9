use Rattle.std.proofs.Common.{◌≡◌, get_or, true, false, arith}
use Rattle.px_chain.proofs.Marking.{Unmarks-same, Unmarks-more, IsMarked-less, marked-within}
use Rattle.px_chain.proofs.resolver.unmark.Goals as goal

pub loop-l-preserved-then-not-marks-at : goal.loop-l-preserved-then-not-marks-at
loop-l-preserved-then-not-marks-at c =
    (Unmarks-same c.args.marks.now c.loop-l.marks c.args.literals.now c.loop-l.l-index c.args.out.now.items c.loop-l.out.items (omega arith) c.if-not-marks-at.true c.loop-l.invariant.0, c.loop-l.invariant.1)

pub loop-l-preserved : goal.loop-l-preserved
loop-l-preserved c =
    let mark : get_or c.loop-l.marks (get_or c.args.literals.now c.loop-l.l-index 0) false ≡ true = c.if-not-marks-at.false in (
      rw c.in_ok-push.ensures.items (Unmarks-more c.args.marks.now c.loop-l.marks c.args.literals.now c.loop-l.l-index c.args.out.now.items c.loop-l.out.items (omega arith) mark c.loop-l.invariant.0),
      λ vars is. IsMarked-less vars _ _ _ (marked-within _ _ mark) (c.loop-l.invariant.1 vars is),
    )
