use Rattle.std.proofs.Common.{◌<◌, length, arith}
use Rattle.std.proofs.lemmas.List.Elements.{All-from_recursion}
use Rattle.px_chain.proofs.Closures.{AreMarked-none, AreMarked-same, AreMarked-more}
use Rattle.px_chain.proofs.propagation.mark_each.Goals as goal

pub loop-l-init : goal.loop-l-init
loop-l-init c = AreMarked-none c.args.marks.now

pub loop-l-preserved-then-marks-at : goal.loop-l-preserved-then-marks-at
loop-l-preserved-then-marks-at c = AreMarked-same c.args.marks.now c.loop-l.marks c.args.literals.now c.loop-l.l-index c.loop-l.changed (omega arith) c.if-marks-at.true c.loop-l.invariant

pub loop-l-preserved : goal.loop-l-preserved
loop-l-preserved c =
    let first = All-from_recursion (λ l. l < length c.args.marks.now) c.args.literals.now c.requires c.loop-l.l-index 0 (omega arith) in
    AreMarked-more c.args.marks.now c.loop-l.marks c.args.literals.now c.loop-l.l-index c.loop-l.changed (omega arith) (omega arith) c.if-marks-at.false c.loop-l.invariant
