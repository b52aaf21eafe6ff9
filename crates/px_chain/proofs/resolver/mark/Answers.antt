use Rattle.std.proofs.Common.{◌<◌, length, get_or, arith}
use Rattle.std.proofs.lemmas.List.Elements.{All-from_recursion}
use Rattle.px_chain.specs.Marks.{marked}
use Rattle.px_chain.proofs.Marking.{joined_none, joined_more, joined_same, IsMarked-more}
use Rattle.px_chain.proofs.resolver.mark.Goals as goal

pub loop-l-init : goal.loop-l-init
loop-l-init c = (joined_none c.args.marks.now, λ vars is. is)

pub loop-l-preserved-then-marks-at : goal.loop-l-preserved-then-marks-at
loop-l-preserved-then-marks-at c =
    (joined_same (marked c.args.marks.now) c.args.clause.now c.loop-l.l-index c.loop-l.marks (omega arith) c.if-marks-at.true c.loop-l.invariant.0, c.loop-l.invariant.1)

pub returns-in_err-push-clause-listed : goal.returns-in_err-push-clause-listed
returns-in_err-push-clause-listed c = λ vars is. rw c.in_err-push.ensures.items (c.loop-l.invariant.1 vars is)

pub loop-l-preserved : goal.loop-l-preserved
loop-l-preserved c =
    let first = All-from_recursion (λ l. l < length c.args.marks.now) c.args.clause.now c.requires c.loop-l.l-index 0 (omega arith) in
    let below : get_or c.args.clause.now c.loop-l.l-index 0 < length c.loop-l.marks = omega arith in (
      joined_more (marked c.args.marks.now) c.args.clause.now c.loop-l.l-index c.loop-l.marks (omega arith) below c.loop-l.invariant.0,
      λ vars is. rw c.in_ok-push.ensures.items (IsMarked-more vars _ _ _ below (c.loop-l.invariant.1 vars is)),
    )
