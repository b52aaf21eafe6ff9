use Rattle.std.proofs.Common.{◌+◌, ◌∙◌, Some, get_or, take, ap, sym, subst, arith}
use Rattle.px_trail.specs.Trail.{literals_of}
use Rattle.px_trail.proofs.Lookups.{truth-false, truth-none, truth-true}
use Rattle.px_trail.proofs.Scans.{Opens, Opens-again, Opens-false, Opens-first, settled-true, settled-two}
use Rattle.px_trail.proofs.propagation.scan.Goals as goal
use Rattle.px_trail.proofs.propagation.scan.Goals.{in-None-last, in-Some+else-other-l}

pub returns-in-Some-true : goal.returns-in-Some-true
returns-in-Some-true c =
    let l = get_or c.args.clause.now c.loop-l.l-index 0 in
    settled-true c.args.assignment.now.steps c.args.clause.now c.loop-l.l-index (omega arith) c.args.assignment.now.vars c.in-Some-true.ensures.formed
    (truth-true c.args.assignment.now.steps l (sym c.in-Some-true.ensures.truth ∙ ap Some c.in-Some-true.field-0-test))

pub loop-l-preserved-in-Some-false : goal.loop-l-preserved-in-Some-false
loop-l-preserved-in-Some-false c =
    let l = get_or c.args.clause.now c.loop-l.l-index 0 in
    Opens-false c.args.assignment.now.steps c.args.clause.now c.loop-l.l-index (omega arith) c.loop-l.last
    (truth-false c.args.assignment.now.steps l (sym c.in-Some-false.ensures.truth ∙ ap Some c.in-Some-false.field-0-test)) c.loop-l.invariant

pub returns-then-other-l : goal.returns-then-other-l
returns-then-other-l c =
    let l = get_or c.args.clause.now c.loop-l.l-index 0 in
    settled-two c.args.assignment.now.steps c.args.clause.now c.loop-l.l-index (omega arith) c.in-Some.other c.if-other-l.true
    (truth-none c.args.assignment.now.steps l (sym c.in-None.ensures.truth))
    (subst (Opens (literals_of c.args.assignment.now.steps) (take c.loop-l.l-index c.args.clause.now)) c.in-Some.is c.loop-l.invariant)

pub loop-l-preserved : goal.loop-l-preserved
loop-l-preserved c =
    let l = get_or c.args.clause.now c.loop-l.l-index 0 in
    let now = Opens (literals_of c.args.assignment.now.steps) (take c.loop-l.l-index c.args.clause.now) in
    let next = Opens (literals_of c.args.assignment.now.steps) (take (c.loop-l.l-index + 1) c.args.clause.now) in
    elim c.match-last.branch [
      | in-None-last w ↦ subst next (sym w.last-is)
          (Opens-first c.args.assignment.now.steps c.args.clause.now c.loop-l.l-index (omega arith)
          (truth-none c.args.assignment.now.steps l (sym c.in-None.ensures.truth)) (subst now w.in-None-last.is c.loop-l.invariant))
      | in-Some+else-other-l w ↦ subst next (sym w.last-is)
          (Opens-again c.args.assignment.now.steps c.args.clause.now c.loop-l.l-index (omega arith) w.in-Some.other w.if-other-l.false (subst now w.in-Some.is c.loop-l.invariant))
    ]
