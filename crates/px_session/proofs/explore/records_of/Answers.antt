use Rattle.std.proofs.Common.{false}
use Rattle.std.specs.Prelude.{IsTrue}
use Rattle.px_session.proofs.Adding.{add_tried, of_tuple}
use Rattle.px_session.proofs.explore.records_of.Goals as goal

pub loop-number-preserved : goal.loop-number-preserved
loop-number-preserved c =
    rw c.in_ok-push.ensures.items
    (add_tried c.args.program.now c.args.domain.now c.args.bounds c.loop-number.number c.loop-number.records.items c.in_ok-tried.tried c.loop-number.invariant
    (of_tuple c.args.program.now c.args.domain.now c.args.bounds c.loop-number.number c.in_ok-tried.tried c.in_ok-words.words c.in_ok-tried.ensures.words c.in_ok-words.ensures.tuple c.in_ok-words.ensures.within c.in_ok-tried.ensures.is_run c.in_ok-tried.ensures.short)
    c.as_slice.result.now c.as_slice-in-loop-number.result.now c.as_slice.ensures.value c.as_slice-in-loop-number.ensures
    (λ h. let f : IsTrue false = c.if-has_path.ensures.1 h in cc))
