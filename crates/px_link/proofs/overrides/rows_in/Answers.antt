use Rattle.std.proofs.Common.{◌≡◌, [], ◌∷◌, ◌++◌, get_or, ◌∙◌}
use Rattle.px_link.proofs.InOrder.{kept_with, kept_without}
use Rattle.px_link.proofs.overrides.rows_in.Goals.{then-contains+in_ok-push, else-contains}
use Rattle.px_link.proofs.overrides.rows_in.Goals as goal

pub loop-row-preserved : goal.loop-row-preserved
loop-row-preserved c =
    let rows = c.args.rows.now in
    let keys = c.args.set.now.keys in
    let kept = c.loop-row.kept.items in
    let i = c.loop-row.row-index in
    elim c.if-contains.branch [
      | then-contains+in_ok-push w ↦
          let pushed : c.if-contains.kept.items ≡ kept ++ get_or rows i 0 ∷ [] = cc (w.kept-is, w.in_ok-push.ensures.items) in
          pushed ∙ kept_with rows keys kept i c.contains.result c.loop-row.invariant c.loop-row-test.true c.contains.ensures w.if-contains.true
      | else-contains w ↦
          let same : c.if-contains.kept.items ≡ kept = cc (w.kept-is) in
          same ∙ kept_without rows keys kept i c.contains.result c.loop-row.invariant c.loop-row-test.true c.contains.ensures w.if-contains.false
    ]
