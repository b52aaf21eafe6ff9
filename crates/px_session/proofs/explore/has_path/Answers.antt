use Rattle.std.proofs.Common.{◌≡◌, arith, rules, sym, ◌∙◌, false}
use Rattle.std.specs.Prelude.{IsTrue}
use Rattle.std.proofs.lemmas.List.{take_more}
use Rattle.px_session.proofs.Adding.{has_at, still_none}
use Rattle.px_session.proofs.explore.has_path.Goals as goal

pub returns-then-is_same_path : goal.returns-then-is_same_path
returns-then-is_same_path c =
    ((λ h. has_at c.args.records.now c.loop-record.record-index c.record-item.result c.args.path.now (omega arith) c.record-item.is (sym c.as_slice.ensures ∙ c.if-is_same_path.ensures.same.0 (search rules))), (λ h. search rules))

pub loop-record-preserved : goal.loop-record-preserved
loop-record-preserved c =
    still_none c.args.records.now c.loop-record.record-index c.record-item.result c.args.path.now (grind (arith, take_more, c.record-item.is)) c.loop-record.invariant
    (λ e. let f : c.as_slice.result.now ≡ c.args.path.now = c.as_slice.ensures ∙ e in let g : IsTrue false = c.if-is_same_path.ensures.same.1 f in cc)
