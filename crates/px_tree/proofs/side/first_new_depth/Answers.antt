use Rattle.std.proofs.Common.{ap, sym, ◌∙◌, arith, nat_lt}
use Rattle.px_tree.proofs.Nodes.{earlier_more, passed_within}
use Rattle.px_tree.proofs.side.first_new_depth.Goals as goal

pub loop-earlier-preserved : goal.loop-earlier-preserved
loop-earlier-preserved c = record {
  within = omega (arith, passed_within c.path_at-path.result.now c.path_at.result.now);
  first = λ depth h.
      earlier_more c.args.records.now c.path_at-path.result.now c.path_at.result.now c.loop-earlier.earlier depth c.loop-earlier.first c.passed_nodes.result
      (omega arith) c.path_at.ensures c.passed_nodes.ensures h (c.loop-earlier.invariant.first depth h)
      ∙ ap (λ v. nat_lt depth v) (sym c.max-first.ensures);
}
