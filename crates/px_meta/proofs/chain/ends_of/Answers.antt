use Rattle.std.proofs.Common.{ap, length, subst, sym, ◌∙◌, ◌+◌, arith}
use Rattle.std.proofs.lemmas.List.{length_push}
use Rattle.px_meta.specs.Walks.{AreVerdicts}
use Rattle.px_meta.proofs.Verdicts.{known_pushed, verdicts_more}
use Rattle.px_meta.proofs.chain.ends_of.Goals as goal

pub loop-n-preserved : goal.loop-n-preserved
loop-n-preserved c =
    let nexts = c.args.nexts.now in
    let ends = c.loop-n.ends.items in
    let outcome = c.walk-outcome.result in
    record {
      size = let l = length_push ends outcome in let e = ap length c.in_ok-push.ensures.items in omega (arith, c.loop-n.invariant.size);
      known = known_pushed nexts c.deref.result.now ends _ outcome c.walk-outcome.new.met c.loop-n.met.items c.loop-n.met.len c.deref.ensures.value c.in_ok-push.ensures.items
          (c.walk-outcome.auto.met ∙ ap length c.deref_mut.ensures.value) (omega arith) c.walk-outcome.ensures.walked;
      verdicts = subst (λ es. AreVerdicts nexts es (c.loop-n.n + 1)) (sym c.in_ok-push.ensures.items)
          (verdicts_more nexts ends outcome c.loop-n.n c.loop-n.invariant.size c.loop-n.invariant.verdicts c.walk-outcome.ensures.verdict);
    }
