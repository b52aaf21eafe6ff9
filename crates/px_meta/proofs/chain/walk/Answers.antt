use Rattle.std.proofs.Common.{sym, subst}
use Rattle.px_meta.specs.Walks.{AreWalked, IsVerdict}
use Rattle.px_meta.proofs.Walking.{ended, ended_from, gone_on, met_again, over, over_from}
use Rattle.px_meta.proofs.chain.walk.Goals as goal

pub returns-in-Some-clause-verdict : goal.returns-in-Some-clause-verdict
returns-in-Some-clause-verdict c =
    let nexts = c.args.nexts.now in
    let ends = c.args.ends.now in
    let at = c.loop-met.at in
    subst (λ b. IsVerdict nexts c.args.from b) (sym c.outcome_of.ensures)
    (over_from nexts ends c.args.from at _ c.loop-met.met c.loop-met.invariant (met_again nexts ends c.args.from at c.in-Some.walk c.loop-met.met c.loop-met.invariant c.in-Some.is))

pub returns-in-Some-clause-walked : goal.returns-in-Some-clause-walked
returns-in-Some-clause-walked c =
    let nexts = c.args.nexts.now in
    let ends = c.args.ends.now in
    let at = c.loop-met.at in
    subst (λ b. AreWalked nexts ends b c.loop-met.met) (sym c.outcome_of.ensures)
    (over nexts ends c.args.from at _ c.loop-met.met c.loop-met.invariant (met_again nexts ends c.args.from at c.in-Some.walk c.loop-met.met c.loop-met.invariant c.in-Some.is))

pub loop-met-preserved : goal.loop-met-preserved
loop-met-preserved c = gone_on c.args.nexts.now c.args.ends.now c.args.from c.loop-met.at c.in-Some-nexts.next c.loop-met.met c.requires.nexts c.loop-met.invariant c.in-Some-nexts.is

pub returns-in-None-clause-verdict : goal.returns-in-None-clause-verdict
returns-in-None-clause-verdict c = ended_from c.args.nexts.now c.args.ends.now c.args.from c.loop-met.at c.loop-met.met c.loop-met.invariant c.in-None.is

pub returns-in-None-clause-walked : goal.returns-in-None-clause-walked
returns-in-None-clause-walked c = ended c.args.nexts.now c.args.ends.now c.args.from c.loop-met.at c.loop-met.met c.loop-met.invariant c.in-None.is
