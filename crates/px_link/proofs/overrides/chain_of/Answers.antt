use Rattle.std.proofs.Common.{sym, ap, ◌∙◌}
use Rattle.px_meta.specs.Chains.{base_in}
use Rattle.px_link.proofs.Bases.{fewer_bases, walk_ended, walk_on}
use Rattle.px_link.proofs.overrides.chain_of.Goals as goal

pub loop-base-smaller : goal.loop-base-smaller
loop-base-smaller c = fewer_bases c.args.meta.now c.loop-base.at c.in-Some.base c.loop-base.invariant.faultless c.loop-base.invariant.walk.there (ap (λ v. base_in v c.loop-base.at) (sym c.tables-tables.ensures.same) ∙ sym c.in-Some.ensures.base)

pub loop-base-preserved : goal.loop-base-preserved
loop-base-preserved c = record {
  walk = walk_on c.args.meta.now c.args.row c.loop-base.chain.items c.push-in-Some.new.self.items c.loop-base.at c.in-Some.base c.loop-base.invariant.walk
      (ap (λ v. base_in v c.loop-base.at) (sym c.tables-tables.ensures.same) ∙ sym c.in-Some.ensures.base) c.in_ok-push-2.ensures.items;
  faultless = c.loop-base.invariant.faultless;
}

pub returns : goal.returns
returns c =
    walk_ended c.args.meta.now c.args.row c.loop-base.chain.items c.loop-base.at c.loop-base.invariant.walk (ap (λ v. base_in v c.loop-base.at) (sym c.tables-tables.ensures.same) ∙ sym c.in_default.ensures.base)
