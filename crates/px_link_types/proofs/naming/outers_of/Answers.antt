use Rattle.std.proofs.Common.{sym, ◌∙◌}
use Rattle.px_link_types.proofs.Nesting.{fewer_outers, walk_begun, walk_ended, walk_on}
use Rattle.px_link_types.proofs.naming.outers_of.Goals as goal

pub loop-outer-init : goal.loop-outer-init
loop-outer-init c = record {
  walk = walk_begun c.args.meta.now c.args.row c.new-outers.result.items c.new-outers.ensures.items c.requires;
  faultless = c.tables-tables.ensures.faultless;
}

pub loop-outer-preserved : goal.loop-outer-preserved
loop-outer-preserved c = record {
  walk = walk_on c.args.meta.now c.args.row c.loop-outer.outers.items c.push.new.self.items c.loop-outer.at c.in-Some.outer c.loop-outer.invariant.walk (sym c.in-Some.ensures.outer) c.in_ok-push.ensures.items;
  faultless = c.loop-outer.invariant.faultless;
}

pub loop-outer-smaller : goal.loop-outer-smaller
loop-outer-smaller c = fewer_outers c.args.meta.now c.loop-outer.at c.in-Some.outer c.loop-outer.invariant.faultless c.loop-outer.invariant.walk.there (sym c.in-Some.ensures.outer)

pub returns-clause-chain : goal.returns-clause-chain
returns-clause-chain c =
    walk_ended c.args.meta.now c.args.row c.loop-outer.outers.items c.loop-outer.at c.loop-outer.invariant.walk (sym c.outer_of.ensures.outer ∙ c.in_default.is)

pub returns-clause-there : goal.returns-clause-there
returns-clause-there c = c.loop-outer.invariant.walk.met
