use Rattle.std.proofs.Common.{sym, ◌∙◌, arith}
use Rattle.px_meta.proofs.Deriving.{climb_begun, climb_ended, climb_found, climb_more, climb_over}
use Rattle.px_meta.proofs.overriding.derives.Goals as goal

pub loop-turn-init : goal.loop-turn-init
loop-turn-init c = climb_begun c.args.tables.now c.args.from c.args.ancestor c.requires.row c.requires.end

pub returns-in-None : goal.returns-in-None
returns-in-None c = climb_ended c.args.tables.now c.args.from c.args.ancestor c.loop-turn.turn c.loop-turn.at c.loop-turn.invariant (sym c.base_in.ensures.base ∙ c.in-None.is)

pub returns-in-Some : goal.returns-in-Some
returns-in-Some c = climb_found c.args.tables.now c.args.from c.args.ancestor c.loop-turn.turn c.loop-turn.at c.in-Some.base c.loop-turn.invariant (sym c.base_in.ensures.base ∙ c.in-Some.is) c.if-base-ancestor.true

pub loop-turn-preserved : goal.loop-turn-preserved
loop-turn-preserved c = climb_more c.args.tables.now c.args.from c.args.ancestor c.loop-turn.turn c.loop-turn.at c.in-Some.base c.loop-turn.invariant (sym c.base_in.ensures.base ∙ c.in-Some.is) c.if-base-ancestor.false

pub returns : goal.returns
returns c = climb_over c.args.tables.now c.args.from c.args.ancestor c.loop-turn.turn c.loop-turn.at c.loop-turn.invariant (omega arith)
