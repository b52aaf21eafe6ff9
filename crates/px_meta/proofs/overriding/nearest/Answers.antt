use Rattle.std.proofs.Common.{sym, ◌∙◌, subst, arith}
use Rattle.px_meta.specs.Overriding.{Derives}
use Rattle.px_meta.proofs.Nearest.{search_begun, search_derives, search_ended, search_found, search_more, search_over}
use Rattle.px_meta.proofs.Verdicts.{base_stays}
use Rattle.px_meta.proofs.overriding.nearest.Goals as goal

pub loop-turn-init : goal.loop-turn-init
loop-turn-init c = search_begun c.args.tables.now c.args.method c.args.owner c.requires.row c.requires.end

pub namesake-requires-clause-base : goal.namesake-requires-clause-base
namesake-requires-clause-base c = base_stays c.args.tables.now c.loop-turn.at c.in-Some.base (sym c.base_in.ensures.base ∙ c.in-Some.is)

pub namesake-requires-clause-owned : goal.namesake-requires-clause-owned
namesake-requires-clause-owned c = λ e. omega (arith, c.requires.row.some, c.requires.owner ∙ e)

pub namesake-requires-clause-derives : goal.namesake-requires-clause-derives
namesake-requires-clause-derives c =
    let v = c.args.tables.now in
    subst (λ n. Derives v n c.in-Some.base) c.requires.owner
    (search_derives v c.args.method c.args.owner c.loop-turn.turn c.loop-turn.at c.in-Some.base c.loop-turn.invariant (sym c.base_in.ensures.base ∙ c.in-Some.is))

pub returns-in_default : goal.returns-in_default
returns-in_default c = search_ended c.args.tables.now c.args.method c.args.owner c.loop-turn.turn c.loop-turn.at c.loop-turn.invariant (sym c.base_in.ensures.base ∙ c.in_default.is)

pub returns-in-Some-namesake : goal.returns-in-Some-namesake
returns-in-Some-namesake c =
    search_found c.args.tables.now c.args.method c.args.owner c.loop-turn.turn c.loop-turn.at c.in-Some.base c.in-Some-namesake.other c.loop-turn.invariant (sym c.base_in.ensures.base ∙ c.in-Some.is) c.in-Some-namesake.ensures

pub loop-turn-preserved : goal.loop-turn-preserved
loop-turn-preserved c =
    search_more c.args.tables.now c.args.method c.args.owner c.loop-turn.turn c.loop-turn.at c.in-Some.base c.loop-turn.invariant (sym c.base_in.ensures.base ∙ c.in-Some.is) c.in_default-namesake.ensures

pub returns : goal.returns
returns c = search_over c.args.tables.now c.args.method c.args.owner c.loop-turn.turn c.loop-turn.at c.loop-turn.invariant (omega arith)
