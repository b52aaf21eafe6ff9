use Rattle.std.proofs.Common.{sym, ◌∙◌}
use Rattle.px_link_reach.proofs.Chains.{fewer_owners}
use Rattle.px_link.proofs.Slots.{inside, walk_ended, walk_found, walk_on}
use Rattle.px_link.proofs.layout.overridden_among.Goals as goal

pub returns-in-Some-get_index_of : goal.returns-in-Some-get_index_of
returns-in-Some-get_index_of c =
    let rows = c.args.numbers.now.keys in
    let other = c.in-Some.other in
    walk_found c.args.meta.now rows c.args.row c.loop-other.at other c.in-Some-get_index_of.number c.loop-other.invariant c.in-Some.ensures.overridden (sym (inside rows other) ∙ sym c.in-Some-get_index_of.ensures.found) c.in-Some-get_index_of.ensures.index

pub loop-other-smaller : goal.loop-other-smaller
loop-other-smaller c = fewer_owners c.args.meta.now c.loop-other.at c.in-Some.other c.tables-tables.ensures.faultless c.in-Some.ensures.overridden

pub loop-other-preserved : goal.loop-other-preserved
loop-other-preserved c =
    let rows = c.args.numbers.now.keys in
    let other = c.in-Some.other in
    walk_on c.args.meta.now rows c.args.row c.loop-other.at other c.loop-other.invariant c.in-Some.ensures.overridden c.in-Some.ensures.there (sym (inside rows other) ∙ sym c.in_default-get_index_of.ensures.found)

pub returns : goal.returns
returns c = walk_ended c.args.meta.now c.args.numbers.now.keys c.args.row c.loop-other.at c.loop-other.invariant c.in_default.ensures.overridden
