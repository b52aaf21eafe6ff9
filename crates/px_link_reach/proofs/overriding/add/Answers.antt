use Rattle.std.proofs.Common.{◌∙◌, ◌-◌, ◌<◌, ◌++◌, ◌∷◌, [], length, ap, arith}
use Rattle.std.proofs.lemmas.List.{get_or-set_other, get_or-set_same, get_or_default, length-set}
use Rattle.px_link_reach.proofs.Adding.{adding_ended, adding_more}
use Rattle.px_link_reach.proofs.Chains.{fewer_owners}
use Rattle.px_link_reach.proofs.overriding.add.Goals as goal

pub loop-method-smaller : goal.loop-method-smaller
loop-method-smaller c = fewer_owners c.args.parents.now c.loop-method.at c.in-Some.method c.of.ensures.faultless c.in-Some.ensures.overridden

pub loop-method-preserved : goal.loop-method-preserved
loop-method-preserved c =
    let lists = c.loop-method.lists in
    let method = c.in-Some.method in
    let there = c.in-Some.ensures.there in
    let within : method - 1 < length lists = omega (arith, there.some, there.few, c.loop-method.invariant.size) in
    let old = get_or_default lists (method - 1) c.index-lists-method.result [] within in
    adding_more c.args.parents.now c.args.row c.loop-method.at method c.args.lists.now lists _ c.of.ensures.faultless c.in-Some.ensures.overridden there c.loop-method.invariant
    (length-set lists (method - 1) c.push.new.self)
    (get_or-set_same lists (method - 1) c.push.new.self [] within ∙ c.in_ok-push.ensures.ok ∙ ap (λ l. l ++ c.args.row ∷ []) old)
    (λ other is apart. get_or-set_other lists (method - 1) (other - 1) c.push.new.self [] (λ e. apart (omega (arith, there.some, is.some))))

pub returns : goal.returns
returns c = adding_ended c.args.parents.now c.args.row c.loop-method.at c.args.lists.now c.loop-method.lists c.loop-method.invariant c.in_default.ensures.overridden
