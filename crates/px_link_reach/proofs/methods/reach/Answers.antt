use Rattle.std.proofs.Common.{refl, ◌∙◌, arith}
use Rattle.std.proofs.lemmas.Result.{err_from_is_err_and}
use Rattle.px_link_reach.specs.Met.{Blames}
use Rattle.px_link_reach.proofs.Firsts.{known_first}
use Rattle.px_link_reach.proofs.Keeping.{kept_first}
use Rattle.px_link_reach.proofs.Stepping.{blamed, handed_on, reached, under_way_first, under_way_next}
use Rattle.px_link_reach.proofs.Visiting.{called_met}
use Rattle.px_link_reach.proofs.methods.reach.Goals as goal

pub loop-number-init : goal.loop-number-init
loop-number-init c =
    let first = c.in_ok-found.ensures in
    under_way_first c.args.tokens.now c.args.image.now c.args.overriding.now.lists c.args.starts.now c.in_ok-found.found.rows.keys c.in_ok-found.found.virtual_targets.keys c.new-known.result
    first.rows first.targets (known_first c.args.tokens.now c.args.image.now c.new-known.result c.new-known.ensures.bodies c.new-known.ensures.firsts)
    (kept_first c.args.tokens.now c.args.overriding.now.lists c.args.starts.now c.in_ok-found.found.rows.keys c.in_ok-found.found.virtual_targets.keys c.requires.starts first.rows first.targets first.few)

pub visit-requires-clause-called : goal.visit-requires-clause-called
visit-requires-clause-called c =
    called_met c.args.tokens.now c.args.image.now c.args.overriding.now.lists c.args.starts.now c.loop-number.found.rows.keys c.loop-number.found.virtual_targets.keys c.loop-number.known c.loop-number.number c.loop-number.invariant

pub returns-in_err-visit-clause-fault : goal.returns-in_err-visit-clause-fault
returns-in_err-visit-clause-fault c =
    let exit = err_from_is_err_and c.from_residual-in_err-visit.result c.from_residual-in_err-visit.ensures.1 in
    let fault = c.in_err-visit.field-0.0 in
    handed_on (Blames c.args.tokens.now c.args.image.now c.args.overriding.now.lists c.args.starts.now) c.from_residual-in_err-visit.result exit.0 fault exit.1 exit.2
    (blamed c.args.tokens.now c.args.image.now c.args.overriding.now.lists c.args.starts.now c.loop-number.found.rows.keys c.loop-number.found.virtual_targets.keys c.loop-number.known c.loop-number.number fault
    c.loop-number.invariant c.in_err-visit.ensures.refused)

pub loop-number-preserved : goal.loop-number-preserved
loop-number-preserved c =
    let went = c.in_ok-visit.ensures in
    under_way_next c.args.tokens.now c.args.image.now c.args.overriding.now.lists c.args.starts.now c.loop-number.found.rows.keys c.visit.new.found.rows.keys c.loop-number.found.virtual_targets.keys c.visit.new.found.virtual_targets.keys
    c.loop-number.known c.visit.new.known c.loop-number.number c.loop-number.invariant went.visits went.kept went.known

pub returns-clause-reached : goal.returns-clause-reached
returns-clause-reached c =
    let len = c.len.ensures.len in
    let rows = c.in_ok-from_slice.ensures ∙ c.as_slice.ensures.keys in
    let targets = c.in_ok-from_slice-2.ensures ∙ c.as_slice-2.ensures.keys in
    reached c.args.tokens.now c.args.image.now c.args.overriding.now.lists c.args.starts.now c.loop-number.found.rows.keys c.loop-number.found.virtual_targets.keys c.loop-number.known c.loop-number.number _
    c.loop-number.invariant (omega (arith, len, c.loop-number-test.false)) rows refl targets
