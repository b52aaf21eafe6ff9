use Rattle.std.proofs.Common.{◌≡◌, Some, get_or, refl, sym, ap, subst, ◌∙◌, take, length}
use Rattle.std.specs.Prelude.{slice_get}
use Rattle.std.specs.BTreeMap.{Updates, get}
use Rattle.std.specs.List.{flat_map}
use Rattle.std.specs.Option.{option_and_then}
use Rattle.std.specs.Ordering.{nat_cmp}
use Rattle.px_meta.specs.Rows.{cell, methods}
use Rattle.px_code.specs.Reading.{Fails}
use Rattle.px_link_reach.specs.Bodies.{whole_at}
use Rattle.px_link_reach.specs.Finding.{IsRefused}
use Rattle.px_link_reach.specs.Met.{IsBody, add_new, calls_of, virtual_target_of}
use Rattle.px_link_reach.proofs.Firsts.{known_within}
use Rattle.px_link_reach.proofs.Visiting.{few_bodies, knows_first, knows_shared, method_at, refused_at, visit_first, visit_shared}
use Rattle.px_link_reach.proofs.methods.visit.Goals as goal
use Rattle.px_link_reach.proofs.methods.visit.Goals.{After-address_of-address, In-Ok}

there : (c : After-address_of-address) → slice_get c.args.found.now.rows.keys c.args.number ≡ Some (get_or c.as_slice.result.now c.args.number 0)
there c = method_at c.args.found.now.rows.keys c.as_slice.result.now c.args.number 0 c.as_slice.ensures.keys c.requires.number

address : (c : After-address_of-address) → c.address_of-address.result ≡ cell c.args.tokens.now methods (get_or c.as_slice.result.now c.args.number 0) 0
address c = c.address_of-address.ensures ∙ ap (λ v. cell v methods (get_or c.as_slice.result.now c.args.number 0) 0) (c.tables.ensures.same ∙ c.meta.ensures)

pub share_at-requires : goal.share_at-requires
share_at-requires c = known_within c.args.tokens.now c.args.image.now (take c.args.number c.args.found.now.rows.keys) c.args.known.now c.requires.known

pub returns-in-Some-clause-visits : goal.returns-in-Some-clause-visits
returns-in-Some-clause-visits c =
    let before = (goal.at.returns-in-Some-clause-visits c).After-address_of-address in
    let known = c.args.known.now in
    visit_shared c.args.tokens.now c.args.image.now c.args.overriding.now.lists c.args.found.now.rows.keys c.args.found.now.virtual_targets.keys c.args.number _ known c.in-Some.whole (there before) c.requires.known c.requires.called
    (ap (λ at. option_and_then (slice_get known.bodies) (get nat_cmp known.firsts at)) (sym (address before)) ∙ sym c.in_ok-whole.ensures ∙ c.in-Some.is)

pub returns-in-Some-clause-known : goal.returns-in-Some-clause-known
returns-in-Some-clause-known c =
    let before = (goal.at.returns-in-Some-clause-known c).After-address_of-address in
    let known = c.args.known.now in
    knows_shared c.args.tokens.now c.args.image.now c.args.found.now.rows.keys c.args.number _ known _ c.in-Some.whole (there before) c.requires.known
    (ap (λ at. option_and_then (slice_get known.bodies) (get nat_cmp known.firsts at)) (sym (address before)) ∙ sym c.in_ok-whole.ensures ∙ c.in-Some.is) c.in_ok-push.ensures.ok refl

pub add_first-requires : goal.add_first-requires
add_first-requires c = record { few = few_bodies c.args.tokens.now c.args.image.now c.args.found.now.rows.keys c.args.number c.args.known.now c.requires.known c.requires.kept.few c.requires.number }

body : (c : In-Ok) → IsBody c.args.tokens.now c.args.image.now (get_or c.as_slice.result.now c.args.number 0) c.in-Ok.whole
body c =
    let read = c.in-Ok.ensures in
    subst (λ v. IsBody v c.args.image.now (get_or c.as_slice.result.now c.args.number 0) c.in-Ok.whole) (c.tables-2.ensures.same ∙ c.meta-2.ensures) (record { read = read.exact; formed = read.formed })

pub returns-in_ok-add_first-in-Ok-clause-visits : goal.returns-in_ok-add_first-in-Ok-clause-visits
returns-in_ok-add_first-in-Ok-clause-visits c =
    let before = (goal.at.returns-in_ok-add_first-in-Ok-clause-visits c).After-address_of-address in
    let read = (goal.at.returns-in_ok-add_first-in-Ok-clause-visits c).In-Ok in
    let v = c.args.tokens.now in
    let lists = c.args.overriding.now.lists in
    let added = c.in_ok-add_code-in-Ok.ensures in
    visit_first v c.args.image.now lists c.args.found.now.rows.keys c.args.found.now.virtual_targets.keys c.add_code.new.self.rows.keys c.add_code.new.self.virtual_targets.keys c.args.number _ c.in-Ok.whole (there before) (body read)
    (added.rows ∙ ap (λ code. add_new c.args.found.now.rows.keys (flat_map (calls_of v lists) code)) c.as_slice-in-Ok.ensures)
    (added.targets ∙ ap (λ code. add_new c.args.found.now.virtual_targets.keys (flat_map (virtual_target_of v) code)) c.as_slice-in-Ok.ensures)

pub returns-in_ok-add_first-in-Ok-clause-known : goal.returns-in_ok-add_first-in-Ok-clause-known
returns-in_ok-add_first-in-Ok-clause-known c =
    let before = (goal.at.returns-in_ok-add_first-in-Ok-clause-known c).After-address_of-address in
    let read = (goal.at.returns-in_ok-add_first-in-Ok-clause-known c).In-Ok in
    let v = c.args.tokens.now in
    let known = c.args.known.now in
    let added = c.in_ok-add_first-in-Ok.ensures in
    knows_first v c.args.image.now c.args.found.now.rows.keys c.add_code.new.self.rows.keys _ c.args.number _ known c.add_first.new.self c.in-Ok.whole (there before) c.in_ok-add_code-in-Ok.ensures.rows c.requires.known (body read)
    (ap (λ at. option_and_then (slice_get known.bodies) (get nat_cmp known.firsts at)) (sym (address before)) ∙ sym c.in_ok-whole.ensures ∙ c.in_default.is) added.bodies
    (subst (λ at. Updates nat_cmp known.firsts c.add_first.new.self.firsts at (Some (length known.bodies))) (address before) added.firsts)

pub returns-in-Err-clause-refused : goal.returns-in-Err-clause-refused
returns-in-Err-clause-refused c =
    let before = (goal.at.returns-in-Err-clause-refused c).After-address_of-address in
    let v = c.args.tokens.now in
    let fails = subst (λ x. Fails c.in-Err.fault (whole_at x c.args.image.now (get_or c.as_slice.result.now c.args.number 0))) (c.tables-2.ensures.same ∙ c.meta-2.ensures) c.in-Err.ensures.exact in
    subst (IsRefused v c.args.image.now c.args.found.now.rows.keys c.args.number) (sym c.refused_by.ensures) (refused_at v c.args.image.now c.args.found.now.rows.keys c.args.number _ c.in-Err.fault (there before) fails)
