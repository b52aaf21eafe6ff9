use Rattle.std.proofs.Common.{◌≡◌, true, length, sym, ap, ◌∙◌, subst}
use Rattle.std.specs.Prelude.{◌==◌}
use Rattle.std.specs.List.{AllByRecursion, IsDistinct, flat_map}
use Rattle.px_meta.specs.Rows.{IsRow, is_in, methods}
use Rattle.px_link_methods.specs.Methods.{AreByAddress, met_by_all}
use Rattle.px_link_reach.specs.Met.{IsOwned, target_of}
use Rattle.px_link_reach.specs.declared.body.Whole.{Whole}
use Rattle.px_link_types.specs.Numbers.{Numbers, library_keys}
use Rattle.px_link.specs.Layout.{IsLayout}
use Rattle.px_link.specs.Overrides.{in_order}
use Rattle.px_link.specs.Parts.{HasTypes}
use Rattle.px_program.specs.Lines.{HasEnd, base_of}
use Rattle.px_link.proofs.LinkedTypes.{linked_types}
use Rattle.px_link.proofs.Linking.{linked_from, met_numbered}
use Rattle.px_link.proofs.Reached.{as_many, by_address, distinct, rows_in_order, targets_distinct, targets_in}
use Rattle.px_link.proofs.linked.program_with.Goals as goal
use Rattle.px_link.proofs.linked.program_with.Goals.{After-as_slice-bodies}

many : (c : After-as_slice-bodies) → length c.as_slice-bodies.result.now ≡ length c.as_slice-rows.result.now
many c =
    ap length c.as_slice-bodies.ensures ∙ as_many c.args.tokens.now c.requires.reached.image c.args.overriding.now.lists _ c.args.reached.now c.requires.reached.is ∙ ap length (sym c.as_slice-rows.ensures)

apart : (c : After-as_slice-bodies) → IsDistinct (λ row other. row == other) c.as_slice-rows.result.now
apart c =
    subst (λ rows. IsDistinct (λ row other. row == other) rows) (sym c.as_slice-rows.ensures) (distinct c.args.tokens.now c.requires.reached.image c.args.overriding.now.lists _ c.args.reached.now c.requires.reached.is)

numbers : (c : After-as_slice-bodies) → Numbers c.args.tokens.now library_keys (met_by_all c.args.tokens.now c.as_slice-rows.result.now c.as_slice-bodies.result.now) c.args.types.now.keys
numbers c =
    let v = c.args.tokens.now in
    let keys = c.args.types.now.keys in
    subst (λ rs. Numbers v library_keys (met_by_all v rs c.as_slice-bodies.result.now) keys) (sym c.as_slice-rows.ensures)
    (subst (λ bs. Numbers v library_keys (met_by_all v c.args.reached.now.rows bs) keys) (sym c.as_slice-bodies.ensures) c.requires.numbers)

pub in_order-requires : goal.in_order-requires
in_order-requires c =
    subst (λ targets. IsDistinct (λ row other. row == other) targets) (sym c.as_slice.ensures)
    (targets_distinct c.args.tokens.now c.requires.reached.image c.args.overriding.now.lists _ c.args.reached.now c.requires.reached.is)

pub types_of-requires-clause-targets : goal.types_of-requires-clause-targets
types_of-requires-clause-targets c =
    subst (λ v. AllByRecursion (IsRow v methods) c.deref.result.now) (sym c.meta.ensures)
    (subst (AllByRecursion (IsRow c.args.tokens.now methods)) (sym (c.deref.ensures.value ∙ c.in_ok-targets.ensures))
    (rows_in_order c.args.tokens.now c.as_slice-rows.result.now c.as_slice.result.now (subst (AllByRecursion (IsOwned c.args.tokens.now)) (sym c.as_slice-rows.ensures) c.requires.owned)))

pub types_of-requires-clause-distinct : goal.types_of-requires-clause-distinct
types_of-requires-clause-distinct c = apart (goal.at.types_of-requires-clause-distinct c).After-as_slice-bodies

pub methods_of-requires-clause-distinct : goal.methods_of-requires-clause-distinct
methods_of-requires-clause-distinct c = apart (goal.at.methods_of-requires-clause-distinct c).After-as_slice-bodies

pub methods_of-requires-clause-pairs : goal.methods_of-requires-clause-pairs
methods_of-requires-clause-pairs c = many (goal.at.methods_of-requires-clause-pairs c).After-as_slice-bodies

pub methods_of-requires-clause-shared : goal.methods_of-requires-clause-shared
methods_of-requires-clause-shared c =
    let v = c.args.tokens.now in
    subst (λ rows. AreByAddress v rows c.as_slice-bodies.result.now) (sym c.as_slice-rows.ensures)
    (subst (λ bodies. AreByAddress v c.args.reached.now.rows bodies) (sym c.as_slice-bodies.ensures) (by_address v c.requires.reached.image c.args.overriding.now.lists _ c.args.reached.now c.requires.reached.is))

pub methods_of-requires-clause-numbered : goal.methods_of-requires-clause-numbered
methods_of-requires-clause-numbered c = met_numbered c.args.tokens.now library_keys _ c.args.types.now.keys (numbers (goal.at.methods_of-requires-clause-numbered c).After-as_slice-bodies)

pub methods_of-requires-clause-targets : goal.methods_of-requires-clause-targets
methods_of-requires-clause-targets c =
    let given = targets_in c.args.tokens.now c.requires.reached.image c.args.overriding.now.lists _ c.args.reached.now c.requires.reached.is in
    let of_rows = subst (λ rows. AllByRecursion (λ (whole : Whole). AllByRecursion (λ row. is_in rows row ≡ true) (flat_map (target_of c.args.tokens.now) whole.body.code)) c.args.reached.now.bodies) (sym c.as_slice-rows.ensures) given in
    subst (λ bodies. AllByRecursion (λ (whole : Whole). AllByRecursion (λ row. is_in c.as_slice-rows.result.now row ≡ true) (flat_map (target_of c.args.tokens.now) whole.body.code)) bodies) (sym c.as_slice-bodies.ensures) of_rows

pub returns : goal.returns
returns c = λ image name is reached.
    let v = c.args.tokens.now in
    let met = numbers (goal.at.returns c).After-as_slice-bodies in
    let ordered = in_order c.as_slice-rows.result.now c.as_slice.result.now in
    let typed = subst (λ x. HasTypes x (record { keys = c.args.types.now.keys; rows = c.as_slice-rows.result.now }) c.args.overriding.now.lists c.deref.result.now c.in_ok-infos.infos.items) c.meta.ensures c.in_ok-infos.ensures in
    let typed_in_order =
    subst (λ ts. HasTypes v (record { keys = c.args.types.now.keys; rows = c.as_slice-rows.result.now }) c.args.overriding.now.lists ts c.in_ok-infos.infos.items) (c.deref.ensures.value ∙ c.in_ok-targets.ensures) typed in
    let laid = subst (λ x. IsLayout x (record { keys = c.args.types.now.keys; rows = c.as_slice-rows.result.now }) c.in_ok-layout.layout) c.meta-2.ensures c.in_ok-layout.ensures in
    linked_from v image name c.args.entry.now c.args.overriding.now.lists c.args.reached.now c.as_slice-rows.result.now c.as_slice-bodies.result.now c.as_slice.result.now c.args.types.now.keys c.in_ok-table.table c.in_ok-methods.methods c.maker_number.result c.in_ok-layout.layout
    c.as_slice-rows.ensures c.as_slice-bodies.ensures c.as_slice.ensures is c.requires.lists reached met
    (subst (λ ts. HasTypes v (record { keys = c.args.types.now.keys; rows = c.as_slice-rows.result.now }) c.args.overriding.now.lists ordered ts) (sym (c.in_ok-table.ensures ∙ c.from_vec.ensures)) typed_in_order)
    c.in_ok-methods.ensures
    c.maker_number.ensures laid c.requires.few c.requires.owned

pub new-requires : goal.new-requires
new-requires c =
    let typed = c.in_ok-infos.ensures in
    record {
      ends = λ type. subst (λ types. HasEnd (base_of types) type) (sym c.from_vec.ensures) ((linked_types c.meta.result.now (record { keys = c.args.types.now.keys; rows = c.as_slice-rows.result.now }) c.args.overriding.now.lists c.deref.result.now c.in_ok-infos.infos.items typed.linked typed.formed).bases type);
    }

pub layout_of-requires-clause-distinct : goal.layout_of-requires-clause-distinct
layout_of-requires-clause-distinct c = apart (goal.at.layout_of-requires-clause-distinct c).After-as_slice-bodies
