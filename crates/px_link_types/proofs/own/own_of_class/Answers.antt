use Rattle.std.proofs.Common.{◌++◌, map, false, true, sym, ap, ◌∙◌, subst}
use Rattle.std.specs.List.{AllByRecursion}
use Rattle.px_program.proofs.Types.{each-append}
use Rattle.px_meta.specs.Rows.{IsRow, fields}
use Rattle.px_link_types.specs.Keys.{IsKey}
use Rattle.px_link_types.specs.Numbers.{field_key}
use Rattle.px_link_types.proofs.Listed.{fields_are_rows}
use Rattle.px_link_types.proofs.There.{fields_there}
use Rattle.px_link_types.proofs.own.own_of_class.Goals as goal

pub push_fields-requires : goal.push_fields-requires
push_fields-requires c =
    let v = c.args.meta.now in
    subst (AllByRecursion (IsRow v fields)) (sym (c.deref.ensures.value ∙ c.in_ok-instances.ensures)) (fields_are_rows v c.args.row false)

pub push_fields-requires-2 : goal.push_fields-requires-2
push_fields-requires-2 c =
    let v = c.args.meta.now in
    subst (AllByRecursion (IsRow v fields)) (sym (c.deref-2.ensures.value ∙ c.in_ok-statics.ensures)) (fields_are_rows v c.args.row true)

pub returns-clause-there : goal.returns-clause-there
returns-clause-there c =
    let v = c.args.meta.now in
    let instances = map (field_key v) c.deref.result.now in
    let statics = map (field_key v) c.deref-2.result.now in
    let base = c.in_ok-keys.ensures in
    let are = c.in_ok-push_fields-2.ensures ∙ ap (λ l. l ++ statics) c.in_ok-push_fields.ensures in
    subst (AllByRecursion (IsKey v)) (sym are)
    (each-append (IsKey v) (c.in_ok-keys.keys.items ++ instances) statics (each-append (IsKey v) c.in_ok-keys.keys.items instances base.there (fields_there v c.deref.result.now)) (fields_there v c.deref-2.result.now))
