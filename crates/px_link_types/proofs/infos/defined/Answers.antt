use Rattle.std.proofs.Common.{◌≡◌, map, refl, sym, ap, subst, ◌∙◌}
use Rattle.std.specs.List.{AllByRecursion}
use Rattle.px_meta.specs.FullNames.{IsTypeName}
use Rattle.px_meta.specs.Rows.{IsRow, fields}
use Rattle.px_link_types.specs.Making.{AreNumberedIn}
use Rattle.px_link_types.specs.Numbers.{field_key, instance_fields, place_in, static_fields}
use Rattle.px_link_types.proofs.Places.{instances_there, owned, statics_there}
use Rattle.px_link_types.proofs.infos.defined.Goals as goal
use Rattle.px_link_types.proofs.infos.defined.Goals.{After-deref, After-deref-2}

instances_are : (c : After-deref) → c.deref.result.now ≡ instance_fields c.args.types.now.tables c.args.row
instances_are c = c.deref.ensures.value ∙ c.in_ok-fields.ensures ∙ ap (λ v. instance_fields v c.args.row) c.meta-meta.ensures

statics_are : (c : After-deref-2) → c.deref-2.result.now ≡ static_fields c.args.types.now.tables c.args.row
statics_are c = c.deref-2.ensures.value ∙ c.in_ok-statics.ensures ∙ ap (λ v. static_fields v c.args.row) c.meta-meta.ensures

pub places_of-requires-clause-rows : goal.places_of-requires-clause-rows
places_of-requires-clause-rows c =
    subst (λ rows. AllByRecursion (IsRow c.args.types.now.tables fields) rows) (sym (instances_are c)) (instances_there c.args.types.now.tables c.args.row)

pub places_of-requires-clause-numbered : goal.places_of-requires-clause-numbered
places_of-requires-clause-numbered c =
    let types = c.args.types.now in
    subst (λ rows. AreNumberedIn types.keys (map (field_key types.tables) rows)) (sym (instances_are c)) (owned types.tables types.keys c.args.row c.requires).instances

pub places_of-requires-2-clause-rows : goal.places_of-requires-2-clause-rows
places_of-requires-2-clause-rows c =
    subst (λ rows. AllByRecursion (IsRow c.args.types.now.tables fields) rows) (sym (statics_are c)) (statics_there c.args.types.now.tables c.args.row)

pub places_of-requires-2-clause-numbered : goal.places_of-requires-2-clause-numbered
places_of-requires-2-clause-numbered c =
    let types = c.args.types.now in
    subst (λ rows. AreNumberedIn types.keys (map (field_key types.tables) rows)) (sym (statics_are c)) (owned types.tables types.keys c.args.row c.requires).statics

pub returns : goal.returns
returns c =
    let types = c.args.types.now in
    let row = c.args.row in
    record {
      name = subst (IsTypeName types.tables row) (sym c.name.view_is) (subst (λ v. IsTypeName v row c.in_ok-name.name) c.meta-meta.ensures c.in_ok-name.ensures);
      base = c.base_number-base.ensures;
      element = refl;
      fields = c.in_ok-places_of.ensures ∙ ap (λ rows. map (λ f. place_in types.keys (field_key types.tables f)) rows) (instances_are (goal.at.returns c).After-deref);
      statics = c.in_ok-places_of-2.ensures ∙ ap (λ rows. map (λ f. place_in types.keys (field_key types.tables f)) rows) (statics_are (goal.at.returns c).After-deref-2);
      no_overrides = c.new.ensures;
    }
