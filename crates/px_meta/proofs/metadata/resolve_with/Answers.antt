use Rattle.std.proofs.lemmas.Result.{err_from_is_err_and}
use Rattle.px_meta.specs.Members.{IsField, IsMethod}
use Rattle.px_meta.specs.Resolved.{IsReference, IsSpec}
use Rattle.px_meta.specs.Rows.{fields, member_refs, methods, type_defs, type_refs, type_specs}
use Rattle.px_meta.proofs.Blame.{all_clean, blamed, clean_fields, clean_methods, clean_references, clean_specs, clean_type_refs, clean_types, field_sound, method_sound, reference_sound, sound_rows, spec_sound}
use Rattle.px_meta.proofs.metadata.resolve_with.Goals as goal

pub returns-in_err-check_type_refs-clause-fault : goal.returns-in_err-check_type_refs-clause-fault
returns-in_err-check_type_refs-clause-fault c =
    let v = c.args.tables in
    let p = err_from_is_err_and c.from_residual.result c.from_residual.ensures.1 in
    rw (p.1, p.2) (blamed v type_refs c.in_err-check_type_refs.field-0.0 (clean_type_refs v) c.in_err-check_type_refs.ensures.fault)

pub returns-in_err-types-clause-fault : goal.returns-in_err-types-clause-fault
returns-in_err-types-clause-fault c =
    let v = c.args.tables in
    let p = err_from_is_err_and c.from_residual-in_err-types.result c.from_residual-in_err-types.ensures.1 in
    rw (p.1, p.2) (blamed v type_defs c.in_err-types.field-0.0 (clean_types v c.in_ok-check_type_refs.ensures.sound) c.in_err-types.ensures.fault)

pub returns-in_err-fields-clause-fault : goal.returns-in_err-fields-clause-fault
returns-in_err-fields-clause-fault c =
    let v = c.args.tables in
    let clean = clean_fields v (clean_types v c.in_ok-check_type_refs.ensures.sound) c.in_ok-types.ensures.sound in
    let p = err_from_is_err_and c.from_residual-in_err-fields.result c.from_residual-in_err-fields.ensures.1 in
    rw (p.1, p.2) (blamed v fields c.in_err-fields.field-0.0 clean c.in_err-fields.ensures.fault)

pub returns-in_err-methods-clause-fault : goal.returns-in_err-methods-clause-fault
returns-in_err-methods-clause-fault c =
    let v = c.args.tables in
    let clean = clean_methods v (clean_fields v (clean_types v c.in_ok-check_type_refs.ensures.sound) c.in_ok-types.ensures.sound)
    (sound_rows IsField v fields _ (λ row item is. field_sound v row item is) c.in_ok-fields.ensures.fields) in
    let p = err_from_is_err_and c.from_residual-in_err-methods.result c.from_residual-in_err-methods.ensures.1 in
    rw (p.1, p.2) (blamed v methods c.in_err-methods.field-0.0 clean c.in_err-methods.ensures.fault)

pub returns-in_err-references-clause-fault : goal.returns-in_err-references-clause-fault
returns-in_err-references-clause-fault c =
    let v = c.args.tables in
    let clean = clean_references v (clean_methods v (clean_fields v (clean_types v c.in_ok-check_type_refs.ensures.sound) c.in_ok-types.ensures.sound)
    (sound_rows IsField v fields _ (λ row item is. field_sound v row item is) c.in_ok-fields.ensures.fields))
    (sound_rows IsMethod v methods _ (λ row item is. method_sound v row item is) c.in_ok-methods.ensures.methods) in
    let p = err_from_is_err_and c.from_residual-in_err-references.result c.from_residual-in_err-references.ensures.1 in
    rw (p.1, p.2) (blamed v member_refs c.in_err-references.field-0.0 clean c.in_err-references.ensures.fault)

pub returns-in_err-specs-clause-fault : goal.returns-in_err-specs-clause-fault
returns-in_err-specs-clause-fault c =
    let v = c.args.tables in
    let clean = clean_specs v (clean_references v (clean_methods v (clean_fields v (clean_types v c.in_ok-check_type_refs.ensures.sound) c.in_ok-types.ensures.sound)
    (sound_rows IsField v fields _ (λ row item is. field_sound v row item is) c.in_ok-fields.ensures.fields))
    (sound_rows IsMethod v methods _ (λ row item is. method_sound v row item is) c.in_ok-methods.ensures.methods))
    (sound_rows IsReference v member_refs _ (λ row item is. reference_sound v row item is) c.in_ok-references.ensures.references) in
    let p = err_from_is_err_and c.from_residual-in_err-specs.result c.from_residual-in_err-specs.ensures.1 in
    rw (p.1, p.2) (blamed v type_specs c.in_err-specs.field-0.0 clean c.in_err-specs.ensures.fault)

pub returns-clause-faultless : goal.returns-clause-faultless
returns-clause-faultless c =
    let v = c.args.tables in
    let clean = clean_specs v (clean_references v (clean_methods v (clean_fields v (clean_types v c.in_ok-check_type_refs.ensures.sound) c.in_ok-types.ensures.sound)
    (sound_rows IsField v fields _ (λ row item is. field_sound v row item is) c.in_ok-fields.ensures.fields))
    (sound_rows IsMethod v methods _ (λ row item is. method_sound v row item is) c.in_ok-methods.ensures.methods))
    (sound_rows IsReference v member_refs _ (λ row item is. reference_sound v row item is) c.in_ok-references.ensures.references) in
    all_clean v clean (sound_rows IsSpec v type_specs _ (λ row item is. spec_sound v row item is) c.in_ok-specs.ensures.specs)

pub invariant_of-result : goal.invariant_of-result
invariant_of-result c = record {
  faultless = returns-clause-faultless c;
  ends = c.in_ok-types.ensures.ends;
  types = c.in_ok-types.ensures.types;
  methods = c.in_ok-methods.ensures.methods;
  fields = c.in_ok-fields.ensures.fields;
  references = c.in_ok-references.ensures.references;
  specs = c.in_ok-specs.ensures.specs;
  declared = c.in_ok-declared.ensures;
}
