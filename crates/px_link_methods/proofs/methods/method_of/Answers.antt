use Rattle.std.proofs.Common.{◌≡◌, true, refl, sym, ap, ◌∙◌, subst, map}
use Rattle.std.specs.Prelude.{not}
use Rattle.std.specs.List.{AllZip, flat_map}
use Rattle.px_link_methods.proofs.Numbered.{HasNumbers, has_numbers, made}
use Rattle.px_link_types.specs.Keys.{place_key}
use Rattle.px_link_types.specs.Making.{AreNumberedIn}
use Rattle.px_link_types.specs.Numbers.{is_numbered}
use Rattle.px_sig.specs.declared.sig.MethodSig.{MethodSig}
use Rattle.px_link_methods.specs.Methods.{keys_of_clause, keys_of_instr, linked_clause, met_by, place_of_type, return_place}
use Rattle.px_link_methods.specs.Codes.{IsInstr, Numbering}
use Rattle.px_link_methods.specs.Slots.{forms_of}
use Rattle.px_link_methods.proofs.methods.method_of.Goals as goal
use Rattle.px_link_methods.proofs.methods.method_of.Goals.{After-method_at-method}

parts : (c : After-method_at-method) → HasNumbers c.meta-meta.result.now c.args.types.now.keys c.method_at-method.result.now c.args.whole.now
parts c =
    has_numbers c.meta-meta.result.now c.args.types.now.keys c.args.row c.method_at-method.result.now c.args.whole.now c.method_at-method.ensures
    (subst (λ v. AreNumberedIn c.args.types.now.keys (met_by v (c.args.row, c.args.whole.now))) (sym c.meta-meta.ensures) c.requires.types)

pub places_of-requires : goal.places_of-requires
places_of-requires c =
    subst (λ l. AreNumberedIn c.args.types.now.keys (map (place_key c.meta-meta.result.now) l)) (sym (c.as_slice.ensures ∙ ap (λ (s : MethodSig). s.params) c.get-sig.ensures)) (parts (goal.at.places_of-requires c).After-method_at-method).params

pub return_place-requires : goal.return_place-requires
return_place-requires c =
    subst (λ (s : MethodSig). is_numbered c.args.types.now.keys (place_key c.meta-meta.result.now s.ret) ≡ true) (sym c.get-sig.ensures) (parts (goal.at.return_place-requires c).After-method_at-method).ret

pub places_of-requires-2 : goal.places_of-requires-2
places_of-requires-2 c =
    subst (λ l. AreNumberedIn c.args.types.now.keys (map (place_key c.meta-meta.result.now) l)) (sym c.as_slice-locals.ensures) (parts (goal.at.places_of-requires-2 c).After-method_at-method).locals

pub instrs_of-requires-clause-types : goal.instrs_of-requires-clause-types
instrs_of-requires-clause-types c =
    subst (λ l. AreNumberedIn c.args.types.now.keys (flat_map (keys_of_instr c.args.tokens.now) l)) (sym c.as_slice-2.ensures)
    (subst (λ v. AreNumberedIn c.args.types.now.keys (flat_map (keys_of_instr v) c.args.whole.now.body.code)) c.meta-meta.ensures (parts (goal.at.instrs_of-requires-clause-types c).After-method_at-method).code)

pub clauses_of-requires : goal.clauses_of-requires
clauses_of-requires c =
    subst (λ l. AreNumberedIn c.args.types.now.keys (flat_map (keys_of_clause c.meta-meta.result.now) l)) (sym c.as_slice-3.ensures) (parts (goal.at.clauses_of-requires c).After-method_at-method).clauses

pub returns : goal.returns
returns c =
    let w = c.meta-meta.result.now in
    let keys = c.args.types.now.keys in
    let n : Numbering = record { keys = keys; rows = c.args.rows.now.keys } in
    let sig = c.method_at-method.result.now.sig in
    made w c.args.tokens.now c.meta-meta.ensures n c.args.row c.method_at-method.result.now c.args.whole.now _ c.method_at-method.ensures c.in_ok-method_name.ensures c.number_of_row.ensures (ap (λ (s : MethodSig). not s.has_this) c.get-sig.ensures)
    (c.in_ok-places_of.ensures ∙ ap (map (place_of_type w keys)) (c.as_slice.ensures ∙ ap (λ (s : MethodSig). s.params) c.get-sig.ensures)) (c.return_place.ensures ∙ ap (λ (s : MethodSig). return_place w keys s.ret) c.get-sig.ensures)
    (c.in_ok-places_of-2.ensures ∙ ap (map (place_of_type w keys)) c.as_slice-locals.ensures)
    refl
    (subst (λ l. AllZip (IsInstr c.args.tokens.now n (forms_of w sig l)) c.args.whole.now.body.code c.in_ok-instrs_of.field-0) c.as_slice-locals.ensures
    (subst (λ f. AllZip (IsInstr c.args.tokens.now n f) c.args.whole.now.body.code c.in_ok-instrs_of.field-0) (c.in_ok-forms.ensures ∙ ap (λ (s : MethodSig). forms_of w s c.as_slice-locals.result.now) c.get-sig.ensures)
    (subst (λ l. AllZip (IsInstr c.args.tokens.now n c.in_ok-forms.forms) l c.in_ok-instrs_of.field-0) c.as_slice-2.ensures c.in_ok-instrs_of.ensures)))
    (c.in_ok-clauses_of.ensures ∙ ap (map (linked_clause w keys)) c.as_slice-3.ensures)
