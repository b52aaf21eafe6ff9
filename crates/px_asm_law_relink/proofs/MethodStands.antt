-- A method is read again: what it is, what it meets and what it calls.
use Rattle.std.proofs.Common.{◌≡◌, ℕ, Bool, true, false, [], ◌∷◌, ◌++◌, map, Some, refl, sym, ap, ◌∙◌, subst}
use Rattle.std.specs.Prelude.{not, slice_get}
use Rattle.std.specs.List.{AllZip, flat_map}
use Rattle.std.proofs.lemmas.List.{map-append}
use Rattle.std.proofs.lemmas.Option.{same_Some}
use Rattle.px_meta.specs.Chains.{Ends}
use Rattle.px_meta.specs.FullNames.{IsTypeName}
use Rattle.px_meta.specs.Members.{owner_of}
use Rattle.px_meta.specs.Rows.{methods}
use Rattle.px_link_methods.specs.Codes.{owner_number}
use Rattle.px_link_methods.specs.Methods.{IsMethod, IsMethodName, keys_of_body, keys_of_clause, keys_of_instr, keys_of_sig, met_by, sig_at}
use Rattle.px_link_methods.specs.Slots.{forms_of}
use Rattle.px_program.specs.declared.program.Method.{Method}
use Rattle.px_program.specs.declared.program.TypeInfo.{TypeInfo}
use Rattle.px_link_reach.specs.Met.{calls_at, calls_of, in_body, virtual_target_of, virtual_targets_at}
use Rattle.px_link_reach.specs.declared.body.Whole.{Whole}
use Rattle.px_sig.specs.declared.sig.MethodSig.{MethodSig}
use Rattle.px_link_types.specs.Keys.{alone, place_key}
use Rattle.px_link_types.specs.Numbers.{number_of}
use Rattle.px_link_types.specs.declared.key.Leaf.TheVariants.{Defined}
use Rattle.px_asm_law_relink.specs.Again.{Again, key_for, keys_for, method_for, methods_for, numbers_for, type_for}
use Rattle.px_asm_described.specs.Describes.{IsReturnOf, IsTypeOf, raw_clause}
use Rattle.px_asm_law_relink.proofs.MethodBodies.{HasBodyFor, all_called, all_met, all_named, all_run, body_for, numbered_parts}
use Rattle.px_asm_law_relink.proofs.MethodClauses.{AreClausesAgain, clauses_again}
use Rattle.px_asm_law_relink.proofs.MethodCodes.{AreCodesAgain, all_calls, all_virtual, codes_again}
use Rattle.px_asm_law_relink.proofs.MethodTypes.{AreTypesAgain, IsReturnAgain, return_again, sig_bars_nothing, types_again}
use Rattle.px_asm_law_relink.proofs.OverridingAgain.{lists_for}
use Rattle.px_asm_law_relink.proofs.Standing.{HasMethodFor, IsReachedRow, method_stands}
use Rattle.px_asm_law_relink.proofs.TypesAgain.{same_number, type_stands}

-- THE SIGNATURE

not_not : (b : Bool) → not (not b) ≡ b
not_not true = refl
not_not false = refl

-- what the two signatures have in common
pub record IsSigAgain (a : Again) (first sig : MethodSig) : Type 0 where
  pub this : sig.has_this ≡ first.has_this
  pub plain : sig.plain ≡ true
  pub params : AreTypesAgain a first.params sig.params
  pub ret : IsReturnAgain a first.ret sig.ret

pub sig_again : (a : Again) (row : ℕ) → IsReachedRow a row → (has : HasMethodFor a row) → IsSigAgain a has.is_method.sig has.is.sig
sig_again a row reached has =
    let first = has.is_method.sig in
    let sig = has.is.sig in
    let numbers = numbered_parts a row first has.whole has.is_method.has_sig (all_met a row reached has) in
    record {
      this = has.is.sig_is.has_this ∙ ap not has.is_method.is_static ∙ not_not first.has_this;
      plain = has.is.sig_is.plain;
      params = types_again a first.params sig.params numbers.params (subst (λ l. AllZip (IsTypeOf a.p) l sig.params) has.is_method.params has.is.sig_is.params);
      ret = return_again a first.ret sig.ret numbers.ret (subst (λ o. IsReturnOf a.p o sig.ret) has.is_method.ret has.is.sig_is.ret);
    }

-- THE METHOD

-- the owner's number
owner_again : (a : Again) (row : ℕ) → (has : HasMethodFor a row) → owner_number a.v (keys_for a a.reads.keys) (owner_of a.v methods (method_for a row)) ≡ owner_number a.first a.reads.keys (owner_of a.first methods row)
owner_again a row has =
    ap (λ owner. number_of (keys_for a a.reads.keys) (alone (Defined owner))) has.owner
    ∙ same_number a (alone (Defined (owner_of a.first methods row))) has.owner_met

-- the name of the owner
pub owner_name_again : (a : Again) (row : ℕ) → (has : HasMethodFor a row) → IsTypeName a.v (owner_of a.v methods (method_for a row)) has.is.name.owner.name
owner_name_again a row has =
    let owner = owner_of a.first methods row in
    let stands = type_stands a owner has.owner_met in
    let name = has.is.name in
    let at : ◌≡◌ (Some name.owner) (Some stands.info) = sym name.at ∙ ap (slice_get a.p.types) has.is_method.owner ∙ stands.at in
    let same : name.owner ≡ stands.info = same_Some name.owner stands.info at in
    subst (λ o. IsTypeName a.v o name.owner.name) (sym has.owner)
    (record { outers = []; chain = Ends (type_for a owner) stands.is.not_nested; is = ap (λ (t : TypeInfo). t.name) same ∙ sym stands.is.name })

name_again : (a : Again) (row : ℕ) → (has : HasMethodFor a row) → IsMethodName a.v (method_for a row) has.method.name
name_again a row has = record { type = has.is.name.owner.name; type_is = owner_name_again a row has; is = has.is.name.is }

-- THE BODY

-- the parts of a body
pub record IsBodyAgain (a : Again) (row : ℕ) (first whole : Whole) (method : Method) : Type 0 where
  pub locals : AreTypesAgain a first.locals whole.locals
  pub codes : AreCodesAgain a first.body.code whole.body.code method.code
  pub clauses : AreClausesAgain a first.body.clauses whole.body.clauses

pub body_again : (a : Again) (row : ℕ) → IsReachedRow a row → (has : HasMethodFor a row) → (body : HasBodyFor a row has.method) → IsBodyAgain a row has.whole body.whole has.method
body_again a row reached has body =
    let first = has.is_method in
    let numbers = numbered_parts a row first.sig has.whole first.has_sig (all_met a row reached has) in
    record {
      locals = types_again a has.whole.locals body.whole.locals numbers.locals (subst (λ l. AllZip (IsTypeOf a.p) l body.whole.locals) first.locals body.locals);
      codes = codes_again a (forms_of a.first first.sig has.whole.locals) has.whole.body.code body.whole.body.code has.method.code first.code (all_run a row has) numbers.code (all_called a row has) body.code;
      clauses = clauses_again a has.whole.body.clauses body.whole.body.clauses numbers.clauses
          (subst (λ l. AllZip (λ clause raw. raw ≡ raw_clause a.p clause) l body.whole.body.clauses) first.clauses body.clauses);
    }

is_again : (a : Again) (row : ℕ) → (has : HasMethodFor a row) → (body : HasBodyFor a row has.method) → IsSigAgain a has.is_method.sig has.is.sig → IsBodyAgain a row has.whole body.whole has.method
    → IsMethod a.v (numbers_for a) (method_for a row) body.whole has.method
is_again a row has body sig parts = record {
  sig = has.is.sig;
  has_sig = has.is.has_sig;
  name = name_again a row has;
  owner = has.is_method.owner ∙ sym (owner_again a row has);
  is_static = sym (ap not has.is.sig_is.has_this ∙ not_not has.method.is_static);
  params = has.is_method.params ∙ sym sig.params.places;
  ret = has.is_method.ret ∙ sym sig.ret.place;
  locals = has.is_method.locals ∙ sym parts.locals.places;
  max_stack = body.max_stack;
  code = parts.codes.are (forms_of a.v has.is.sig body.whole.locals) (sig_bars_nothing a has.is_method.sig.params has.whole.locals has.is_method.sig.ret has.is.sig body.whole.locals sig.params parts.locals sig.ret);
  clauses = has.is_method.clauses ∙ sym parts.clauses.are;
}

-- WHAT IT MEETS

sig_keys : (a : Again) (row : ℕ) → (has : HasMethodFor a row) → IsSigAgain a has.is_method.sig has.is.sig → keys_of_sig a.v (sig_at a.v (method_for a row)) ≡ keys_for a (keys_of_sig a.first (sig_at a.first row))
sig_keys a row has again =
    let first = has.is_method.sig in
    let sig = has.is.sig in
    ap (keys_of_sig a.v) has.is.has_sig
    ∙ ap (λ l. l ++ (place_key a.v sig.ret ∷ [])) again.params.keys
    ∙ ap (λ key. keys_for a (map (place_key a.first) first.params) ++ (key ∷ [])) again.ret.key
    ∙ sym (map-append (key_for a) (map (place_key a.first) first.params) (place_key a.first first.ret ∷ []))
    ∙ ap (λ s. keys_for a (keys_of_sig a.first s)) (sym has.is_method.has_sig)

body_keys : (a : Again) (row : ℕ) (first whole : Whole) (method : Method) → IsBodyAgain a row first whole method → keys_of_body a.v whole ≡ keys_for a (keys_of_body a.first first)
body_keys a row first whole method again =
    let locals = map (place_key a.first) first.locals in
    let instrs = flat_map (keys_of_instr a.first) first.body.code in
    let clauses = flat_map (keys_of_clause a.first) first.body.clauses in
    ap (λ l. l ++ (flat_map (keys_of_instr a.v) whole.body.code ++ flat_map (keys_of_clause a.v) whole.body.clauses)) again.locals.keys
    ∙ ap (λ l. keys_for a locals ++ (l ++ flat_map (keys_of_clause a.v) whole.body.clauses)) again.codes.keys
    ∙ ap (λ l. keys_for a locals ++ (keys_for a instrs ++ l)) again.clauses.keys
    ∙ ap (λ l. keys_for a locals ++ l) (sym (map-append (key_for a) instrs clauses))
    ∙ sym (map-append (key_for a) locals (instrs ++ clauses))

met_by_again : (a : Again) (row : ℕ) → (has : HasMethodFor a row) → (whole : Whole) → IsSigAgain a has.is_method.sig has.is.sig → IsBodyAgain a row has.whole whole has.method
    → met_by a.v (method_for a row, whole) ≡ keys_for a (met_by a.first (row, has.whole))
met_by_again a row has whole sig parts =
    let first_sig = keys_of_sig a.first (sig_at a.first row) in
    let first_body = keys_of_body a.first has.whole in
    ap (λ owner. alone (Defined owner) ∷ (keys_of_sig a.v (sig_at a.v (method_for a row)) ++ keys_of_body a.v whole)) has.owner
    ∙ ap (λ l. alone (Defined (type_for a (owner_of a.first methods row))) ∷ (l ++ keys_of_body a.v whole)) (sig_keys a row has sig)
    ∙ ap (λ l. alone (Defined (type_for a (owner_of a.first methods row))) ∷ (keys_for a first_sig ++ l)) (body_keys a row has.whole whole has.method parts)
    ∙ ap (λ l. alone (Defined (type_for a (owner_of a.first methods row))) ∷ l) (sym (map-append (key_for a) first_sig first_body))

-- ALL OF IT

-- a method that is reached, read again
pub record IsMethodAgain (a : Again) (row : ℕ) : Type 0 where
  pub has : HasMethodFor a row
  pub sig : IsSigAgain a has.is_method.sig has.is.sig
  pub body : HasBodyFor a row has.method
  pub is : IsMethod a.v (numbers_for a) (method_for a row) body.whole has.method
  pub met : met_by a.v (method_for a row, body.whole) ≡ keys_for a (met_by a.first (row, has.whole))
  pub calls : calls_at a.v a.image (lists_for a) (method_for a row) ≡ methods_for a (calls_at a.first a.from a.reads.lists row)
  pub virtual : virtual_targets_at a.v a.image (method_for a row) ≡ methods_for a (virtual_targets_at a.first a.from row)

pub method_again : (a : Again) (row : ℕ) → IsReachedRow a row → IsMethodAgain a row
method_again a row reached =
    let has = method_stands a row reached in
    let sig = sig_again a row reached has in
    let body = body_for a row has in
    let parts = body_again a row reached has body in
    record {
      has = has;
      sig = sig;
      body = body;
      is = is_again a row has body sig parts;
      met = met_by_again a row has body.whole sig parts;
      calls = ap (in_body (calls_of a.v (lists_for a))) body.body.read ∙ all_calls a has.whole.body.code body.whole.body.code parts.codes.calls (all_named a row reached has)
          ∙ ap (λ r. methods_for a (in_body (calls_of a.first a.reads.lists) r)) (sym has.body.read);
      virtual = ap (in_body (virtual_target_of a.v)) body.body.read ∙ all_virtual a has.whole.body.code body.whole.body.code parts.codes.calls
          ∙ ap (λ r. methods_for a (in_body (virtual_target_of a.first) r)) (sym has.body.read);
    }
