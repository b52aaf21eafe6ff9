-- What a program says of its methods is one.
use Rattle.std.proofs.Common.{◌≡◌, ℕ, ◌%◌, ◌^◌, List, [], ◌∷◌, ◌++◌, codes, map, Option, Some, None, refl, sym, ap, ◌∙◌, subst}
use Rattle.std.specs.Prelude.{not, if◌then◌else◌}
use Rattle.std.specs.List.{AllZip, zip}
use Rattle.std.proofs.lemmas.Bool.{true≢false}
use Rattle.std.proofs.lemmas.Option.{same_Some}
use Rattle.px_code.specs.Body.{is_among, with_token}
use Rattle.px_code.specs.declared.body.RawInstr.{RawInstr}
use Rattle.px_meta.specs.Rows.{is_in}
use Rattle.px_link_methods.specs.Codes.{IsCode, IsInstr, IsOutside, IsTokenCode, Numbering}
use Rattle.px_link_methods.specs.Methods.{AreMethods, IsMethod, place_of_type, return_place}
use Rattle.px_link_methods.specs.Slots.{Forms, forms_of}
use Rattle.px_link_opcodes.specs.Opcodes.{plain_code}
use Rattle.px_link_reach.specs.Met.{operand_at}
use Rattle.px_link_reach.specs.declared.body.Whole.{Whole}
use Rattle.px_link_tokens.specs.Outside.{AreScopes, ComesBack, Ends, GoesOn, IsMemberName, IsNameBy, IsOutsideName, IsParentName, IsRefName, Member, member_at, nested_name}
use Rattle.px_link_tokens.specs.declared.member.Parent.{Parent}
use Rattle.px_link_tokens.specs.declared.member.Parent.TheVariants.{Defined, Referred}
use Rattle.px_link_tokens.specs.declared.operand.Operand.{Operand}
use Rattle.px_program.specs.declared.instr.Code.{Code}
use Rattle.px_program.specs.declared.instr.Code.TheVariants as code
use Rattle.px_program.specs.declared.instr.Instr.{Instr}
use Rattle.px_program.specs.declared.program.Method.{Method}
use Rattle.px_sig.specs.declared.sig.MethodSig.{MethodSig}
use Rattle.px_tables.specs.Metadata.{View}
use Rattle.px_link.proofs.OneLists.{same_beside}
use Rattle.px_link.proofs.OneName.{one_method_name, one_name}

-- NAMES OF WHAT ISN'T RUN

one_scopes : (v : View) (seen : List ℕ) (row : ℕ) (scopes others : List ℕ) → AreScopes v seen row scopes → AreScopes v seen row others → scopes ≡ others
one_scopes v seen row scopes others (Ends _ _ none) (Ends _ _ none') = refl
one_scopes v seen row scopes others (Ends _ _ none) (ComesBack _ _ scope on back) = absurd (cc)
one_scopes v seen row scopes others (Ends _ _ none) (GoesOn _ _ scope rest on new later) = absurd (cc)
one_scopes v seen row scopes others (ComesBack _ _ scope on back) (Ends _ _ none) = absurd (cc)
one_scopes v seen row scopes others (ComesBack _ _ scope on back) (ComesBack _ _ scope' on' back') = refl
one_scopes v seen row scopes others (ComesBack _ _ scope on back) (GoesOn _ _ scope' rest on' new later) =
    let same : scope ≡ scope' = cc in
    absurd (true≢false (sym back ∙ ap (is_in (row ∷ seen)) same ∙ new))
one_scopes v seen row scopes others (GoesOn _ _ scope rest on new later) (Ends _ _ none) = absurd (cc)
one_scopes v seen row scopes others (GoesOn _ _ scope rest on new later) (ComesBack _ _ scope' on' back) =
    let same : scope' ≡ scope = cc in
    absurd (true≢false (sym back ∙ ap (is_in (row ∷ seen)) same ∙ new))
one_scopes v seen row scopes others (GoesOn _ _ scope rest on new later) (GoesOn _ _ scope' rest' on' new' later') =
    let same : scope' ≡ scope = cc in
    let rests : rest ≡ rest' = one_scopes v (row ∷ seen) scope rest rest' later (subst (λ s. AreScopes v (row ∷ seen) s rest') same later') in
    cc

one_ref_name : (v : View) (row : ℕ) (name other : List ℕ) → IsRefName v row name → IsRefName v row other → name ≡ other
one_ref_name v row name other is also = is.is ∙ ap (nested_name v row) (one_scopes v [] row is.scopes also.scopes is.around also.around) ∙ sym also.is

one_parent_name : (v : View) (parent : Parent) (name other : List ℕ) → IsParentName v parent name → IsParentName v parent other → name ≡ other
one_parent_name v (Defined row) name other is also = one_name v row name other is also
one_parent_name v (Referred row) name other is also = one_ref_name v row name other is also

one_member_name : (v : View) (member : Member) (name other : List ℕ) → IsMemberName v member name → IsMemberName v member other → name ≡ other
one_member_name v member name other is also =
    is.is ∙ ap (λ type. type ++ codes "::" ++ member.name) (one_parent_name v member.parent is.type also.type is.type_is also.type_is) ∙ sym also.is

one_name_by : (v : View) (opcode : ℕ) (member : Option Member) (name other : List ℕ) → IsNameBy v opcode member name → IsNameBy v opcode member other → name ≡ other
one_name_by v opcode None name other is also = is ∙ sym also
one_name_by v opcode (Some member) name other is also = one_member_name v member name other is also

pub one_outside_name : (v : View) (opcode at : ℕ) (name other : List ℕ) → IsOutsideName v opcode at name → IsOutsideName v opcode at other → name ≡ other
one_outside_name v opcode at name other is also = one_name_by v opcode (if is_among with_token opcode then member_at v opcode at else None) name other is also

-- INSTRUCTIONS

one_outside : (v : View) (raw : RawInstr) (one other : Code) → IsOutside v raw one → IsOutside v raw other → one ≡ other
one_outside v raw one other is also =
    is.is ∙ ap (λ name. code.Outside name raw.opcode) (one_outside_name v raw.opcode (raw.operand % 2 ^ 32) is.name also.name is.name_is also.name_is) ∙ sym also.is

one_token_code : (v : View) (n : Numbering) (raw : RawInstr) (operand : Option Operand) (one other : Code) → IsTokenCode v n raw operand one → IsTokenCode v n raw operand other → one ≡ other
one_token_code v n raw None one other is also = one_outside v raw one other is also
one_token_code v n raw (Some operand) one other is also = is ∙ sym also

one_code : (v : View) (n : Numbering) (forms : Forms) (raw : RawInstr) (plain : Option Code) (one other : Code) → IsCode v n forms raw plain one → IsCode v n forms raw plain other → one ≡ other
one_code v n forms raw None one other is also = one_token_code v n raw (operand_at v raw) one other is also
one_code v n forms raw (Some plain) one other is also = is ∙ sym also

same_instr : (one other : Instr) → one.offset ≡ other.offset → one.next ≡ other.next → one.code ≡ other.code → one ≡ other
same_instr one other offset next code = λ i. record { offset = offset i; next = next i; code = code i }

pub one_instr : (v : View) (n : Numbering) (forms : Forms) (raw : RawInstr) (one other : Instr) → IsInstr v n forms raw one → IsInstr v n forms raw other → one ≡ other
one_instr v n forms raw one other is also =
    same_instr one other (is.offset ∙ sym also.offset) (is.next ∙ sym also.next) (one_code v n forms raw (plain_code raw) one.code other.code is.code also.code)

-- METHODS

same_method : (one other : Method) → one.name ≡ other.name → one.owner ≡ other.owner → one.is_static ≡ other.is_static → one.params ≡ other.params → one.ret ≡ other.ret → one.locals ≡ other.locals
    → one.max_stack ≡ other.max_stack → one.code ≡ other.code → one.clauses ≡ other.clauses → one ≡ other
same_method one other name owner is_static params ret locals max_stack code clauses = λ i. record {
  name = name i;
  owner = owner i;
  is_static = is_static i;
  params = params i;
  ret = ret i;
  locals = locals i;
  max_stack = max_stack i;
  code = code i;
  clauses = clauses i;
}

one_body_code : (v : View) (n : Numbering) (forms : Forms) (raws : List RawInstr) (code other : List Instr) → AllZip (IsInstr v n forms) raws code → AllZip (IsInstr v n forms) raws other → code ≡ other
one_body_code v n forms raws code other are also = same_beside (IsInstr v n forms) raws code other (one_instr v n forms) are also

pub one_linked_method : (v : View) (n : Numbering) (row : ℕ) (whole : Whole) (one other : Method) → IsMethod v n row whole one → IsMethod v n row whole other → one ≡ other
one_linked_method v n row whole one other is also =
    let sig : is.sig ≡ also.sig = same_Some is.sig also.sig (sym is.has_sig ∙ also.has_sig) in
    same_method one other
    (one_method_name v row one.name other.name is.name also.name)
    (is.owner ∙ sym also.owner)
    (is.is_static ∙ ap (λ (s : MethodSig). not s.has_this) sig ∙ sym also.is_static)
    (is.params ∙ ap (λ (s : MethodSig). map (place_of_type v n.keys) s.params) sig ∙ sym also.params)
    (is.ret ∙ ap (λ (s : MethodSig). return_place v n.keys s.ret) sig ∙ sym also.ret)
    (is.locals ∙ sym also.locals)
    (is.max_stack ∙ sym also.max_stack)
    (one_body_code v n (forms_of v is.sig whole.locals) whole.body.code one.code other.code is.code
    (subst (λ s. AllZip (IsInstr v n (forms_of v s whole.locals)) whole.body.code other.code) (sym sig) also.code))
    (is.clauses ∙ sym also.clauses)

pub one_linked_methods : (v : View) (n : Numbering) (bodies : List Whole) (some others : List Method) → AreMethods v n bodies some → AreMethods v n bodies others → some ≡ others
one_linked_methods v n bodies some others are also =
    same_beside (λ (pair : ℕ × Whole) (method : Method). IsMethod v n pair.0 pair.1 method) (zip n.rows bodies) some others (λ pair one other is is_too. one_linked_method v n pair.0 pair.1 one other is is_too) are also
