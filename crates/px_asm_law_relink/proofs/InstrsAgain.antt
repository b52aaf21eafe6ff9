-- Instructions, read again.
use Rattle.std.proofs.Common.{◌≡◌, ℕ, ◌%◌, ◌^◌, ◌<◌, true, false, Option, Some, None, refl, sym, ap, ◌∙◌, subst, arith}
use Rattle.std.specs.Prelude.{◌==◌, ◌||◌, if◌then◌else◌}
use Rattle.std.specs.List.{AllByRecursion}
use Rattle.std.proofs.lemmas.Bool.{cond-false, cond_both}
use Rattle.px_code.specs.declared.body.RawInstr.{RawInstr}
use Rattle.px_meta.specs.Rows.{is_in}
use Rattle.px_link_methods.specs.Codes.{IsCode, IsInstr, IsTokenCode, code_with}
use Rattle.px_link_methods.specs.Methods.{keys_of_instr, keys_of_operand}
use Rattle.px_link_methods.specs.Slots.{Forms, is_barred}
use Rattle.px_link_opcodes.specs.Opcodes.{outside, plain_code}
use Rattle.px_link_tokens.specs.Operands.{element_at, operand_of, type_at}
use Rattle.px_link_tokens.specs.declared.operand.Operand.{Operand}
use Rattle.px_program.specs.declared.instr.Code.{Code}
use Rattle.px_program.specs.declared.instr.Code.TheVariants as codes
use Rattle.px_program.specs.declared.instr.Instr.{Instr}
use Rattle.px_link_reach.specs.Met.{method_in, operand_at, target_of}
use Rattle.px_asm_opcodes.specs.Recoding.{Does, HasToken, token_opcode}
use Rattle.px_tables.specs.Metadata.{View}
use Rattle.px_link_types.specs.Making.{AreNumberedIn}
use Rattle.px_link.proofs.LinkedOperands.{IsMet, type_type}
use Rattle.px_asm_law_relink.specs.Again.{Again, first_numbers, keys_for, methods_for, numbers_for}
use Rattle.px_asm_described.specs.Describes.{IsInstrOf, Names}
use Rattle.px_asm_law_relink.specs.Linked.{is_run}
use Rattle.px_asm_law_relink.proofs.InstrFields.{get_field_stands, get_static_stands, set_field_stands, set_static_stands}
use Rattle.px_asm_law_relink.proofs.InstrLibrary.{callee_called, callee_made, callee_virtual}
use Rattle.px_asm_law_relink.proofs.InstrOperands.{HasFor, StandsWith, at_code, at_codes, step}
use Rattle.px_asm_law_relink.proofs.InstrPlain.{plain_has_no_token, plain_names_nothing, plain_not_virtual}
use Rattle.px_asm_law_relink.proofs.InstrTypes.{array_stands, cast_stands, load_stands, store_stands, test_stands, token_stands}

-- no argument, local or return is of a form that isn't run
abbrev pub BarsNothing : Forms → Type 0
BarsNothing forms = (code : Code) → is_barred forms code ≡ false

-- the instruction of the other assembly does the same, and meets and calls what stands for the same
pub record IsInstrAgain (a : Again) (first raw : RawInstr) (instr : Instr) : Type 0 where
  pub is : (forms : Forms) → BarsNothing forms → IsInstr a.v (numbers_for a) forms raw instr
  pub keys : keys_of_instr a.v raw ≡ keys_for a (keys_of_instr a.first first)
  pub targets : target_of a.v raw ≡ methods_for a (target_of a.first first)
  pub virtual : (raw.opcode == 0x6F) ≡ (first.opcode == 0x6F)

-- WITHOUT A TOKEN

-- what an instruction without a token comes to, where it is run, is what its opcode says
plain_run : (forms : Forms) (opcode : ℕ) (plain code : Code) → is_run code ≡ true → code ≡ (if is_barred forms plain then outside opcode else plain) → code ≡ plain
plain_run forms opcode plain code runs =
    cond_both (is_barred forms plain) (outside opcode) plain (λ c. code ≡ c → code ≡ plain) (λ barred is. absurd (let outside_run : is_run (outside opcode) ≡ true = ap is_run (sym is) ∙ runs in cc)) (λ free is. is)

none_met : (a : Again) (first raw : RawInstr) → operand_at a.first first ≡ None → operand_at a.v raw ≡ None → keys_of_instr a.v raw ≡ keys_for a (keys_of_instr a.first first)
none_met a first raw none also = ap (keys_of_operand a.v) also ∙ ap (λ o. keys_for a (keys_of_operand a.first o)) (sym none)

none_called : (a : Again) (first raw : RawInstr) → operand_at a.first first ≡ None → operand_at a.v raw ≡ None → target_of a.v raw ≡ methods_for a (target_of a.first first)
none_called a first raw none also = ap method_in also ∙ ap (λ o. methods_for a (method_in o)) (sym none)

plain_again : (a : Again) (first raw : RawInstr) (instr : Instr) (plain : Code) → plain_code first ≡ Some plain → instr.code ≡ plain → IsInstrOf a.p a.v instr raw → IsInstrAgain a first raw instr
plain_again a first raw instr plain plain_is code_is describes =
    let no_token : token_opcode instr.code ≡ None = ap token_opcode code_is ∙ plain_has_no_token first plain plain_is in
    let does : plain_code raw ≡ Some instr.code = subst (λ o. Does o instr.code describes.token raw) no_token describes.is.does in
    let none = plain_names_nothing a.first first (first.operand % 2 ^ 32) plain plain_is in
    let also = plain_names_nothing a.v raw (raw.operand % 2 ^ 32) instr.code does in
    record {
      is = λ forms nothing. record {
        offset = sym describes.is.placed.offset;
        next = sym describes.is.placed.next;
        code = subst (λ o. IsCode a.v (numbers_for a) forms raw o instr.code) (sym does) (sym (cond-false (is_barred forms instr.code) (outside raw.opcode) instr.code (nothing instr.code)));
      };
      keys = none_met a first raw none also;
      targets = none_called a first raw none also;
      virtual = plain_not_virtual raw instr.code does ∙ sym (plain_not_virtual first plain plain_is);
    }

-- WITH A TOKEN

operand_stands : (a : Again) (opcode at : ℕ) → StandsWith a opcode (operand_of a.first opcode at)
unfolding operand_of
operand_stands a opcode at =
    let v = a.first in
    step a opcode (opcode == 0x72) _ _ (at_code a opcode 0x72 _ (token_stands a at))
    (step a opcode (opcode == 0x8D) _ _ (at_code a opcode 0x8D _ (array_stands a (element_at v at)))
    (step a opcode ((opcode == 0xA3) || (opcode == 0xA4)) _ _ (at_codes a opcode 0xA3 0xA4 _ (load_stands a (element_at v at)) (store_stands a (element_at v at)))
    (step a opcode ((opcode == 0x74) || (opcode == 0x75)) _ _ (at_codes a opcode 0x74 0x75 _ (cast_stands a (type_at v at) (type_type v at)) (test_stands a (type_at v at) (type_type v at)))
    (step a opcode ((opcode == 0x7B) || (opcode == 0x7D)) _ _ (at_codes a opcode 0x7B 0x7D _ (get_field_stands a at) (set_field_stands a at))
    (step a opcode ((opcode == 0x7E) || (opcode == 0x80)) _ _ (at_codes a opcode 0x7E 0x80 _ (get_static_stands a at) (set_static_stands a at))
    (step a opcode (opcode == 0x28) _ _ (at_code a opcode 0x28 _ (callee_called a at))
    (step a opcode (opcode == 0x6F) _ _ (at_code a opcode 0x6F _ (callee_virtual a at))
    (step a opcode (opcode == 0x73) _ _ (at_code a opcode 0x73 _ (callee_made a at)) tt))))))))

-- an instruction that names something has a token
named_not_plain : (v : View) (raw : RawInstr) (o : Operand) → operand_at v raw ≡ Some o → plain_code raw ≡ None
named_not_plain v raw o named = by_code (plain_code raw) refl
  where
    by_code : (c : Option Code) → plain_code raw ≡ c → c ≡ None
    by_code None e = refl
    by_code (Some c) e = absurd (let none = plain_names_nothing v raw (raw.operand % 2 ^ 32) c e in cc)

-- the operand of the instruction, by its opcode and token
operand_is : (a : Again) (opcode token : ℕ) (raw : RawInstr) (o : Operand) → token < 2 ^ 32 → HasToken opcode token raw → operand_of a.v opcode token ≡ Some o → operand_at a.v raw ≡ Some o
operand_is a opcode token raw o fits has named =
    let whole : raw.operand % 2 ^ 32 ≡ token = ap (λ n. n % 2 ^ 32) has.token_is ∙ omega (arith, fits) in
    ap (λ k. operand_of a.v k (raw.operand % 2 ^ 32)) has.opcode_is ∙ ap (operand_of a.v opcode) whole ∙ named

named_again : (a : Again) (first raw : RawInstr) (instr : Instr) (o : Operand) → operand_at a.first first ≡ Some o → instr.code ≡ code_with a.first (first_numbers a) first.opcode o → HasFor a first.opcode o
    → IsInstrOf a.p a.v instr raw → IsInstrAgain a first raw instr
named_again a first raw instr o named code_is has describes =
    let token = describes.token in
    let opcode_is : token_opcode instr.code ≡ Some first.opcode = ap token_opcode code_is ∙ has.opcode_is in
    let does : HasToken first.opcode token raw = subst (λ k. Does k instr.code token raw) opcode_is describes.is.does in
    let h = has.named token (subst (λ c. Names a.p a.v c token) code_is describes.names) in
    let at = operand_is a first.opcode token raw h.other describes.fits does h.at in
    let made : instr.code ≡ code_with a.v (numbers_for a) raw.opcode h.other = code_is ∙ sym h.code ∙ ap (λ k. code_with a.v (numbers_for a) k h.other) (sym does.opcode_is) in
    record {
      is = λ forms nothing. record {
        offset = sym describes.is.placed.offset;
        next = sym describes.is.placed.next;
        code = subst (λ c. IsCode a.v (numbers_for a) forms raw c instr.code) (sym (named_not_plain a.v raw h.other at)) (subst (λ x. IsTokenCode a.v (numbers_for a) raw x instr.code) (sym at) made);
      };
      keys = ap (keys_of_operand a.v) at ∙ h.keys ∙ ap (λ x. keys_for a (keys_of_operand a.first x)) (sym named);
      targets = ap method_in at ∙ h.targets ∙ ap (λ x. methods_for a (method_in x)) (sym named);
      virtual = ap (λ k. k == 0x6F) does.opcode_is;
    }

-- ALL

by_operand : (a : Again) (first raw : RawInstr) (instr : Instr) (o : Option Operand) → operand_at a.first first ≡ o → IsTokenCode a.first (first_numbers a) first o instr.code → is_run instr.code ≡ true
    → AreNumberedIn a.reads.keys (keys_of_instr a.first first) → AllByRecursion (λ row. is_in a.reads.reached.rows row ≡ true) (target_of a.first first) → IsInstrOf a.p a.v instr raw → IsInstrAgain a first raw instr
by_operand a first raw instr None e code runs numbered among describes = absurd (let outside_run : is_run (codes.Outside code.name first.opcode) ≡ true = ap is_run (sym code.is) ∙ runs in cc)
by_operand a first raw instr (Some o) e code runs numbered among describes =
    let met : IsMet a.first (first_numbers a) o = record { keys = subst (λ x. AreNumberedIn a.reads.keys (keys_of_operand a.first x)) e numbered; methods = subst (λ x. AllByRecursion (λ row. is_in a.reads.reached.rows row ≡ true) (method_in x)) e among } in
    named_again a first raw instr o e code (subst (StandsWith a first.opcode) e (operand_stands a first.opcode (first.operand % 2 ^ 32)) met) describes

by_plain : (a : Again) (forms : Forms) (first raw : RawInstr) (instr : Instr) (plain : Option Code) → plain_code first ≡ plain → IsCode a.first (first_numbers a) forms first plain instr.code → is_run instr.code ≡ true
    → AreNumberedIn a.reads.keys (keys_of_instr a.first first) → AllByRecursion (λ row. is_in a.reads.reached.rows row ≡ true) (target_of a.first first) → IsInstrOf a.p a.v instr raw → IsInstrAgain a first raw instr
by_plain a forms first raw instr None e code runs numbered among describes = by_operand a first raw instr (operand_at a.first first) refl code runs numbered among describes
by_plain a forms first raw instr (Some plain) e code runs numbered among describes = plain_again a first raw instr plain e (plain_run forms first.opcode plain instr.code runs code) describes

pub instr_again : (a : Again) (forms : Forms) (first raw : RawInstr) (instr : Instr) → IsInstr a.first (first_numbers a) forms first instr → is_run instr.code ≡ true
    → AreNumberedIn a.reads.keys (keys_of_instr a.first first) → AllByRecursion (λ row. is_in a.reads.reached.rows row ≡ true) (target_of a.first first)
    → IsInstrOf a.p a.v instr raw → IsInstrAgain a first raw instr
instr_again a forms first raw instr is runs numbered among describes = by_plain a forms first raw instr (plain_code first) refl is.code runs numbered among describes
