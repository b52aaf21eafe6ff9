-- Instructions with a token, and without one.
use Rattle.std.proofs.Common.{◌≡◌, ℕ, ◌+◌, ◌<◌, ◌^◌, Bool, true, false, Option, Some, None, Result, Ok, Err, refl, sym, ap, ◌∙◌, subst, arith}
use Rattle.std.specs.Prelude.{IfOk, IfSome, if◌then◌else◌}
use Rattle.px_code.specs.Body.{operand_of}
use Rattle.px_code.specs.declared.body.Operand.TheVariants.{Number}
use Rattle.px_code.specs.declared.body.RawInstr.{RawInstr}
use Rattle.px_asm_bodies.specs.Encoding.{HasNumber, HasOperand, IsEncodable, is_opcode, opcode_size}
use Rattle.px_program.specs.declared.instr.Code.{Code}
use Rattle.px_program.specs.declared.instr.Code.TheVariants as code
use Rattle.px_program.specs.declared.instr.ElementForm.TheVariants as form
use Rattle.px_program.specs.declared.instr.Instr.{Instr}
use Rattle.px_program.specs.declared.instr.Move.TheVariants as move
use Rattle.px_link_opcodes.specs.Opcodes.{plain_code}
use Rattle.px_asm_opcodes.specs.Recoding.{Does, HasRaw, HasToken, IsPlacedAs, IsPlain, IsRawOf, token_opcode}
use Rattle.std.specs.declared.alloc.AllocError.{AllocError}

-- an opcode of one byte with four bytes behind it
record TakesToken (opcode : ℕ) : Type 0 where
  is : is_opcode opcode ≡ true
  size : opcode_size opcode ≡ 1
  operand : operand_of opcode ≡ Some (Number 4)

either : (test : Bool) (one other : ℕ) → TakesToken one → TakesToken other → TakesToken (if test then one else other)
either true one other here there = here
either false one other here there = there

takes_token : (code : Code) → IfSome (token_opcode code) TakesToken
unfolding operand_of
takes_token (code.Move (move.Text units)) = record { is = refl; size = refl; operand = refl }
takes_token (code.NewArray type) = record { is = refl; size = refl; operand = refl }
takes_token (code.Element store (form.Typed place)) = either store 0xA4 0xA3 (record { is = refl; size = refl; operand = refl }) (record { is = refl; size = refl; operand = refl })
takes_token (code.Cast throws class) = either throws 0x74 0x75 (record { is = refl; size = refl; operand = refl }) (record { is = refl; size = refl; operand = refl })
takes_token (code.Field store field) = either store 0x7D 0x7B (record { is = refl; size = refl; operand = refl }) (record { is = refl; size = refl; operand = refl })
takes_token (code.Static store field) = either store 0x80 0x7E (record { is = refl; size = refl; operand = refl }) (record { is = refl; size = refl; operand = refl })
takes_token (code.Call callee) = record { is = refl; size = refl; operand = refl }
takes_token (code.CallVirtual method) = record { is = refl; size = refl; operand = refl }
takes_token (code.NewObject callee) = record { is = refl; size = refl; operand = refl }
takes_token (code.Check check) = record { is = refl; size = refl; operand = refl }
takes_token _ = tt

at_opcode : (o : Option ℕ) (opcode : ℕ) → o ≡ Some opcode → IfSome o TakesToken → TakesToken opcode
at_opcode o opcode is takes = subst (λ x. IfSome x TakesToken) is takes

-- an instruction of five bytes with such an opcode and a token can be written
pub token_encodable : (instr : Instr) (raw : RawInstr) (opcode token : ℕ) → token_opcode instr.code ≡ Some opcode → instr.next ≡ instr.offset + 5 → token < 2 ^ 32 → IsPlacedAs instr raw → HasToken opcode token raw → IsEncodable raw
token_encodable instr raw opcode token is size less placed has =
    let takes = at_opcode (token_opcode instr.code) opcode is (takes_token instr.code) in
    let same = has.opcode_is in
    let one : opcode_size raw.opcode ≡ 1 = ap opcode_size same ∙ takes.size in
    let fits : raw.operand < 256 ^ 4 = omega (arith, has.token_is, less) in
    let size_is : raw.next ≡ raw.offset + opcode_size raw.opcode + 4 = omega (arith, placed.offset, placed.next, size, one) in
    let number : HasNumber raw 4 = record { size_is = size_is; fits = fits; no_targets = has.no_targets } in
    record {
      opcode = ap is_opcode same ∙ takes.is;
      operand = subst (λ o. HasOperand o raw) (sym (ap operand_of same ∙ takes.operand)) number;
    }

five_bytes : (o : Option ℕ) (opcode : ℕ) (instr : Instr) → o ≡ Some opcode → HasRaw o instr → instr.next ≡ instr.offset + 5
five_bytes o opcode instr is has = subst (λ x. HasRaw x instr) is has

does_by : (o : Option ℕ) (opcode token : ℕ) (made : Code) (raw : RawInstr) → o ≡ Some opcode → HasToken opcode token raw → Does o made token raw
does_by o opcode token made raw is has = subst (λ x. Does x made token raw) (sym is) has

pub raw_with_token : (instr : Instr) (raw : RawInstr) (opcode token : ℕ) → token_opcode instr.code ≡ Some opcode → HasRaw (token_opcode instr.code) instr → token < 2 ^ 32 → IsPlacedAs instr raw → HasToken opcode token raw → IsRawOf instr token raw
raw_with_token instr raw opcode token is has less placed token_is = record {
  encodable = token_encodable instr raw opcode token is (five_bytes (token_opcode instr.code) opcode instr is has) less placed token_is;
  placed = placed;
  does = does_by (token_opcode instr.code) opcode token instr.code raw is token_is;
}

-- WITHOUT A TOKEN

pub plain_by : (instr : Instr) → token_opcode instr.code ≡ None → HasRaw (token_opcode instr.code) instr → IsPlain instr
plain_by instr is has = subst (λ o. HasRaw o instr) is has

pub plain_raw : (instr : Instr) (token : ℕ) (result : Result RawInstr AllocError) → token_opcode instr.code ≡ None → IfOk result IsEncodable → IfOk result (IsPlacedAs instr) → IfOk result (λ raw. plain_code raw ≡ Some instr.code) → IfOk result (IsRawOf instr token)
plain_raw instr token (Ok raw) is encodable placed does = record { encodable = encodable; placed = placed; does = subst (λ o. Does o instr.code token raw) (sym is) does }
plain_raw instr token (Err e) is encodable placed does = tt
