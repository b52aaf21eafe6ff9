-- The instructions of a program as an assembly has them: each by an opcode that does the same in as many bytes (Partition III).
use Rattle.std.specs.Prelude.{◌≡◌, ℕ, ◌+◌, if◌then◌else◌, [], Option, Some, None}
use Rattle.px_code.specs.declared.body.RawInstr.{RawInstr}
use Rattle.px_asm_bodies.specs.Encoding.{IsEncodable}
use Rattle.px_link_opcodes.specs.Opcodes.{plain_code}
use Rattle.px_program.specs.declared.instr.Code.{Code}
use Rattle.px_program.specs.declared.instr.Code.TheVariants as code
use Rattle.px_program.specs.declared.instr.ElementForm.TheVariants as form
use Rattle.px_program.specs.declared.instr.Instr.{Instr}
use Rattle.px_program.specs.declared.instr.Move.TheVariants as move

-- the opcode of an instruction that has a token; none of one that has none
abbrev pub token_opcode : Code → Option ℕ
token_opcode (code.Move (move.Text units)) = Some 0x72
token_opcode (code.NewArray type) = Some 0x8D
token_opcode (code.Element store (form.Typed place)) = Some (if store then 0xA4 else 0xA3)
token_opcode (code.Cast throws class) = Some (if throws then 0x74 else 0x75)
token_opcode (code.Field store field) = Some (if store then 0x7D else 0x7B)
token_opcode (code.Static store field) = Some (if store then 0x80 else 0x7E)
token_opcode (code.Call callee) = Some 0x28
token_opcode (code.CallVirtual method) = Some 0x6F
token_opcode (code.NewObject callee) = Some 0x73
token_opcode (code.Check check) = Some 0x28
token_opcode _ = None

-- the instruction stands where the other does
pub record IsPlacedAs (instr : Instr) (raw : RawInstr) : Type 0 where
  pub offset : raw.offset ≡ instr.offset
  pub next : raw.next ≡ instr.next

-- an instruction without a token that some opcode has in as many bytes
pub record IsPlain (instr : Instr) : Type 0 where
  pub raw : RawInstr
  pub encodable : IsEncodable raw
  pub placed : IsPlacedAs instr raw
  pub does : plain_code raw ≡ Some instr.code

-- there is an instruction of an assembly that does the same, which has a token of four bytes or none
abbrev pub HasRaw : Option ℕ → Instr → Type 0
HasRaw (Some opcode) instr = instr.next ≡ instr.offset + 5
HasRaw None instr = IsPlain instr

-- the opcode of the instruction with this token
pub record HasToken (opcode token : ℕ) (raw : RawInstr) : Type 0 where
  pub opcode_is : raw.opcode ≡ opcode
  pub token_is : raw.operand ≡ token
  pub no_targets : raw.targets ≡ []

abbrev pub Does : Option ℕ → Code → ℕ → RawInstr → Type 0
Does (Some opcode) made token raw = HasToken opcode token raw
Does None made token raw = plain_code raw ≡ Some made

-- the instruction of an assembly that does what one of a program does, with its token where it has one
pub record IsRawOf (instr : Instr) (token : ℕ) (raw : RawInstr) : Type 0 where
  pub encodable : IsEncodable raw
  pub placed : IsPlacedAs instr raw
  pub does : Does (token_opcode instr.code) instr.code token raw
