-- What the instructions of a body do in a program, where types, fields and methods go by numbers.
use Rattle.std.specs.Prelude.{◌≡◌, ℕ, ◌+◌, ◌%◌, ◌^◌, ◌==◌, ◌||◌, if◌then◌else◌, List, [], ◌∷◌, map, Option, Some, None}
use Rattle.px_code.specs.declared.body.RawInstr.{RawInstr}
use Rattle.px_meta.specs.Members.{owner_of}
use Rattle.px_meta.specs.Rows.{fields}
use Rattle.px_link_opcodes.specs.Opcodes.{outside, plain_code}
use Rattle.px_link_tokens.specs.Outside.{IsOutsideName}
use Rattle.px_link_tokens.specs.declared.operand.Operand.{Operand}
use Rattle.px_link_tokens.specs.declared.operand.Operand.TheVariants as operand
use Rattle.px_program.specs.declared.instr.Callee.{Callee}
use Rattle.px_program.specs.declared.instr.Callee.TheVariants as callees
use Rattle.px_program.specs.declared.instr.Code.{Code}
use Rattle.px_program.specs.declared.instr.Code.TheVariants as code
use Rattle.px_program.specs.declared.instr.ElementForm.TheVariants as form
use Rattle.px_program.specs.declared.instr.Field.{Field}
use Rattle.px_program.specs.declared.instr.Instr.{Instr}
use Rattle.px_program.specs.declared.instr.Move.TheVariants as move
use Rattle.px_link_reach.specs.Met.{operand_at}
use Rattle.px_tables.specs.Metadata.{View}
use Rattle.px_link_types.specs.Keys.{alone}
use Rattle.px_link_types.specs.Numbers.{instance_fields, number_of, place_in, static_fields}
use Rattle.px_link_types.specs.declared.key.Key.{Key}
use Rattle.px_link_types.specs.declared.key.Leaf.TheVariants.{Defined}
use Rattle.px_link_methods.specs.Slots.{Forms, is_barred}

-- what types and methods are numbered by: the types as they are met, and the methods by their rows
pub record Numbering : Type 0 where
  pub keys : List Key
  pub rows : List ℕ

-- where a row stands among some
abbrev pub place_of : List ℕ → ℕ → ℕ
place_of [] row = 0
place_of (other ∷ rows) row = if other == row then 0 else 1 + place_of rows row

abbrev pub owner_number : View → List Key → ℕ → ℕ
owner_number v keys owner = number_of keys (alone (Defined owner))

-- a field by the number of its owner, and its place among those of its owner
abbrev pub field_among : View → List Key → (ℕ → List ℕ) → ℕ → Field
field_among v keys list field = let owner = owner_of v fields field in record { owner = owner_number v keys owner; index = place_of (list owner) field }

abbrev pub type_code : List Key → ℕ → Key → Code
type_code keys opcode key =
    if opcode == 0x8D then code.NewArray (number_of keys key)
    else if (opcode == 0xA3) || (opcode == 0xA4) then code.Element (opcode == 0xA4) (form.Typed (place_in keys key))
    else code.Cast (opcode == 0x74) (number_of keys key)

abbrev pub field_code : View → List Key → ℕ → ℕ → Code
field_code v keys opcode field =
    if (opcode == 0x7B) || (opcode == 0x7D) then code.Field (opcode == 0x7D) (field_among v keys (instance_fields v) field)
    else code.Static (opcode == 0x80) (field_among v keys (static_fields v) field)

-- a call, or a new object that is given to the constructor
abbrev pub call_code : ℕ → Callee → Code
call_code opcode callee = if opcode == 0x73 then code.NewObject callee else code.Call callee

abbrev pub method_code : List ℕ → ℕ → ℕ → Code
method_code rows opcode method =
    if opcode == 0x6F then code.CallVirtual (place_of rows method) else call_code opcode (callees.Method (place_of rows method))

-- what an instruction does with what its token names
abbrev pub code_with : View → Numbering → ℕ → Operand → Code
code_with v n opcode (operand.Text units) = code.Move (move.Text units)
code_with v n opcode (operand.Type key) = type_code n.keys opcode key
code_with v n opcode (operand.Field field) = field_code v n.keys opcode field
code_with v n opcode (operand.Method method) = method_code n.rows opcode method
code_with v n opcode (operand.Constructor class params) = call_code opcode (callees.Constructor class (map (place_in n.keys) params))
code_with v n opcode (operand.Check check) = code.Check check

-- an instruction that isn't run
pub record IsOutside (v : View) (raw : RawInstr) (made : Code) : Type 0 where
  pub name : List ℕ
  pub name_is : IsOutsideName v raw.opcode (raw.operand % 2 ^ 32) name
  pub is : made ≡ code.Outside name raw.opcode

abbrev pub IsTokenCode : View → Numbering → RawInstr → Option Operand → Code → Type 0
IsTokenCode v n raw None made = IsOutside v raw made
IsTokenCode v n raw (Some operand) made = made ≡ code_with v n raw.opcode operand

-- An instruction without a token does what its opcode says, where no slot bars it; another does what its token says.
abbrev pub IsCode : View → Numbering → Forms → RawInstr → Option Code → Code → Type 0
IsCode v n forms raw None made = IsTokenCode v n raw (operand_at v raw) made
IsCode v n forms raw (Some plain) made = made ≡ (if is_barred forms plain then outside raw.opcode else plain)

pub record IsInstr (v : View) (n : Numbering) (forms : Forms) (raw : RawInstr) (instr : Instr) : Type 0 where
  pub offset : instr.offset ≡ raw.offset
  pub next : instr.next ≡ raw.next
  pub code : IsCode v n forms raw (plain_code raw) instr.code
