-- What instructions without a token do, by their opcodes (Partition III), family by family. An opcode behind 0xFE counts 0xFE00 more than its second byte.
use Rattle.std.specs.Prelude.{ℕ, ◌+◌, ◌-◌, ◌/◌, ◌%◌, ◌^◌, List, [], ◌∷◌, ◌++◌, ◌==◌, ◌||◌, nat_lt, nat_le, Bool, true, false, if◌then◌else◌, codes, Option, Some, None, length, slice_index}
use Rattle.px_code.specs.Body.{is_from_to}
use Rattle.px_code.specs.declared.body.RawInstr.{RawInstr}
use Rattle.px_program.specs.declared.instr.Arithmetic.TheVariants as arithmetic
use Rattle.px_program.specs.declared.instr.Checked.TheVariants as checked
use Rattle.px_program.specs.declared.instr.Code.{Code}
use Rattle.px_program.specs.declared.instr.Code.TheVariants as code
use Rattle.px_program.specs.declared.instr.Division.TheVariants as division
use Rattle.px_program.specs.declared.instr.ElementForm.{ElementForm}
use Rattle.px_program.specs.declared.instr.ElementForm.TheVariants as form
use Rattle.px_program.specs.declared.instr.IntegerType.{IntegerType}
use Rattle.px_program.specs.declared.instr.IntegerType.TheVariants as integer
use Rattle.px_program.specs.declared.instr.Move.{Move}
use Rattle.px_program.specs.declared.instr.Move.TheVariants as move
use Rattle.px_program.specs.declared.instr.Shift.TheVariants as shift
use Rattle.px_program.specs.declared.instr.Test.{Test}
use Rattle.px_program.specs.declared.instr.Test.TheVariants as tests
use Rattle.px_program.specs.declared.instr.Unary.TheVariants as unary

-- MOVES

-- a byte with its sign, as a pattern of 32 bits
abbrev pub signed_byte : ℕ → ℕ
signed_byte byte = if nat_lt byte 128 then byte else byte + (2 ^ 32 - 256)

-- the numbers of slots stand in the opcode, in one byte or in two
unfoldable pub slot_move : ℕ → ℕ → Option Move
slot_move opcode operand =
    if is_from_to 0x02 0x05 opcode then Some (move.Argument (opcode - 0x02))
    else if is_from_to 0x06 0x09 opcode then Some (move.Local (opcode - 0x06))
    else if is_from_to 0x0A 0x0D opcode then Some (move.SetLocal (opcode - 0x0A))
    else if opcode == 0x0E then Some (move.Argument (operand % 2 ^ 8))
    else if opcode == 0x10 then Some (move.SetArgument (operand % 2 ^ 8))
    else if opcode == 0x11 then Some (move.Local (operand % 2 ^ 8))
    else if opcode == 0x13 then Some (move.SetLocal (operand % 2 ^ 8))
    else if opcode == 0xFE09 then Some (move.Argument (operand % 2 ^ 16))
    else if opcode == 0xFE0B then Some (move.SetArgument (operand % 2 ^ 16))
    else if opcode == 0xFE0C then Some (move.Local (operand % 2 ^ 16))
    else if opcode == 0xFE0E then Some (move.SetLocal (operand % 2 ^ 16))
    else None

unfoldable pub stack_move : ℕ → ℕ → Option Move
stack_move opcode operand =
    if opcode == 0x14 then Some move.Null
    else if opcode == 0x15 then Some (move.Constant32 (2 ^ 32 - 1))
    else if is_from_to 0x16 0x1E opcode then Some (move.Constant32 (opcode - 0x16))
    else if opcode == 0x1F then Some (move.Constant32 (signed_byte (operand % 2 ^ 8)))
    else if opcode == 0x20 then Some (move.Constant32 (operand % 2 ^ 32))
    else if opcode == 0x21 then Some (move.Constant64 operand)
    else if opcode == 0x25 then Some move.Duplicate
    else if opcode == 0x26 then Some move.Pop
    else None

-- ARITHMETIC

unfoldable pub arithmetic_code : ℕ → Option Code
arithmetic_code opcode =
    if opcode == 0x58 then Some (code.Arithmetic arithmetic.Add)
    else if opcode == 0x59 then Some (code.Arithmetic arithmetic.Sub)
    else if opcode == 0x5A then Some (code.Arithmetic arithmetic.Mul)
    else if opcode == 0x5B then Some (code.Divide division.Quotient)
    else if opcode == 0x5C then Some (code.DivideUnsigned division.Quotient)
    else if opcode == 0x5D then Some (code.Divide division.Remainder)
    else if opcode == 0x5E then Some (code.DivideUnsigned division.Remainder)
    else if opcode == 0x5F then Some (code.Arithmetic arithmetic.And)
    else if opcode == 0x60 then Some (code.Arithmetic arithmetic.Or)
    else if opcode == 0x61 then Some (code.Arithmetic arithmetic.Xor)
    else if opcode == 0x62 then Some (code.Shift shift.Left)
    else if opcode == 0x63 then Some (code.Shift shift.Right)
    else if opcode == 0x64 then Some (code.Shift shift.RightUnsigned)
    else if opcode == 0x65 then Some (code.Unary unary.Negate)
    else if opcode == 0x66 then Some (code.Unary unary.Complement)
    else None

-- those that throw where the result is out of range, and comparisons
unfoldable pub checked_code : ℕ → Option Code
checked_code opcode =
    if opcode == 0xD6 then Some (code.Checked checked.Add true)
    else if opcode == 0xD7 then Some (code.Checked checked.Add false)
    else if opcode == 0xD8 then Some (code.Checked checked.Mul true)
    else if opcode == 0xD9 then Some (code.Checked checked.Mul false)
    else if opcode == 0xDA then Some (code.Checked checked.Sub true)
    else if opcode == 0xDB then Some (code.Checked checked.Sub false)
    else if opcode == 0xFE01 then Some (code.Compare tests.Eq true)
    else if opcode == 0xFE02 then Some (code.Compare tests.Gt true)
    else if opcode == 0xFE03 then Some (code.Compare tests.Gt false)
    else if opcode == 0xFE04 then Some (code.Compare tests.Lt true)
    else if opcode == 0xFE05 then Some (code.Compare tests.Lt false)
    else None

-- CONVERSIONS

unfoldable pub converted : ℕ → Option IntegerType
converted opcode =
    if opcode == 0x67 then Some integer.I1
    else if opcode == 0x68 then Some integer.I2
    else if opcode == 0x69 then Some integer.I4
    else if opcode == 0x6A then Some integer.I8
    else if opcode == 0x6D then Some integer.U4
    else if opcode == 0x6E then Some integer.U8
    else if opcode == 0xD1 then Some integer.U2
    else if opcode == 0xD2 then Some integer.U1
    else if opcode == 0xD3 then Some integer.N
    else if opcode == 0xE0 then Some integer.UN
    else None

-- from a number that is read signed
unfoldable pub converted_checked : ℕ → Option IntegerType
converted_checked opcode =
    if opcode == 0xB3 then Some integer.I1
    else if opcode == 0xB4 then Some integer.U1
    else if opcode == 0xB5 then Some integer.I2
    else if opcode == 0xB6 then Some integer.U2
    else if opcode == 0xB7 then Some integer.I4
    else if opcode == 0xB8 then Some integer.U4
    else if opcode == 0xB9 then Some integer.I8
    else if opcode == 0xBA then Some integer.U8
    else if opcode == 0xD4 then Some integer.N
    else if opcode == 0xD5 then Some integer.UN
    else None

-- and from one that is read unsigned
unfoldable pub converted_unsigned : ℕ → Option IntegerType
converted_unsigned opcode =
    if opcode == 0x82 then Some integer.I1
    else if opcode == 0x83 then Some integer.I2
    else if opcode == 0x84 then Some integer.I4
    else if opcode == 0x85 then Some integer.I8
    else if opcode == 0x86 then Some integer.U1
    else if opcode == 0x87 then Some integer.U2
    else if opcode == 0x88 then Some integer.U4
    else if opcode == 0x89 then Some integer.U8
    else if opcode == 0x8A then Some integer.N
    else if opcode == 0x8B then Some integer.UN
    else None

-- BRANCHES

-- the short form of a branch with a long target
abbrev pub short_form : ℕ → ℕ
short_form opcode = if is_from_to 0x38 0x44 opcode then opcode - 0x0D else opcode

-- what the branches from 0x2E (`beq`) to 0x37 (`blt.un`) compare by
abbrev pub test_of : ℕ → Test
test_of opcode =
    if opcode == 0x2E then tests.Eq
    else if opcode == 0x33 then tests.Ne
    else if (opcode == 0x2F) || (opcode == 0x34) then tests.Ge
    else if (opcode == 0x30) || (opcode == 0x35) then tests.Gt
    else if (opcode == 0x31) || (opcode == 0x36) then tests.Le
    else tests.Lt

-- a branch in its short form
unfoldable pub branch_by : ℕ → ℕ → Option Code
branch_by opcode target =
    if opcode == 0x2B then Some (code.Branch target)
    else if opcode == 0x2C then Some (code.BranchTruth false target)
    else if opcode == 0x2D then Some (code.BranchTruth true target)
    else if is_from_to 0x2E 0x32 opcode then Some (code.BranchCompare (test_of opcode) true target)
    else if is_from_to 0x33 0x37 opcode then Some (code.BranchCompare (test_of opcode) false target)
    else None

-- a switch has at most 128 targets
unfoldable pub flow_code : ℕ → List ℕ → Option Code
flow_code opcode targets =
    if opcode == 0x45 then (if nat_le (length targets) 128 then Some (code.Switch targets) else None)
    else if (opcode == 0xDD) || (opcode == 0xDE) then Some (code.Leave (slice_index targets 0))
    else branch_by (short_form opcode) (slice_index targets 0)

-- ELEMENTS

unfoldable pub loaded : ℕ → Option ElementForm
loaded opcode =
    if opcode == 0x90 then Some (form.Integer integer.I1)
    else if opcode == 0x91 then Some (form.Integer integer.U1)
    else if opcode == 0x92 then Some (form.Integer integer.I2)
    else if opcode == 0x93 then Some (form.Integer integer.U2)
    else if opcode == 0x94 then Some (form.Integer integer.I4)
    else if opcode == 0x95 then Some (form.Integer integer.U4)
    else if opcode == 0x96 then Some (form.Integer integer.I8)
    else if opcode == 0x97 then Some (form.Integer integer.N)
    else if opcode == 0x9A then Some form.Reference
    else None

unfoldable pub stored : ℕ → Option ElementForm
stored opcode =
    if opcode == 0x9B then Some (form.Integer integer.N)
    else if opcode == 0x9C then Some (form.Integer integer.I1)
    else if opcode == 0x9D then Some (form.Integer integer.I2)
    else if opcode == 0x9E then Some (form.Integer integer.I4)
    else if opcode == 0x9F then Some (form.Integer integer.I8)
    else if opcode == 0xA2 then Some form.Reference
    else None

-- THE REST

unfoldable pub other_code : ℕ → Option Code
other_code opcode =
    if opcode == 0x00 then Some (code.Nop false)
    else if opcode == 0x01 then Some (code.Nop true)
    else if opcode == 0x2A then Some code.Return
    else if opcode == 0x7A then Some (code.Throw false)
    else if opcode == 0x8E then Some code.Length
    else if opcode == 0xDC then Some code.EndFinally
    else if opcode == 0xFE1A then Some (code.Throw true)
    else None

-- the first that there is
infixr 20 ◌orelse◌
abbrev pub ◌orelse◌ : {X : Type 0} → Option X → Option X → Option X
(Some x) orelse other = Some x
None orelse other = other

abbrev pub moves : Option Move → Option Code
moves None = None
moves (Some move) = Some (code.Move move)

abbrev pub converts : Option IntegerType → Option Code
converts None = None
converts (Some to) = Some (code.Convert to)

abbrev pub converts_checked : Bool → Option IntegerType → Option Code
converts_checked signed None = None
converts_checked signed (Some to) = Some (code.ConvertChecked to signed)

abbrev pub reaches : Bool → Option ElementForm → Option Code
reaches store None = None
reaches store (Some form) = Some (code.Element store form)

-- what an instruction without a token does, where it is one that is known
abbrev pub plain_code : RawInstr → Option Code
plain_code raw =
    moves (slot_move raw.opcode raw.operand) orelse moves (stack_move raw.opcode raw.operand)
    orelse arithmetic_code raw.opcode orelse checked_code raw.opcode
    orelse converts (converted raw.opcode) orelse converts_checked true (converted_checked raw.opcode) orelse converts_checked false (converted_unsigned raw.opcode)
    orelse flow_code raw.opcode raw.targets
    orelse reaches false (loaded raw.opcode) orelse reaches true (stored raw.opcode)
    orelse other_code raw.opcode

-- NAMES OF INSTRUCTIONS THAT AREN'T RUN

-- a capital hexadecimal digit
abbrev pub hex_digit : ℕ → ℕ
hex_digit n = if nat_lt n 10 then 48 + n else 55 + n

abbrev pub hex_byte : ℕ → List ℕ
hex_byte byte = hex_digit (byte / 16) ∷ hex_digit (byte % 16) ∷ []

-- the name of an instruction that isn't run, by the one or two bytes of its opcode
abbrev pub opcode_name : ℕ → List ℕ
opcode_name opcode =
    if nat_lt opcode 0x100 then codes "opcode-" ++ hex_byte opcode
    else codes "opcode-" ++ (hex_byte (opcode / 0x100) ++ (codes "-" ++ hex_byte (opcode % 0x100)))

-- an instruction that isn't run
abbrev pub outside : ℕ → Code
outside opcode = code.Outside (opcode_name opcode) opcode

abbrev pub known_or_outside : ℕ → Option Code → Code
known_or_outside opcode None = outside opcode
known_or_outside opcode (Some code) = code
