-- The opcode of an instruction without a token, and its operand, by what it does and by its size in bytes (Partition III).
-- Where no opcode does that they are 0.
use Rattle.std.specs.Prelude.{ℕ, ◌+◌, ◌%◌, ◌^◌, ◌==◌, ◌&&◌, nat_le, Bool, if◌then◌else◌}
use Rattle.px_program.specs.declared.instr.Arithmetic.{Arithmetic}
use Rattle.px_program.specs.declared.instr.Arithmetic.TheVariants as arithmetic
use Rattle.px_program.specs.declared.instr.Checked.{Checked}
use Rattle.px_program.specs.declared.instr.Checked.TheVariants as checked
use Rattle.px_program.specs.declared.instr.Code.{Code}
use Rattle.px_program.specs.declared.instr.Code.TheVariants as code
use Rattle.px_program.specs.declared.instr.Division.{Division}
use Rattle.px_program.specs.declared.instr.Division.TheVariants as division
use Rattle.px_program.specs.declared.instr.ElementForm.{ElementForm}
use Rattle.px_program.specs.declared.instr.ElementForm.TheVariants as form
use Rattle.px_program.specs.declared.instr.IntegerType.{IntegerType}
use Rattle.px_program.specs.declared.instr.IntegerType.TheVariants as integer
use Rattle.px_program.specs.declared.instr.Move.{Move}
use Rattle.px_program.specs.declared.instr.Move.TheVariants as move
use Rattle.px_program.specs.declared.instr.Shift.{Shift}
use Rattle.px_program.specs.declared.instr.Shift.TheVariants as shift
use Rattle.px_program.specs.declared.instr.Test.{Test}
use Rattle.px_program.specs.declared.instr.Test.TheVariants as tests
use Rattle.px_program.specs.declared.instr.Unary.{Unary}
use Rattle.px_program.specs.declared.instr.Unary.TheVariants as unary

-- MOVES

-- where the number of a slot takes one byte, and where it takes two
abbrev pub wide_slot : ℕ → ℕ → ℕ → ℕ
wide_slot short long size = if size == 2 then short else long

-- the numbers 0 to 3 can stand in the opcode
abbrev pub slot_opcode : ℕ → ℕ → ℕ → ℕ → ℕ → ℕ
slot_opcode first short long number size = if (size == 1) && nat_le number 3 then first + number else wide_slot short long size

-- the constants -1 to 8 can stand in the opcode, and small ones in one byte
abbrev pub constant_opcode : ℕ → ℕ → ℕ
constant_opcode pattern size =
    if size == 2 then 0x1F
    else if size == 5 then 0x20
    else if nat_le pattern 8 then 0x16 + pattern
    else 0x15

abbrev pub move_opcode : Move → ℕ → ℕ
move_opcode (move.Argument number) size = slot_opcode 0x02 0x0E 0xFE09 number size
move_opcode (move.SetArgument number) size = wide_slot 0x10 0xFE0B size
move_opcode (move.Local number) size = slot_opcode 0x06 0x11 0xFE0C number size
move_opcode (move.SetLocal number) size = slot_opcode 0x0A 0x13 0xFE0E number size
move_opcode (move.Constant32 pattern) size = constant_opcode pattern size
move_opcode (move.Constant64 pattern) size = 0x21
move_opcode move.Null size = 0x14
move_opcode (move.Text units) size = 0
move_opcode move.Duplicate size = 0x25
move_opcode move.Pop size = 0x26

-- a number that stands in the opcode is no operand
abbrev pub slot_operand : ℕ → ℕ → ℕ
slot_operand number size = if size == 1 then 0 else number

-- one byte has the low bits of the constant
abbrev pub constant_operand : ℕ → ℕ → ℕ
constant_operand pattern size = if size == 1 then 0 else if size == 2 then pattern % 2 ^ 8 else pattern

abbrev pub move_operand : Move → ℕ → ℕ
move_operand (move.Argument number) size = slot_operand number size
move_operand (move.SetArgument number) size = slot_operand number size
move_operand (move.Local number) size = slot_operand number size
move_operand (move.SetLocal number) size = slot_operand number size
move_operand (move.Constant32 pattern) size = constant_operand pattern size
move_operand (move.Constant64 pattern) size = pattern
move_operand move.Null size = 0
move_operand (move.Text units) size = 0
move_operand move.Duplicate size = 0
move_operand move.Pop size = 0

-- ARITHMETIC

abbrev pub arithmetic_opcode : Arithmetic → ℕ
arithmetic_opcode arithmetic.Add = 0x58
arithmetic_opcode arithmetic.Sub = 0x59
arithmetic_opcode arithmetic.Mul = 0x5A
arithmetic_opcode arithmetic.And = 0x5F
arithmetic_opcode arithmetic.Or = 0x60
arithmetic_opcode arithmetic.Xor = 0x61

abbrev pub division_opcode : Division → ℕ
division_opcode division.Quotient = 0x5B
division_opcode division.Remainder = 0x5D

abbrev pub unsigned_division_opcode : Division → ℕ
unsigned_division_opcode division.Quotient = 0x5C
unsigned_division_opcode division.Remainder = 0x5E

abbrev pub shift_opcode : Shift → ℕ
shift_opcode shift.Left = 0x62
shift_opcode shift.Right = 0x63
shift_opcode shift.RightUnsigned = 0x64

abbrev pub unary_opcode : Unary → ℕ
unary_opcode unary.Negate = 0x65
unary_opcode unary.Complement = 0x66

-- one opcode for signed numbers, and one for unsigned numbers
abbrev pub by_sign : Bool → ℕ → ℕ → ℕ
by_sign is_signed signed unsigned = if is_signed then signed else unsigned

abbrev pub checked_opcode : Checked → Bool → ℕ
checked_opcode checked.Add signed = by_sign signed 0xD6 0xD7
checked_opcode checked.Mul signed = by_sign signed 0xD8 0xD9
checked_opcode checked.Sub signed = by_sign signed 0xDA 0xDB

abbrev pub compare_opcode : Test → Bool → ℕ
compare_opcode tests.Eq signed = 0xFE01
compare_opcode tests.Gt signed = by_sign signed 0xFE02 0xFE03
compare_opcode tests.Lt signed = by_sign signed 0xFE04 0xFE05
compare_opcode _ signed = 0

-- CONVERSIONS

abbrev pub converted_opcode : IntegerType → ℕ
converted_opcode integer.I1 = 0x67
converted_opcode integer.I2 = 0x68
converted_opcode integer.I4 = 0x69
converted_opcode integer.I8 = 0x6A
converted_opcode integer.U4 = 0x6D
converted_opcode integer.U8 = 0x6E
converted_opcode integer.U2 = 0xD1
converted_opcode integer.U1 = 0xD2
converted_opcode integer.N = 0xD3
converted_opcode integer.UN = 0xE0

-- from a number that is read signed
abbrev pub signed_opcode : IntegerType → ℕ
signed_opcode integer.I1 = 0xB3
signed_opcode integer.U1 = 0xB4
signed_opcode integer.I2 = 0xB5
signed_opcode integer.U2 = 0xB6
signed_opcode integer.I4 = 0xB7
signed_opcode integer.U4 = 0xB8
signed_opcode integer.I8 = 0xB9
signed_opcode integer.U8 = 0xBA
signed_opcode integer.N = 0xD4
signed_opcode integer.UN = 0xD5

-- and from one that is read unsigned
abbrev pub unsigned_opcode : IntegerType → ℕ
unsigned_opcode integer.I1 = 0x82
unsigned_opcode integer.I2 = 0x83
unsigned_opcode integer.I4 = 0x84
unsigned_opcode integer.I8 = 0x85
unsigned_opcode integer.U1 = 0x86
unsigned_opcode integer.U2 = 0x87
unsigned_opcode integer.U4 = 0x88
unsigned_opcode integer.U8 = 0x89
unsigned_opcode integer.N = 0x8A
unsigned_opcode integer.UN = 0x8B

abbrev pub converted_checked_opcode : IntegerType → Bool → ℕ
converted_checked_opcode to signed = if signed then signed_opcode to else unsigned_opcode to

-- BRANCHES

-- a branch with a short target has two bytes
abbrev pub branch_opcode : ℕ → ℕ → ℕ
branch_opcode short size = if size == 2 then short else short + 0x0D

abbrev pub truth_opcode : Bool → ℕ
truth_opcode when = if when then 0x2D else 0x2C

-- comparisons that read numbers signed
abbrev pub signed_branch : Test → ℕ
signed_branch tests.Eq = 0x2E
signed_branch tests.Ge = 0x2F
signed_branch tests.Gt = 0x30
signed_branch tests.Le = 0x31
signed_branch tests.Lt = 0x32
signed_branch tests.Ne = 0

-- and those that read them unsigned
abbrev pub unsigned_branch : Test → ℕ
unsigned_branch tests.Ne = 0x33
unsigned_branch tests.Ge = 0x34
unsigned_branch tests.Gt = 0x35
unsigned_branch tests.Le = 0x36
unsigned_branch tests.Lt = 0x37
unsigned_branch tests.Eq = 0

abbrev pub compared_branch : Test → Bool → ℕ
compared_branch test signed = if signed then signed_branch test else unsigned_branch test

abbrev pub leave_opcode : ℕ → ℕ
leave_opcode size = if size == 2 then 0xDE else 0xDD

-- ELEMENTS

abbrev pub loaded_opcode : IntegerType → ℕ
loaded_opcode integer.I1 = 0x90
loaded_opcode integer.U1 = 0x91
loaded_opcode integer.I2 = 0x92
loaded_opcode integer.U2 = 0x93
loaded_opcode integer.I4 = 0x94
loaded_opcode integer.U4 = 0x95
loaded_opcode integer.I8 = 0x96
loaded_opcode integer.N = 0x97
loaded_opcode _ = 0

abbrev pub stored_opcode : IntegerType → ℕ
stored_opcode integer.N = 0x9B
stored_opcode integer.I1 = 0x9C
stored_opcode integer.I2 = 0x9D
stored_opcode integer.I4 = 0x9E
stored_opcode integer.I8 = 0x9F
stored_opcode _ = 0

abbrev pub element_opcode : Bool → ElementForm → ℕ
element_opcode store (form.Integer integer) = if store then stored_opcode integer else loaded_opcode integer
element_opcode store form.Reference = if store then 0xA2 else 0x9A
element_opcode store (form.Typed place) = 0

-- ALL

abbrev pub break_opcode : Bool → ℕ
break_opcode is_break = if is_break then 0x01 else 0x00

abbrev pub throw_opcode : Bool → ℕ
throw_opcode again = if again then 0xFE1A else 0x7A

abbrev pub opcode_by : Code → ℕ → ℕ
opcode_by (code.Nop is_break) size = break_opcode is_break
opcode_by (code.Move step) size = move_opcode step size
opcode_by (code.Arithmetic operation) size = arithmetic_opcode operation
opcode_by (code.Divide part) size = division_opcode part
opcode_by (code.DivideUnsigned part) size = unsigned_division_opcode part
opcode_by (code.Checked operation signed) size = checked_opcode operation signed
opcode_by (code.Shift way) size = shift_opcode way
opcode_by (code.Unary operation) size = unary_opcode operation
opcode_by (code.Convert to) size = converted_opcode to
opcode_by (code.ConvertChecked to signed) size = converted_checked_opcode to signed
opcode_by (code.Compare test signed) size = compare_opcode test signed
opcode_by (code.Branch target) size = branch_opcode 0x2B size
opcode_by (code.BranchTruth when target) size = branch_opcode (truth_opcode when) size
opcode_by (code.BranchCompare test signed target) size = branch_opcode (compared_branch test signed) size
opcode_by (code.Switch targets) size = 0x45
opcode_by code.Length size = 0x8E
opcode_by (code.Element store form) size = element_opcode store form
opcode_by code.Return size = 0x2A
opcode_by (code.Throw again) size = throw_opcode again
opcode_by (code.Leave target) size = leave_opcode size
opcode_by code.EndFinally size = 0xDC
opcode_by _ size = 0

abbrev pub operand_by : Code → ℕ → ℕ
operand_by (code.Move step) size = move_operand step size
operand_by _ size = 0
