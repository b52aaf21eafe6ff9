-- What instructions without a token do, by their opcodes and operands.
use Rattle.std.proofs.Common.{◌≡◌, ℕ, List, [], ◌∷◌, refl, map, true, false}
use Rattle.px_program.specs.declared.instr.Arithmetic.TheVariants as arithmetic
use Rattle.px_program.specs.declared.instr.Checked.TheVariants as checked
use Rattle.px_program.specs.declared.instr.Code.{Code}
use Rattle.px_program.specs.declared.instr.Code.TheVariants.{Nop, Move, Arithmetic, Divide, DivideUnsigned, Checked, Shift, Unary, Convert, ConvertChecked, Compare, Length, Element, Return, Throw, EndFinally}
use Rattle.px_program.specs.declared.instr.Division.TheVariants.{Quotient, Remainder}
use Rattle.px_program.specs.declared.instr.ElementForm.TheVariants.{Integer, Reference}
use Rattle.px_program.specs.declared.instr.IntegerType.TheVariants.{I1, U1, I2, U2, I4, U4, I8, U8, N, UN}
use Rattle.px_program.specs.declared.instr.Move.TheVariants.{Argument, SetArgument, Local, SetLocal, Constant32, Constant64, Null, Duplicate, Pop}
use Rattle.px_program.specs.declared.instr.Shift.TheVariants.{Left, Right, RightUnsigned}
use Rattle.px_program.specs.declared.instr.Test.TheVariants.{Eq, Gt, Lt}
use Rattle.px_program.specs.declared.instr.Unary.TheVariants.{Negate, Complement}
use Rattle.px_facts_link.proofs.InstrWords.{alone, does, opcodes, with_number}

-- what each of some opcodes does that have no operand
abbrev each : List ℕ → List Code
each numbers = map (λ opcode. does (alone opcode)) numbers

-- MOVES between slots and the stack

-- a body that takes the next argument gives Argument 1 for the first of them
arguments_0_to_3 : each (0x02 ∷ 0x03 ∷ 0x04 ∷ 0x05 ∷ []) ≡ Move (Argument 0) ∷ Move (Argument 1) ∷ Move (Argument 2) ∷ Move (Argument 3) ∷ []
unfolding opcodes
arguments_0_to_3 = refl

locals_0_to_3 : each (0x06 ∷ 0x07 ∷ 0x08 ∷ 0x09 ∷ []) ≡ Move (Local 0) ∷ Move (Local 1) ∷ Move (Local 2) ∷ Move (Local 3) ∷ []
unfolding opcodes
locals_0_to_3 = refl

stores_to_locals_0_to_3 : each (0x0A ∷ 0x0B ∷ 0x0C ∷ 0x0D ∷ []) ≡ Move (SetLocal 0) ∷ Move (SetLocal 1) ∷ Move (SetLocal 2) ∷ Move (SetLocal 3) ∷ []
unfolding opcodes
stores_to_locals_0_to_3 = refl

an_argument_of_one_byte : does (with_number 0x0E 255) ≡ Move (Argument 255)
unfolding opcodes
an_argument_of_one_byte = refl

a_store_to_an_argument_of_one_byte : does (with_number 0x10 4) ≡ Move (SetArgument 4)
unfolding opcodes
a_store_to_an_argument_of_one_byte = refl

a_local_of_one_byte : does (with_number 0x11 5) ≡ Move (Local 5)
unfolding opcodes
a_local_of_one_byte = refl

a_store_to_a_local_of_one_byte : does (with_number 0x13 6) ≡ Move (SetLocal 6)
unfolding opcodes
a_store_to_a_local_of_one_byte = refl

an_argument_of_two_bytes : does (with_number 0xFE09 258) ≡ Move (Argument 258)
unfolding opcodes
an_argument_of_two_bytes = refl

a_store_to_an_argument_of_two_bytes : does (with_number 0xFE0B 259) ≡ Move (SetArgument 259)
unfolding opcodes
a_store_to_an_argument_of_two_bytes = refl

a_local_of_two_bytes : does (with_number 0xFE0C 0xFFFF) ≡ Move (Local 65535)
unfolding opcodes
a_local_of_two_bytes = refl

a_store_to_a_local_of_two_bytes : does (with_number 0xFE0E 261) ≡ Move (SetLocal 261)
unfolding opcodes
a_store_to_a_local_of_two_bytes = refl

null_and_moves_on_the_stack : each (0x14 ∷ 0x25 ∷ 0x26 ∷ []) ≡ Move Null ∷ Move Duplicate ∷ Move Pop ∷ []
unfolding opcodes
null_and_moves_on_the_stack = refl

-- CONSTANTS as patterns of 32 or 64 bits

abbrev patterns : List ℕ → List Code
patterns numbers = map (λ pattern. Move (Constant32 pattern)) numbers

minus_one_to_eight : each (0x15 ∷ 0x16 ∷ 0x17 ∷ 0x18 ∷ 0x19 ∷ 0x1A ∷ 0x1B ∷ 0x1C ∷ 0x1D ∷ 0x1E ∷ [])
    ≡ patterns (4294967295 ∷ 0 ∷ 1 ∷ 2 ∷ 3 ∷ 4 ∷ 5 ∷ 6 ∷ 7 ∷ 8 ∷ [])
unfolding opcodes
minus_one_to_eight = refl

-- a body that reads the byte unsigned gives 128 and 255 for the last two
constants_of_one_byte : map (λ byte. does (with_number 0x1F byte)) (0x00 ∷ 0x7F ∷ 0x80 ∷ 0xFF ∷ [])
    ≡ patterns (0 ∷ 127 ∷ 4294967168 ∷ 4294967295 ∷ [])
unfolding opcodes
constants_of_one_byte = refl

constants_of_four_bytes : map (λ number. does (with_number 0x20 number)) (0x01020304 ∷ 0x80000000 ∷ []) ≡ patterns (16909060 ∷ 2147483648 ∷ [])
unfolding opcodes
constants_of_four_bytes = refl

constants_of_eight_bytes : map (λ number. does (with_number 0x21 number)) (1 ∷ 0x100000000 ∷ 0xFFFFFFFFFFFFFFFE ∷ [])
    ≡ Move (Constant64 1) ∷ Move (Constant64 4294967296) ∷ Move (Constant64 18446744073709551614) ∷ []
unfolding opcodes
constants_of_eight_bytes = refl

-- ARITHMETIC AND COMPARISONS

sums_and_products : each (0x58 ∷ 0x59 ∷ 0x5A ∷ []) ≡ Arithmetic arithmetic.Add ∷ Arithmetic arithmetic.Sub ∷ Arithmetic arithmetic.Mul ∷ []
unfolding opcodes
sums_and_products = refl

bit_by_bit : each (0x5F ∷ 0x60 ∷ 0x61 ∷ []) ≡ Arithmetic arithmetic.And ∷ Arithmetic arithmetic.Or ∷ Arithmetic arithmetic.Xor ∷ []
unfolding opcodes
bit_by_bit = refl

divisions : each (0x5B ∷ 0x5C ∷ 0x5D ∷ 0x5E ∷ []) ≡ Divide Quotient ∷ DivideUnsigned Quotient ∷ Divide Remainder ∷ DivideUnsigned Remainder ∷ []
unfolding opcodes
divisions = refl

-- a body that shifts by the sign gives Shift Right twice
shifts : each (0x62 ∷ 0x63 ∷ 0x64 ∷ []) ≡ Shift Left ∷ Shift Right ∷ Shift RightUnsigned ∷ []
unfolding opcodes
shifts = refl

negation_and_complement : each (0x65 ∷ 0x66 ∷ []) ≡ Unary Negate ∷ Unary Complement ∷ []
unfolding opcodes
negation_and_complement = refl

checked_sums : each (0xD6 ∷ 0xD7 ∷ []) ≡ Checked checked.Add true ∷ Checked checked.Add false ∷ []
unfolding opcodes
checked_sums = refl

checked_products : each (0xD8 ∷ 0xD9 ∷ []) ≡ Checked checked.Mul true ∷ Checked checked.Mul false ∷ []
unfolding opcodes
checked_products = refl

checked_differences : each (0xDA ∷ 0xDB ∷ []) ≡ Checked checked.Sub true ∷ Checked checked.Sub false ∷ []
unfolding opcodes
checked_differences = refl

comparisons : each (0xFE01 ∷ 0xFE02 ∷ 0xFE03 ∷ 0xFE04 ∷ 0xFE05 ∷ [])
    ≡ Compare Eq true ∷ Compare Gt true ∷ Compare Gt false ∷ Compare Lt true ∷ Compare Lt false ∷ []
unfolding opcodes
comparisons = refl

-- CONVERSIONS: `conv`, `conv.ovf` and `conv.ovf` with `.un`

-- a body that converts to unsigned numbers gives Convert U4 for the third
conversions : each (0x67 ∷ 0x68 ∷ 0x69 ∷ 0x6A ∷ 0x6D ∷ 0x6E ∷ 0xD1 ∷ 0xD2 ∷ 0xD3 ∷ 0xE0 ∷ [])
    ≡ map Convert (I1 ∷ I2 ∷ I4 ∷ I8 ∷ U4 ∷ U8 ∷ U2 ∷ U1 ∷ N ∷ UN ∷ [])
unfolding opcodes
conversions = refl

checked_conversions : each (0xB3 ∷ 0xB4 ∷ 0xB5 ∷ 0xB6 ∷ 0xB7 ∷ 0xB8 ∷ 0xB9 ∷ 0xBA ∷ 0xD4 ∷ 0xD5 ∷ [])
    ≡ map (λ to. ConvertChecked to true) (I1 ∷ U1 ∷ I2 ∷ U2 ∷ I4 ∷ U4 ∷ I8 ∷ U8 ∷ N ∷ UN ∷ [])
unfolding opcodes
checked_conversions = refl

conversions_of_unsigned_numbers : each (0x82 ∷ 0x83 ∷ 0x84 ∷ 0x85 ∷ 0x86 ∷ 0x87 ∷ 0x88 ∷ 0x89 ∷ 0x8A ∷ 0x8B ∷ [])
    ≡ map (λ to. ConvertChecked to false) (I1 ∷ I2 ∷ I4 ∷ I8 ∷ U1 ∷ U2 ∷ U4 ∷ U8 ∷ N ∷ UN ∷ [])
unfolding opcodes
conversions_of_unsigned_numbers = refl

-- ELEMENTS of arrays: `ldelem` and `stelem`

loads : each (0x90 ∷ 0x91 ∷ 0x92 ∷ 0x93 ∷ 0x94 ∷ 0x95 ∷ 0x96 ∷ 0x97 ∷ [])
    ≡ map (λ integer. Element false (Integer integer)) (I1 ∷ U1 ∷ I2 ∷ U2 ∷ I4 ∷ U4 ∷ I8 ∷ N ∷ [])
unfolding opcodes
loads = refl

-- a body that stores wider numbers gives Element true (Integer I4) for the third
stores : each (0x9B ∷ 0x9C ∷ 0x9D ∷ 0x9E ∷ 0x9F ∷ []) ≡ map (λ integer. Element true (Integer integer)) (N ∷ I1 ∷ I2 ∷ I4 ∷ I8 ∷ [])
unfolding opcodes
stores = refl

references : each (0x9A ∷ 0xA2 ∷ []) ≡ Element false Reference ∷ Element true Reference ∷ []
unfolding opcodes
references = refl

-- THE REST that has neither an operand nor a type

nothing_and_a_break : each (0x00 ∷ 0x01 ∷ []) ≡ Nop false ∷ Nop true ∷ []
unfolding opcodes
nothing_and_a_break = refl

throws : each (0x7A ∷ 0xFE1A ∷ []) ≡ Throw false ∷ Throw true ∷ []
unfolding opcodes
throws = refl

returns_and_ends : each (0x2A ∷ 0xDC ∷ 0x8E ∷ []) ≡ Return ∷ EndFinally ∷ Length ∷ []
unfolding opcodes
returns_and_ends = refl
