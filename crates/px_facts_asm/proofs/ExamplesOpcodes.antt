-- Instructions to what they do and back: by the opcode, the operand and the targets of what does the same in as many bytes.
use Rattle.std.proofs.Common.{◌≡◌, ℕ, ◌+◌, List, [], ◌∷◌, refl, map, Option, Some, None, arith}
use Rattle.px_code.specs.Body.{operand_of}
use Rattle.px_link_opcodes.specs.Opcodes.{plain_code}
use Rattle.px_asm_opcodes.specs.Choosing.{opcode_by, operand_by}
use Rattle.px_asm_opcodes.specs.Recoding.{IsRawOf}
use Rattle.px_program.specs.Formed.{targets_of}
use Rattle.px_program.specs.declared.instr.Callee.TheVariants.{Method}
use Rattle.px_program.specs.declared.instr.Code.{Code}
use Rattle.px_program.specs.declared.instr.Code.TheVariants.{Branch, Call, Move, Return}
use Rattle.px_facts_link.proofs.InstrWords.{opcodes}
use Rattle.px_program.specs.declared.instr.Move.TheVariants.{Constant32}

-- what an instruction does in so many bytes, as it is written: its opcode, its operand and its targets
abbrev written : ℕ → Option Code → ℕ × ℕ × List ℕ
written size None = (0, 0, [])
written size (Some code) = (opcode_by code size, operand_by code size, targets_of code)

-- an instruction at offset 16, as it comes back
abbrev back : ℕ → ℕ → ℕ → List ℕ → ℕ × ℕ × List ℕ
back opcode operand size targets =
    written size (plain_code (record { offset = 16; next = 16 + size; opcode = opcode; operand = operand; targets = targets }))

-- WITHOUT AN OPERAND: each comes back in as many bytes

abbrev ComeBack : ℕ → List ℕ → Type 0
ComeBack size numbers = map (λ opcode. back opcode 0 size []) numbers ≡ map (λ opcode. (opcode, 0, [])) numbers

-- a body that takes arguments for locals gives 0x02 for 0x06
slots_0_to_3 : ComeBack 1 (0x02 ∷ 0x03 ∷ 0x04 ∷ 0x05 ∷ 0x06 ∷ 0x07 ∷ 0x08 ∷ 0x09 ∷ 0x0A ∷ 0x0B ∷ 0x0C ∷ 0x0D ∷ [])
unfolding opcodes
slots_0_to_3 = refl

small_constants_and_moves_on_the_stack : ComeBack 1 (0x14 ∷ 0x15 ∷ 0x16 ∷ 0x17 ∷ 0x18 ∷ 0x19 ∷ 0x1A ∷ 0x1B ∷ 0x1C ∷ 0x1D ∷ 0x1E ∷ 0x25 ∷ 0x26 ∷ [])
unfolding opcodes
small_constants_and_moves_on_the_stack = refl

arithmetic : ComeBack 1 (0x58 ∷ 0x59 ∷ 0x5A ∷ 0x5B ∷ 0x5C ∷ 0x5D ∷ 0x5E ∷ 0x5F ∷ 0x60 ∷ 0x61 ∷ 0x62 ∷ 0x63 ∷ 0x64 ∷ 0x65 ∷ 0x66 ∷ [])
unfolding opcodes
arithmetic = refl

checked_arithmetic : ComeBack 1 (0xD6 ∷ 0xD7 ∷ 0xD8 ∷ 0xD9 ∷ 0xDA ∷ 0xDB ∷ [])
unfolding opcodes
checked_arithmetic = refl

conversions : ComeBack 1 (0x67 ∷ 0x68 ∷ 0x69 ∷ 0x6A ∷ 0x6D ∷ 0x6E ∷ 0xD1 ∷ 0xD2 ∷ 0xD3 ∷ 0xE0 ∷ [])
unfolding opcodes
conversions = refl

checked_conversions : ComeBack 1 (0xB3 ∷ 0xB4 ∷ 0xB5 ∷ 0xB6 ∷ 0xB7 ∷ 0xB8 ∷ 0xB9 ∷ 0xBA ∷ 0xD4 ∷ 0xD5 ∷ [])
unfolding opcodes
checked_conversions = refl

conversions_of_unsigned_numbers : ComeBack 1 (0x82 ∷ 0x83 ∷ 0x84 ∷ 0x85 ∷ 0x86 ∷ 0x87 ∷ 0x88 ∷ 0x89 ∷ 0x8A ∷ 0x8B ∷ [])
unfolding opcodes
conversions_of_unsigned_numbers = refl

elements : ComeBack 1 (0x90 ∷ 0x91 ∷ 0x92 ∷ 0x93 ∷ 0x94 ∷ 0x95 ∷ 0x96 ∷ 0x97 ∷ 0x9A ∷ 0x9B ∷ 0x9C ∷ 0x9D ∷ 0x9E ∷ 0x9F ∷ 0xA2 ∷ [])
unfolding opcodes
elements = refl

all_others : ComeBack 1 (0x00 ∷ 0x01 ∷ 0x2A ∷ 0x7A ∷ 0x8E ∷ 0xDC ∷ [])
unfolding opcodes
all_others = refl

opcodes_of_two_bytes : ComeBack 2 (0xFE01 ∷ 0xFE02 ∷ 0xFE03 ∷ 0xFE04 ∷ 0xFE05 ∷ 0xFE1A ∷ [])
unfolding opcodes
opcodes_of_two_bytes = refl

-- WITH A NUMBER

abbrev NumbersComeBack : ℕ → ℕ → List ℕ → Type 0
NumbersComeBack opcode size operands = map (λ operand. back opcode operand size []) operands ≡ map (λ operand. (opcode, operand, [])) operands

arguments_of_one_byte : NumbersComeBack 0x0E 2 (0 ∷ 255 ∷ [])
unfolding opcodes
arguments_of_one_byte = refl

a_store_to_an_argument_of_one_byte : NumbersComeBack 0x10 2 (4 ∷ [])
unfolding opcodes
a_store_to_an_argument_of_one_byte = refl

a_local_of_one_byte : NumbersComeBack 0x11 2 (1 ∷ [])
unfolding opcodes
a_local_of_one_byte = refl

a_store_to_a_local_of_one_byte : NumbersComeBack 0x13 2 (6 ∷ [])
unfolding opcodes
a_store_to_a_local_of_one_byte = refl

an_argument_of_two_bytes : NumbersComeBack 0xFE09 4 (258 ∷ [])
unfolding opcodes
an_argument_of_two_bytes = refl

a_store_to_an_argument_of_two_bytes : NumbersComeBack 0xFE0B 4 (3 ∷ [])
unfolding opcodes
a_store_to_an_argument_of_two_bytes = refl

a_local_of_two_bytes : NumbersComeBack 0xFE0C 4 (0xFFFF ∷ [])
unfolding opcodes
a_local_of_two_bytes = refl

a_store_to_a_local_of_two_bytes : NumbersComeBack 0xFE0E 4 (261 ∷ [])
unfolding opcodes
a_store_to_a_local_of_two_bytes = refl

-- a body that keeps seven bits gives 0x00 and 0x7F for the last two
constants_of_one_byte : NumbersComeBack 0x1F 2 (0 ∷ 0x7F ∷ 0x80 ∷ 0xFF ∷ [])
unfolding opcodes
constants_of_one_byte = refl

constants_of_four_bytes : NumbersComeBack 0x20 5 (0 ∷ 8 ∷ 0x8000_0000 ∷ 0xFFFF_FFFF ∷ [])
unfolding opcodes
constants_of_four_bytes = refl

constants_of_eight_bytes : NumbersComeBack 0x21 9 (0 ∷ 0xFFFF_FFFF ∷ 0xFFFF_FFFF_FFFF_FFFE ∷ [])
unfolding opcodes
constants_of_eight_bytes = refl

-- WITH TARGETS

abbrev TargetsComeBack : List ℕ → ℕ → List ℕ → Type 0
TargetsComeBack numbers size targets = map (λ opcode. back opcode 0 size targets) numbers ≡ map (λ opcode. (opcode, 0, targets)) numbers

-- a body that exchanges the two forms of `leave` gives 0xDD for the last
short_branches : TargetsComeBack (0x2B ∷ 0x2C ∷ 0x2D ∷ 0x2E ∷ 0x2F ∷ 0x30 ∷ 0x31 ∷ 0x32 ∷ 0x33 ∷ 0x34 ∷ 0x35 ∷ 0x36 ∷ 0x37 ∷ 0xDE ∷ []) 2 (9 ∷ [])
unfolding opcodes
short_branches = refl

long_branches : TargetsComeBack (0x38 ∷ 0x39 ∷ 0x3A ∷ 0x3B ∷ 0x3C ∷ 0x3D ∷ 0x3E ∷ 0x3F ∷ 0x40 ∷ 0x41 ∷ 0x42 ∷ 0x43 ∷ 0x44 ∷ 0xDD ∷ []) 5 (1000 ∷ [])
unfolding opcodes
long_branches = refl

-- a body that drops the targets gives []
a_switch : back 0x45 0 13 (29 ∷ 16 ∷ []) ≡ (0x45, 0, 29 ∷ 16 ∷ [])
unfolding opcodes
a_switch = refl

a_switch_of_no_targets : back 0x45 0 5 [] ≡ (0x45, 0, [])
unfolding opcodes
a_switch_of_no_targets = refl

-- WHOLE INSTRUCTIONS: what can be written, stands where the other does, and does the same

a_return : IsRawOf (record { offset = 7; next = 8; code = Return }) 0 (record { offset = 7; next = 8; opcode = 0x2A; operand = 0; targets = [] })
unfolding opcodes operand_of
a_return = record {
  encodable = record { opcode = refl; operand = record { size_is = refl; fits = omega arith; no_targets = refl } };
  placed = record { offset = refl; next = refl };
  does = refl;
}

-- the constant -5 in one byte
a_constant : IsRawOf (record { offset = 3; next = 5; code = Move (Constant32 0xFFFF_FFFB) }) 0
    (record { offset = 3; next = 5; opcode = 0x1F; operand = 0xFB; targets = [] })
unfolding opcodes operand_of
a_constant = record {
  encodable = record { opcode = refl; operand = record { size_is = refl; fits = omega arith; no_targets = refl } };
  placed = record { offset = refl; next = refl };
  does = refl;
}

-- a branch of two bytes back to offset 5
a_branch : IsRawOf (record { offset = 10; next = 12; code = Branch 5 }) 0
    (record { offset = 10; next = 12; opcode = 0x2B; operand = 0; targets = 5 ∷ [] })
unfolding opcodes operand_of
a_branch = record {
  encodable = record {
    opcode = refl;
    operand = record { size_is = refl; no_number = refl; target = 5; is = refl; leads = record { operand = 0xF9; fits = omega arith; leads = refl } };
  };
  placed = record { offset = refl; next = refl };
  does = refl;
}

a_call : IsRawOf (record { offset = 5; next = 10; code = Call (Method 3) }) 0x0600_0004
    (record { offset = 5; next = 10; opcode = 0x28; operand = 0x0600_0004; targets = [] })
unfolding opcodes operand_of
a_call = record {
  encodable = record { opcode = refl; operand = record { size_is = refl; fits = omega arith; no_targets = refl } };
  placed = record { offset = refl; next = refl };
  does = record { opcode_is = refl; token_is = refl; no_targets = refl };
}
