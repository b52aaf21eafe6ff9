-- Damaged bodies, each with its first fault and the byte at which it is.
use Rattle.std.proofs.Common.{◌≡◌, [], ◌∷◌, Err, refl}
use Rattle.px_code.specs.Body.{body_of}
use Rattle.px_code.specs.declared.body.BodyKind.TheVariants.{BadHeader, BadOpcode, BadTarget, Cut}
use Rattle.px_facts_load.proofs.BodyWords.{parts}

-- HEADERS of one byte, whose low bits are 10 and whose others say how long the code is

nothing : body_of [] ≡ Err (Cut, 0)
unfolding parts
nothing = refl

low_bits_00 : body_of (0x00 ∷ 0x2A ∷ []) ≡ Err (BadHeader, 0)
unfolding parts
low_bits_00 = refl

low_bits_01 : body_of (0x05 ∷ 0x2A ∷ []) ≡ Err (BadHeader, 0)
unfolding parts
low_bits_01 = refl

no_code : body_of (0x02 ∷ []) ≡ Err (BadHeader, 0)
unfolding parts
no_code = refl

no_code_and_a_byte_after : body_of (0x02 ∷ 0x2A ∷ []) ≡ Err (BadHeader, 0)
unfolding parts
no_code_and_a_byte_after = refl

code_of_one_byte_that_is_missing : body_of (0x06 ∷ []) ≡ Err (Cut, 1)
unfolding parts
code_of_one_byte_that_is_missing = refl

-- a reader that takes what is there gives the first six instructions
code_without_its_last_byte : body_of (0x22 ∷ 0x02 ∷ 0x1D ∷ 0x2E ∷ 0x02 ∷ 0x16 ∷ 0x2A ∷ 0x17 ∷ []) ≡ Err (Cut, 8)
unfolding parts
code_without_its_last_byte = refl

-- HEADERS of twelve bytes, whose low bits are 11; their own size stands in the top half of the second byte, and that of the code at 4

a_header_of_one_byte : body_of (0x03 ∷ []) ≡ Err (Cut, 1)
unfolding parts
a_header_of_one_byte = refl

a_header_of_eleven_bytes : body_of (0x03 ∷ 0x20 ∷ 8 ∷ 0 ∷ 0 ∷ 0 ∷ 0 ∷ 0 ∷ 0 ∷ 0 ∷ 0 ∷ []) ≡ Err (Cut, 11)
unfolding parts
a_header_of_eleven_bytes = refl

a_header_that_says_it_has_two_words : body_of (0x03 ∷ 0x20 ∷ 8 ∷ 0 ∷ 9 ∷ 0 ∷ 0 ∷ 0 ∷ 0 ∷ 0 ∷ 0 ∷ 0 ∷ []) ≡ Err (BadHeader, 0)
unfolding parts
a_header_that_says_it_has_two_words = refl

a_header_that_says_it_has_four_words : body_of (0x03 ∷ 0x40 ∷ 8 ∷ 0 ∷ 1 ∷ 0 ∷ 0 ∷ 0 ∷ 0 ∷ 0 ∷ 0 ∷ 0 ∷ 0x2A ∷ []) ≡ Err (BadHeader, 0)
unfolding parts
a_header_that_says_it_has_four_words = refl

a_size_in_the_wrong_half : body_of (0x03 ∷ 0x03 ∷ 8 ∷ 0 ∷ 1 ∷ 0 ∷ 0 ∷ 0 ∷ 0 ∷ 0 ∷ 0 ∷ 0 ∷ 0x2A ∷ []) ≡ Err (BadHeader, 0)
unfolding parts
a_size_in_the_wrong_half = refl

no_code_after_twelve_bytes : body_of (0x03 ∷ 0x30 ∷ 8 ∷ 0 ∷ 0 ∷ 0 ∷ 0 ∷ 0 ∷ 0 ∷ 0 ∷ 0 ∷ 0 ∷ 0x2A ∷ []) ≡ Err (BadHeader, 0)
unfolding parts
no_code_after_twelve_bytes = refl

code_of_one_byte_that_is_missing_after_twelve : body_of (0x03 ∷ 0x30 ∷ 8 ∷ 0 ∷ 1 ∷ 0 ∷ 0 ∷ 0 ∷ 0 ∷ 0 ∷ 0 ∷ 0 ∷ []) ≡ Err (Cut, 12)
unfolding parts
code_of_one_byte_that_is_missing_after_twelve = refl

code_of_65537_bytes : body_of (0x03 ∷ 0x30 ∷ 8 ∷ 0 ∷ 1 ∷ 0 ∷ 1 ∷ 0 ∷ 0 ∷ 0 ∷ 0 ∷ 0 ∷ 0x2A ∷ []) ≡ Err (Cut, 13)
unfolding parts
code_of_65537_bytes = refl

code_of_the_largest_size : body_of (0x13 ∷ 0x30 ∷ 8 ∷ 0 ∷ 0xFF ∷ 0xFF ∷ 0xFF ∷ 0xFF ∷ 0 ∷ 0 ∷ 0 ∷ 0 ∷ 0x2A ∷ []) ≡ Err (Cut, 13)
unfolding parts
code_of_the_largest_size = refl

-- NUMBERS THAT ARE NO OPCODES

opcode_24 : body_of (0x06 ∷ 0x24 ∷ []) ≡ Err (BadOpcode, 1)
unfolding parts
opcode_24 = refl

opcode_77_after_another : body_of (0x0A ∷ 0x2A ∷ 0x77 ∷ []) ≡ Err (BadOpcode, 2)
unfolding parts
opcode_77_after_another = refl

opcode_FF : body_of (0x06 ∷ 0xFF ∷ []) ≡ Err (BadOpcode, 1)
unfolding parts
opcode_FF = refl

opcode_FE_08 : body_of (0x0A ∷ 0xFE ∷ 0x08 ∷ []) ≡ Err (BadOpcode, 2)
unfolding parts
opcode_FE_08 = refl

opcode_FE_22_after_another : body_of (0x0E ∷ 0x2A ∷ 0xFE ∷ 0x22 ∷ []) ≡ Err (BadOpcode, 3)
unfolding parts
opcode_FE_22_after_another = refl

opcode_C4_after_twelve_bytes : body_of (0x03 ∷ 0x30 ∷ 8 ∷ 0 ∷ 2 ∷ 0 ∷ 0 ∷ 0 ∷ 0 ∷ 0 ∷ 0 ∷ 0 ∷ 0x2A ∷ 0xC4 ∷ []) ≡ Err (BadOpcode, 13)
unfolding parts
opcode_C4_after_twelve_bytes = refl

-- opcodes are looked at before branches
opcode_24_after_a_branch_to_nowhere : body_of (0x0E ∷ 0x2B ∷ 0x7F ∷ 0x24 ∷ []) ≡ Err (BadOpcode, 3)
unfolding parts
opcode_24_after_a_branch_to_nowhere = refl

-- OPCODES AND OPERANDS that pass the end of the code, even where bytes follow it

half_an_opcode : body_of (0x0A ∷ 0x2A ∷ 0xFE ∷ 0x01 ∷ []) ≡ Err (Cut, 3)
unfolding parts
half_an_opcode = refl

no_number_of_one_byte : body_of (0x06 ∷ 0x1F ∷ []) ≡ Err (Cut, 2)
unfolding parts
no_number_of_one_byte = refl

a_number_after_the_code : body_of (0x06 ∷ 0x1F ∷ 0x2A ∷ []) ≡ Err (Cut, 2)
unfolding parts
a_number_after_the_code = refl

three_of_four_bytes : body_of (0x12 ∷ 0x20 ∷ 0x01 ∷ 0x02 ∷ 0x03 ∷ 0x04 ∷ []) ≡ Err (Cut, 2)
unfolding parts
three_of_four_bytes = refl

seven_of_eight_bytes : body_of (0x22 ∷ 0x21 ∷ 0x01 ∷ 0x02 ∷ 0x03 ∷ 0x04 ∷ 0x05 ∷ 0x06 ∷ 0x07 ∷ []) ≡ Err (Cut, 2)
unfolding parts
seven_of_eight_bytes = refl

one_of_two_bytes : body_of (0x0E ∷ 0xFE ∷ 0x0C ∷ 0x00 ∷ []) ≡ Err (Cut, 3)
unfolding parts
one_of_two_bytes = refl

no_number_after_an_opcode_of_two_bytes : body_of (0x0E ∷ 0x2A ∷ 0xFE ∷ 0x12 ∷ []) ≡ Err (Cut, 4)
unfolding parts
no_number_after_an_opcode_of_two_bytes = refl

three_bytes_of_a_token : body_of (0x16 ∷ 0xFE ∷ 0x15 ∷ 0x01 ∷ 0x00 ∷ 0x00 ∷ []) ≡ Err (Cut, 3)
unfolding parts
three_bytes_of_a_token = refl

no_target_of_one_byte : body_of (0x0A ∷ 0x00 ∷ 0x2B ∷ []) ≡ Err (Cut, 3)
unfolding parts
no_target_of_one_byte = refl

three_bytes_of_a_target : body_of (0x12 ∷ 0x38 ∷ 0x00 ∷ 0x00 ∷ 0x00 ∷ []) ≡ Err (Cut, 2)
unfolding parts
three_bytes_of_a_target = refl

-- SWITCHES

three_bytes_of_a_count : body_of (0x12 ∷ 0x45 ∷ 0x01 ∷ 0x00 ∷ 0x00 ∷ []) ≡ Err (Cut, 2)
unfolding parts
three_bytes_of_a_count = refl

three_bytes_of_a_count_after_another : body_of (0x16 ∷ 0x00 ∷ 0x45 ∷ 0x00 ∷ 0x00 ∷ 0x00 ∷ []) ≡ Err (Cut, 3)
unfolding parts
three_bytes_of_a_count_after_another = refl

no_target_of_one : body_of (0x16 ∷ 0x45 ∷ 0x01 ∷ 0x00 ∷ 0x00 ∷ 0x00 ∷ []) ≡ Err (Cut, 2)
unfolding parts
no_target_of_one = refl

one_target_of_two : body_of (0x26 ∷ 0x45 ∷ 0x02 ∷ 0x00 ∷ 0x00 ∷ 0x00 ∷ 0x00 ∷ 0x00 ∷ 0x00 ∷ 0x00 ∷ []) ≡ Err (Cut, 2)
unfolding parts
one_target_of_two = refl

the_largest_count : body_of (0x1A ∷ 0x45 ∷ 0xFF ∷ 0xFF ∷ 0xFF ∷ 0xFF ∷ 0x2A ∷ []) ≡ Err (Cut, 2)
unfolding parts
the_largest_count = refl

a_target_after_the_end : body_of (0x2A ∷ 0x45 ∷ 0x01 ∷ 0x00 ∷ 0x00 ∷ 0x00 ∷ 0x01 ∷ 0x00 ∷ 0x00 ∷ 0x00 ∷ 0x2A ∷ []) ≡ Err (BadTarget, 1)
unfolding parts
a_target_after_the_end = refl

a_target_far_after_the_end : body_of (0x2A ∷ 0x45 ∷ 0x01 ∷ 0x00 ∷ 0x00 ∷ 0x00 ∷ 0xFF ∷ 0xFF ∷ 0xFF ∷ 0x7F ∷ 0x2A ∷ []) ≡ Err (BadTarget, 1)
unfolding parts
a_target_far_after_the_end = refl

a_second_target_in_the_switch : body_of (0x3A ∷ 0x45 ∷ 0x02 ∷ 0x00 ∷ 0x00 ∷ 0x00 ∷ 0x00 ∷ 0x00 ∷ 0x00 ∷ 0x00 ∷ 0xF7 ∷ 0xFF ∷ 0xFF ∷ 0xFF ∷ 0x2A ∷ []) ≡
    Err (BadTarget, 1)
unfolding parts
a_second_target_in_the_switch = refl

-- BRANCHES

before_the_code : body_of (0x0A ∷ 0x2B ∷ 0xFD ∷ []) ≡ Err (BadTarget, 1)
unfolding parts
before_the_code = refl

far_before_the_code : body_of (0x12 ∷ 0x00 ∷ 0x2B ∷ 0x80 ∷ 0x2A ∷ []) ≡ Err (BadTarget, 2)
unfolding parts
far_before_the_code = refl

-- a reader that allows branches into the operand at 1 gives the two instructions
into_its_own_operand : body_of (0x0E ∷ 0x2B ∷ 0xFF ∷ 0x2A ∷ []) ≡ Err (BadTarget, 1)
unfolding parts
into_its_own_operand = refl

to_the_end : body_of (0x0A ∷ 0x2B ∷ 0x00 ∷ []) ≡ Err (BadTarget, 1)
unfolding parts
to_the_end = refl

far_after_the_end : body_of (0x0A ∷ 0x2B ∷ 0x7F ∷ []) ≡ Err (BadTarget, 1)
unfolding parts
far_after_the_end = refl

the_first_of_two : body_of (0x12 ∷ 0x2C ∷ 0x05 ∷ 0x2D ∷ 0x06 ∷ []) ≡ Err (BadTarget, 1)
unfolding parts
the_first_of_two = refl

the_second_of_two : body_of (0x12 ∷ 0x2C ∷ 0x00 ∷ 0x2D ∷ 0x06 ∷ []) ≡ Err (BadTarget, 3)
unfolding parts
the_second_of_two = refl

four_bytes_to_the_end : body_of (0x1A ∷ 0x38 ∷ 0x01 ∷ 0x00 ∷ 0x00 ∷ 0x00 ∷ 0x2A ∷ []) ≡ Err (BadTarget, 1)
unfolding parts
four_bytes_to_the_end = refl

four_bytes_before_the_code : body_of (0x1A ∷ 0x38 ∷ 0xFA ∷ 0xFF ∷ 0xFF ∷ 0xFF ∷ 0x2A ∷ []) ≡ Err (BadTarget, 1)
unfolding parts
four_bytes_before_the_code = refl

leaving_to_the_end : body_of (0x0E ∷ 0xDE ∷ 0x01 ∷ 0x2A ∷ []) ≡ Err (BadTarget, 1)
unfolding parts
leaving_to_the_end = refl

leaving_into_its_own_operand : body_of (0x1A ∷ 0xDD ∷ 0xFC ∷ 0xFF ∷ 0xFF ∷ 0xFF ∷ 0x2A ∷ []) ≡ Err (BadTarget, 1)
unfolding parts
leaving_into_its_own_operand = refl

into_an_opcode_of_two_bytes : body_of (0x12 ∷ 0x2B ∷ 0x01 ∷ 0xFE ∷ 0x01 ∷ []) ≡ Err (BadTarget, 1)
unfolding parts
into_an_opcode_of_two_bytes = refl

-- branches are looked at before sections
before_sections_that_are_missing : body_of (0x0B ∷ 0x30 ∷ 8 ∷ 0 ∷ 2 ∷ 0 ∷ 0 ∷ 0 ∷ 0 ∷ 0 ∷ 0 ∷ 0 ∷ 0x2B ∷ 0x00 ∷ []) ≡ Err (BadTarget, 12)
unfolding parts
before_sections_that_are_missing = refl
