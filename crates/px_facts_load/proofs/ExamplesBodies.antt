-- Bodies and what is read of them.
use Rattle.std.proofs.Common.{◌≡◌, ℕ, List, [], ◌∷◌, true, false, Ok, refl}
use Rattle.px_code.specs.Body.{body_of}
use Rattle.px_code.specs.declared.body.RawClause.{RawClause}
use Rattle.px_code.specs.declared.body.RawInstr.{RawInstr}
use Rattle.px_facts_load.proofs.BodyWords.{leads, parts, plain, tiny, with}

-- HEADERS OF ONE BYTE

a_sum : body_of (0x0A ∷ 0x58 ∷ 0x2A ∷ []) ≡ tiny (plain 0 1 0x58 ∷ plain 1 2 0x2A ∷ [])
unfolding parts
a_sum = refl

bytes_after_a_body_are_not_read : body_of (0x06 ∷ 0x2A ∷ 0xFE ∷ 0xFE ∷ []) ≡ tiny (plain 0 1 0x2A ∷ [])
unfolding parts
bytes_after_a_body_are_not_read = refl

a_branch_forward : body_of (0x22 ∷ 0x02 ∷ 0x1D ∷ 0x2E ∷ 0x02 ∷ 0x16 ∷ 0x2A ∷ 0x17 ∷ 0x2A ∷ []) ≡
    tiny (plain 0 1 0x02 ∷ plain 1 2 0x1D ∷ leads 2 4 0x2E (6 ∷ []) ∷ plain 4 5 0x16
    ∷ plain 5 6 0x2A ∷ plain 6 7 0x17 ∷ plain 7 8 0x2A ∷ [])
unfolding parts
a_branch_forward = refl

-- a reader in which branches never lead back gives Err (BadTarget, 1)
a_branch_to_itself : body_of (0x0A ∷ 0x2B ∷ 0xFE ∷ []) ≡ tiny (leads 0 2 0x2B (0 ∷ []) ∷ [])
unfolding parts
a_branch_to_itself = refl

a_call_by_its_token : body_of (0x32 ∷ 0x02 ∷ 0x1D ∷ 0x33 ∷ 0x06 ∷ 0x02 ∷ 0x28 ∷ 0x01 ∷ 0x00 ∷ 0x00 ∷ 0x0A ∷ 0x16 ∷ 0x2A ∷ []) ≡
    tiny (plain 0 1 0x02 ∷ plain 1 2 0x1D ∷ leads 2 4 0x33 (10 ∷ []) ∷ plain 4 5 0x02
    ∷ with 5 10 0x28 0x0A00_0001 ∷ plain 10 11 0x16 ∷ plain 11 12 0x2A ∷ [])
unfolding parts
a_call_by_its_token = refl

numbers_of_one_byte_and_of_four : body_of (0x1E ∷ 0x1F ∷ 0x80 ∷ 0x20 ∷ 0x04 ∷ 0x03 ∷ 0x02 ∷ 0xF1 ∷ 0xFF ∷ []) ≡
    tiny (with 0 2 0x1F 0x80 ∷ with 2 7 0x20 0xF102_0304 ∷ [])
unfolding parts
numbers_of_one_byte_and_of_four = refl

-- a reader that takes four bytes for the long number goes on at byte 5 of the code, and one that takes the first byte of an opcode for its second
-- gives Err (BadOpcode, 11)
a_number_of_eight_bytes_and_opcodes_of_two : body_of (0x3E ∷ 0x21 ∷ 0x01 ∷ 0x02 ∷ 0x03 ∷ 0x04 ∷ 0x05 ∷ 0x06 ∷ 0x07 ∷ 0x08 ∷ 0xFE ∷ 0x09 ∷ 0x34 ∷ 0x12 ∷ 0xFE ∷ 0x01
    ∷ 0xFF ∷ []) ≡
    tiny (with 0 9 0x21 0x0807_0605_0403_0201 ∷ with 9 13 0xFE09 0x1234 ∷ plain 13 15 0xFE01 ∷ [])
unfolding parts
a_number_of_eight_bytes_and_opcodes_of_two = refl

-- SWITCHES

-- a reader that reads the targets two bytes apart gives Err (BadTarget, 2)
a_switch_over_three : body_of (0x6A ∷ 0x02 ∷ 0x45 ∷ 0x03 ∷ 0x00 ∷ 0x00 ∷ 0x00 ∷ 0x02 ∷ 0x00 ∷ 0x00 ∷ 0x00 ∷ 0x04 ∷ 0x00 ∷ 0x00 ∷ 0x00 ∷ 0x06
    ∷ 0x00 ∷ 0x00 ∷ 0x00 ∷ 0x15 ∷ 0x2A ∷ 0x16 ∷ 0x2A ∷ 0x17 ∷ 0x2A ∷ 0x18 ∷ 0x2A ∷ []) ≡
    tiny (plain 0 1 0x02 ∷ leads 1 18 0x45 (20 ∷ 22 ∷ 24 ∷ []) ∷ plain 18 19 0x15 ∷ plain 19 20 0x2A
    ∷ plain 20 21 0x16 ∷ plain 21 22 0x2A ∷ plain 22 23 0x17 ∷ plain 23 24 0x2A
    ∷ plain 24 25 0x18 ∷ plain 25 26 0x2A ∷ [])
unfolding parts
a_switch_over_three = refl

a_switch_over_none_and_one_that_leads_back : body_of (0x3A ∷ 0x45 ∷ 0x00 ∷ 0x00 ∷ 0x00 ∷ 0x00 ∷ 0x45 ∷ 0x01 ∷ 0x00 ∷ 0x00 ∷ 0x00 ∷ 0xF2 ∷ 0xFF ∷ 0xFF ∷ 0xFF ∷ []) ≡
    tiny (plain 0 5 0x45 ∷ leads 5 14 0x45 (0 ∷ []) ∷ [])
unfolding parts
a_switch_over_none_and_one_that_leads_back = refl

-- HEADERS OF TWELVE BYTES

-- three values on the stack, and locals that start as zero: the header, and the code
abbrev summing : List ℕ
summing =
    0x13 ∷ 0x30 ∷ 3 ∷ 0 ∷ 0x2E ∷ 0 ∷ 0 ∷ 0 ∷ 1 ∷ 0 ∷ 0 ∷ 0x11
    ∷ 0x02 ∷ 0x8E ∷ 0x2D ∷ 0x02 ∷ 0x16 ∷ 0x2A ∷ 0x16 ∷ 0x0A ∷ 0x16 ∷ 0x0B ∷ 0x2B ∷ 0x0A ∷ 0x06 ∷ 0x02 ∷ 0x07 ∷ 0x94
    ∷ 0x58 ∷ 0x0A ∷ 0x07 ∷ 0x17 ∷ 0x58 ∷ 0x0B ∷ 0x07 ∷ 0x02 ∷ 0x8E ∷ 0x69 ∷ 0x32 ∷ 0xF0 ∷ 0x06 ∷ 0x1F ∷ 0x2A ∷ 0x33
    ∷ 0x0B ∷ 0x72 ∷ 0x01 ∷ 0x00 ∷ 0x00 ∷ 0x70 ∷ 0x73 ∷ 0x01 ∷ 0x00 ∷ 0x00 ∷ 0x0A ∷ 0x7A ∷ 0x06 ∷ 0x2A ∷ []

abbrev code_of_summing : List RawInstr
code_of_summing =
    plain 0 1 0x02 ∷ plain 1 2 0x8E ∷ leads 2 4 0x2D (6 ∷ []) ∷ plain 4 5 0x16 ∷ plain 5 6 0x2A
    ∷ plain 6 7 0x16 ∷ plain 7 8 0x0A ∷ plain 8 9 0x16 ∷ plain 9 10 0x0B ∷ leads 10 12 0x2B (22 ∷ [])
    ∷ plain 12 13 0x06 ∷ plain 13 14 0x02 ∷ plain 14 15 0x07 ∷ plain 15 16 0x94 ∷ plain 16 17 0x58
    ∷ plain 17 18 0x0A ∷ plain 18 19 0x07 ∷ plain 19 20 0x17 ∷ plain 20 21 0x58 ∷ plain 21 22 0x0B
    ∷ plain 22 23 0x07 ∷ plain 23 24 0x02 ∷ plain 24 25 0x8E ∷ plain 25 26 0x69 ∷ leads 26 28 0x32 (12 ∷ [])
    ∷ plain 28 29 0x06 ∷ with 29 31 0x1F 42 ∷ leads 31 33 0x33 (44 ∷ []) ∷ with 33 38 0x72 0x7000_0001 ∷ with 38 43 0x73 0x0A00_0001
    ∷ plain 43 44 0x7A ∷ plain 44 45 0x06 ∷ plain 45 46 0x2A ∷ []

-- a reader that exchanges the flags of the header looks for sections after the code and gives Err (Cut, 58)
locals_start_as_zero : body_of summing ≡
    Ok (record { max_stack = 3; init_locals = true; locals_token = 0x1100_0001; code = code_of_summing; clauses = [] })
unfolding parts
locals_start_as_zero = refl

-- two values on the stack, no locals, and a finally clause: the header, the code, and a section
abbrev guarding : List ℕ
guarding =
    0x0B ∷ 0x30 ∷ 2 ∷ 0 ∷ 14 ∷ 0 ∷ 0 ∷ 0 ∷ 0 ∷ 0 ∷ 0 ∷ 0
    ∷ 0x17 ∷ 0x02 ∷ 0x5B ∷ 0x26 ∷ 0xDE ∷ 0x06 ∷ 0x02 ∷ 0x2D ∷ 0x02 ∷ 0x14 ∷ 0x7A ∷ 0xDC ∷ 0x16 ∷ 0x2A ∷ 0 ∷ 0
    ∷ 0x01 ∷ 16 ∷ 0 ∷ 0 ∷ 2 ∷ 0 ∷ 0 ∷ 0 ∷ 6 ∷ 6 ∷ 0 ∷ 6 ∷ 0 ∷ 0 ∷ 0 ∷ 0 ∷ []

abbrev code_of_guarding : List RawInstr
code_of_guarding =
    plain 0 1 0x17 ∷ plain 1 2 0x02 ∷ plain 2 3 0x5B ∷ plain 3 4 0x26 ∷ leads 4 6 0xDE (12 ∷ [])
    ∷ plain 6 7 0x02 ∷ leads 7 9 0x2D (11 ∷ []) ∷ plain 9 10 0x14 ∷ plain 10 11 0x7A ∷ plain 11 12 0xDC
    ∷ plain 12 13 0x16 ∷ plain 13 14 0x2A ∷ []

abbrev finally : RawClause
finally = record { flags = 2; from = 0; to = 6; start = 6; stop = 12; class = 0 }

a_finally_clause : body_of guarding ≡
    Ok (record { max_stack = 2; init_locals = false; locals_token = 0; code = code_of_guarding; clauses = finally ∷ [] })
unfolding parts
a_finally_clause = refl

-- one value on the stack, and locals that start as zero: the header, the code, and three sections. The first is of another kind, with a size that
-- is no multiple of 4, the second has a clause of 24 bytes, and the third two of 12 bytes.
abbrev three_sections : List ℕ
three_sections =
    0x1B ∷ 0x30 ∷ 1 ∷ 0 ∷ 3 ∷ 0 ∷ 0 ∷ 0 ∷ 0 ∷ 0 ∷ 0 ∷ 0
    ∷ 0x00 ∷ 0x00 ∷ 0x2A ∷ 0x00
    ∷ 0x82 ∷ 5 ∷ 0 ∷ 0 ∷ 0xFF ∷ 0xFF ∷ 0xFF ∷ 0xFF
    ∷ 0xC1 ∷ 28 ∷ 0 ∷ 0
    ∷ 1 ∷ 0 ∷ 0 ∷ 0 ∷ 0 ∷ 0 ∷ 0 ∷ 0 ∷ 1 ∷ 0 ∷ 0 ∷ 0 ∷ 1 ∷ 0 ∷ 0 ∷ 0 ∷ 2 ∷ 0 ∷ 0 ∷ 0 ∷ 7 ∷ 0 ∷ 0 ∷ 0
    ∷ 0x01 ∷ 28 ∷ 0 ∷ 0
    ∷ 0 ∷ 0 ∷ 0 ∷ 0 ∷ 2 ∷ 2 ∷ 0 ∷ 1 ∷ 1 ∷ 0 ∷ 0 ∷ 1
    ∷ 4 ∷ 0 ∷ 1 ∷ 0 ∷ 1 ∷ 0 ∷ 0 ∷ 1 ∷ 0 ∷ 0 ∷ 0 ∷ 0 ∷ []

abbrev filter : RawClause
filter = record { flags = 1; from = 0; to = 1; start = 1; stop = 3; class = 7 }

abbrev catch : RawClause
catch = record { flags = 0; from = 0; to = 2; start = 2; stop = 3; class = 0x0100_0001 }

abbrev fault : RawClause
fault = record { flags = 4; from = 1; to = 2; start = 0; stop = 1; class = 0 }

-- A reader that drops the class of a clause has 1, 0 and 4 for 7, 0x0100_0001 and 0. One that adds the size of a section
-- to its aligned start gives Err (Cut, 80), and one that takes the length of a range for its end gives Err (BadClause, 68).
clauses_of_three_sections : body_of three_sections ≡ Ok (record {
  max_stack = 1;
  init_locals = true;
  locals_token = 0;
  code = plain 0 1 0x00 ∷ plain 1 2 0x00 ∷ plain 2 3 0x2A ∷ [];
  clauses = filter ∷ catch ∷ fault ∷ [];
})
unfolding parts
clauses_of_three_sections = refl
