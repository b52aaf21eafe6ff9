-- Bodies as they are read, as they are written, and as they are read again.
use Rattle.std.proofs.Common.{◌≡◌, ℕ, ◌+◌, ◌*◌, List, [], ◌∷◌, refl, true, false, Ok}
use Rattle.px_asm_bodies.specs.Bytes.{body_bytes, clause_bytes, code_bytes, distances_bytes, header_bytes, instr_bytes, little_bytes, section_bytes}
use Rattle.px_code.specs.Body.{body_of, instr_at, instrs_from, operand_of, sections_from}
use Rattle.px_code.specs.declared.body.Body.{Body}
use Rattle.px_code.specs.declared.body.RawInstr.{RawInstr}

-- all of reading and writing: a fact that opens it computes with both
unfoldable rewriting : Type 0
unfolding body_of instr_at instrs_from operand_of sections_from body_bytes clause_bytes code_bytes distances_bytes header_bytes instr_bytes little_bytes
    section_bytes
rewriting = Unit {0}

-- the bytes are read as the body, which is written as other bytes; they are read as the same body
abbrev IsRewritten : List ℕ → Body → List ℕ → Type 0
IsRewritten bytes body written = (body_of bytes ≡ Ok body) × (body_bytes body ≡ written) × (body_of written ≡ Ok body)

-- an instruction without an operand
abbrev alone : ℕ → ℕ → RawInstr
alone offset opcode = record { offset = offset; next = offset + 1; opcode = opcode; operand = 0; targets = [] }

a_header_of_one_byte : IsRewritten (0x0A ∷ 0x02 ∷ 0x2A ∷ [])
    (record { max_stack = 8; init_locals = false; locals_token = 0; code = alone 0 0x02 ∷ alone 1 0x2A ∷ []; clauses = [] })
    (0x03 ∷ 0x30 ∷ 8 ∷ 0 ∷ 2 ∷ 0 ∷ 0 ∷ 0 ∷ 0 ∷ 0 ∷ 0 ∷ 0 ∷ 0x02 ∷ 0x2A ∷ 0 ∷ 0 ∷ [])
unfolding rewriting
a_header_of_one_byte = (refl, refl, refl)

-- by three, in one byte; a body that pads what is aligned gives four zeros more
a_branch_back : IsRewritten (0x12 ∷ 0x00 ∷ 0x2B ∷ 0xFD ∷ 0x2A ∷ [])
    (record {
      max_stack = 8;
      init_locals = false;
      locals_token = 0;
      code = alone 0 0x00 ∷ record { offset = 1; next = 3; opcode = 0x2B; operand = 0; targets = 0 ∷ [] } ∷ alone 3 0x2A ∷ [];
      clauses = [];
    })
    (0x03 ∷ 0x30 ∷ 8 ∷ 0 ∷ 4 ∷ 0 ∷ 0 ∷ 0 ∷ 0 ∷ 0 ∷ 0 ∷ 0 ∷ 0x00 ∷ 0x2B ∷ 0xFD ∷ 0x2A ∷ [])
unfolding rewriting
a_branch_back = (refl, refl, refl)

-- with locals that start as zero; a body that shortens long constants gives four bytes of it
a_constant_of_eight_bytes : IsRewritten
    (0x13 ∷ 0x30 ∷ 1 ∷ 0 ∷ 11 ∷ 0 ∷ 0 ∷ 0 ∷ 1 ∷ 0 ∷ 0 ∷ 0x11 ∷ 0x21 ∷ 1 ∷ 2 ∷ 3 ∷ 4 ∷ 5 ∷ 6 ∷ 7 ∷ 0x88 ∷ 0x26 ∷ 0x2A ∷ [])
    (record {
      max_stack = 1;
      init_locals = true;
      locals_token = 0x1100_0001;
      code = record { offset = 0; next = 9; opcode = 0x21; operand = 0x8807_0605_0403_0201; targets = [] } ∷ alone 9 0x26 ∷ alone 10 0x2A ∷ [];
      clauses = [];
    })
    (0x13 ∷ 0x30 ∷ 1 ∷ 0 ∷ 11 ∷ 0 ∷ 0 ∷ 0 ∷ 1 ∷ 0 ∷ 0 ∷ 0x11 ∷ 0x21 ∷ 1 ∷ 2 ∷ 3 ∷ 4 ∷ 5 ∷ 6 ∷ 7 ∷ 0x88 ∷ 0x26 ∷ 0x2A ∷ 0 ∷ [])
unfolding rewriting
a_constant_of_eight_bytes = (refl, refl, refl)

-- A switch that leads on and back by fourteen, a branch on by one and one back by twenty-three, and a finally clause, which is read in twelve bytes.
-- A body that counts one target more gives 3 for the switch; one that counts the header in the code 43 for its 31 bytes; one that counts the clause alone
-- 24 for the section's 28.
what_is_guarded : IsRewritten
    (0x1B ∷ 0x30 ∷ 2 ∷ 0 ∷ 31 ∷ 0 ∷ 0 ∷ 0 ∷ 1 ∷ 0 ∷ 0 ∷ 0x11
    ∷ 0x02 ∷ 0x45 ∷ 2 ∷ 0 ∷ 0 ∷ 0 ∷ 0 ∷ 0 ∷ 0 ∷ 0 ∷ 0xF2 ∷ 0xFF ∷ 0xFF ∷ 0xFF ∷ 0x00 ∷ 0xDE ∷ 1 ∷ 0xDC ∷ 0x38 ∷ 0xE9 ∷ 0xFF ∷ 0xFF ∷ 0xFF
    ∷ 0x20 ∷ 0x78 ∷ 0x56 ∷ 0x34 ∷ 0x12 ∷ 0xFE ∷ 0x01 ∷ 0x2A ∷ 0
    ∷ 0x01 ∷ 16 ∷ 0 ∷ 0 ∷ 2 ∷ 0 ∷ 14 ∷ 0 ∷ 3 ∷ 17 ∷ 0 ∷ 1 ∷ 0 ∷ 0 ∷ 0 ∷ 0 ∷ [])
    (record {
      max_stack = 2;
      init_locals = true;
      locals_token = 0x1100_0001;
      code =
          alone 0 0x02
          ∷ record { offset = 1; next = 14; opcode = 0x45; operand = 0; targets = 14 ∷ 0 ∷ [] }
          ∷ alone 14 0x00
          ∷ record { offset = 15; next = 17; opcode = 0xDE; operand = 0; targets = 18 ∷ [] }
          ∷ alone 17 0xDC
          ∷ record { offset = 18; next = 23; opcode = 0x38; operand = 0; targets = 0 ∷ [] }
          ∷ record { offset = 23; next = 28; opcode = 0x20; operand = 0x1234_5678; targets = [] }
          ∷ record { offset = 28; next = 30; opcode = 0xFE01; operand = 0; targets = [] }
          ∷ alone 30 0x2A ∷ [];
      clauses = record { flags = 2; from = 14; to = 17; start = 17; stop = 18; class = 0 } ∷ [];
    })
    (0x1B ∷ 0x30 ∷ 2 ∷ 0 ∷ 31 ∷ 0 ∷ 0 ∷ 0 ∷ 1 ∷ 0 ∷ 0 ∷ 0x11
    ∷ 0x02 ∷ 0x45 ∷ 2 ∷ 0 ∷ 0 ∷ 0 ∷ 0 ∷ 0 ∷ 0 ∷ 0 ∷ 0xF2 ∷ 0xFF ∷ 0xFF ∷ 0xFF ∷ 0x00 ∷ 0xDE ∷ 1 ∷ 0xDC ∷ 0x38 ∷ 0xE9 ∷ 0xFF ∷ 0xFF ∷ 0xFF
    ∷ 0x20 ∷ 0x78 ∷ 0x56 ∷ 0x34 ∷ 0x12 ∷ 0xFE ∷ 0x01 ∷ 0x2A ∷ 0
    ∷ 0x41 ∷ 28 ∷ 0 ∷ 0 ∷ 2 ∷ 0 ∷ 0 ∷ 0 ∷ 14 ∷ 0 ∷ 0 ∷ 0 ∷ 3 ∷ 0 ∷ 0 ∷ 0 ∷ 17 ∷ 0 ∷ 0 ∷ 0 ∷ 1 ∷ 0 ∷ 0 ∷ 0 ∷ 0 ∷ 0 ∷ 0 ∷ 0 ∷ [])
unfolding rewriting
what_is_guarded = (refl, refl, refl)

-- SECTIONS count their bytes in three bytes: a body that writes one clause more than 699,050 gives a section of 12 bytes

the_most_clauses : little_bytes 3 (4 + 24 * 699050) ≡ 0xF4 ∷ 0xFF ∷ 0xFF ∷ []
unfolding little_bytes
the_most_clauses = refl

one_clause_more : little_bytes 3 (4 + 24 * 699051) ≡ 0x0C ∷ 0x00 ∷ 0x00 ∷ []
unfolding little_bytes
one_clause_more = refl
