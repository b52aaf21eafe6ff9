-- How the facts write bodies of methods.
use Rattle.std.specs.Prelude.{ℕ, false, List, [], Result, Ok}
use Rattle.px_code.specs.Body.{body_of, instr_at, instrs_from, operand_of, sections_from}
use Rattle.px_code.specs.Reading.{PlacedFault}
use Rattle.px_code.specs.declared.body.Body.{Body}
use Rattle.px_code.specs.declared.body.RawInstr.{RawInstr}

-- an instruction by its offset, the offset after it and its opcode
abbrev pub plain : ℕ → ℕ → ℕ → RawInstr
plain offset next opcode = record { offset = offset; next = next; opcode = opcode; operand = 0; targets = [] }

-- one with an operand that is a number
abbrev pub with : ℕ → ℕ → ℕ → ℕ → RawInstr
with offset next opcode operand = record { offset = offset; next = next; opcode = opcode; operand = operand; targets = [] }

-- one that leads to offsets
abbrev pub leads : ℕ → ℕ → ℕ → List ℕ → RawInstr
leads offset next opcode targets = record { offset = offset; next = next; opcode = opcode; operand = 0; targets = targets }

-- a body with a header of one byte, which holds eight values on the stack and has no locals and no clauses
abbrev pub tiny : List RawInstr → Result Body PlacedFault
tiny code = Ok (record { max_stack = 8; init_locals = false; locals_token = 0; code = code; clauses = [] })

-- all readings of a body: a fact that opens it computes with each of them
unfoldable pub parts : Type 0
unfolding body_of instr_at instrs_from operand_of sections_from
parts = Unit {0}
