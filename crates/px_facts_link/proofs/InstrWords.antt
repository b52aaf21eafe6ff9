-- How the facts write instructions.
use Rattle.std.specs.Prelude.{ℕ, List, []}
use Rattle.px_code.specs.declared.body.RawInstr.{RawInstr}
use Rattle.px_link_opcodes.specs.Opcodes.{arithmetic_code, branch_by, checked_code, converted, converted_checked, converted_unsigned, flow_code, known_or_outside, loaded, other_code, plain_code, slot_move, stack_move, stored}
use Rattle.px_program.specs.declared.instr.Code.{Code}

-- an instruction without an operand, one with a number, and one that leads to targets
abbrev pub alone : ℕ → RawInstr
alone opcode = record { offset = 0; next = 1; opcode = opcode; operand = 0; targets = [] }

abbrev pub with_number : ℕ → ℕ → RawInstr
with_number opcode operand = record { offset = 0; next = 2; opcode = opcode; operand = operand; targets = [] }

abbrev pub leading_to : ℕ → List ℕ → RawInstr
leading_to opcode targets = record { offset = 0; next = 2; opcode = opcode; operand = 0; targets = targets }

-- what an instruction does, as long as no token is known
abbrev pub does : RawInstr → Code
does raw = known_or_outside raw.opcode (plain_code raw)

-- all families of opcodes: a fact that opens it computes with each of them
unfoldable pub opcodes : Type 0
unfolding arithmetic_code branch_by checked_code converted converted_checked converted_unsigned flow_code loaded other_code slot_move stack_move stored
opcodes = Unit {0}
