use Rattle.std.proofs.Common.{refl}
use Rattle.px_asm_opcodes.proofs.Chosen.{chosen_raw}
use Rattle.px_asm_opcodes.proofs.instr.plain.Goals as goal

pub returns-clause-encodable : goal.returns-clause-encodable
returns-clause-encodable c = (chosen_raw c.args.instr.now _ c.requires refl refl c.opcode_by.ensures c.operand_by.ensures c.in_ok-targets.ensures).0

pub returns-clause-does : goal.returns-clause-does
returns-clause-does c = (chosen_raw c.args.instr.now _ c.requires refl refl c.opcode_by.ensures c.operand_by.ensures c.in_ok-targets.ensures).1
