-- Where numbers alone were looked at before, that it is another one bounds the interval.
use Rattle.std.proofs.Common.{arith}
use Rattle.px_code.proofs.Opcodes.{operands}
use Rattle.px_code.proofs.opcode.operand_of.Goals as goal

pub returns-in_default-clause-operand : goal.returns-in_default-clause-operand
returns-in_default-clause-operand c = grind (arith, operands)

pub returns-in_default-2-clause-operand : goal.returns-in_default-2-clause-operand
returns-in_default-2-clause-operand c = grind (arith, operands)

pub returns-in_default-4-clause-operand : goal.returns-in_default-4-clause-operand
returns-in_default-4-clause-operand c = grind (arith, operands)

pub returns-in_default-7-clause-operand : goal.returns-in_default-7-clause-operand
returns-in_default-7-clause-operand c = grind (arith, operands)

pub returns-in_default-8-clause-operand : goal.returns-in_default-8-clause-operand
returns-in_default-8-clause-operand c = grind (arith, operands)

pub returns-in-43-to-55-2-clause-operand : goal.returns-in-43-to-55-2-clause-operand
returns-in-43-to-55-2-clause-operand c = grind (arith, operands)

pub returns-in-32-4-clause-operand : goal.returns-in-32-4-clause-operand
returns-in-32-4-clause-operand c = grind (arith, operands)
