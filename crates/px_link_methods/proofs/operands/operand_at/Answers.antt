use Rattle.px_link_methods.proofs.Named.{named_result}
use Rattle.px_link_methods.proofs.operands.operand_at.Goals as goal

pub returns-clause-named : goal.returns-clause-named
returns-clause-named c = named_result c.args.tokens.now c.args.raw.now.opcode c.token_of.result c.operand.result c.operand.ensures.operand c.operand.ensures.there
