use Rattle.std.proofs.Common.{sym, ◌∙◌}
use Rattle.px_asm_opcodes.proofs.Tokens.{plain_by, plain_raw, raw_with_token}
use Rattle.px_asm_opcodes.proofs.instr.raw_of.Goals as goal

pub returns-in-Some : goal.returns-in-Some
returns-in-Some c = raw_with_token c.args.instr.now _ c.in-Some.opcode c.args.token (sym c.token_opcode.ensures ∙ c.in-Some.is) c.requires c.ranges.token.fits c.with_token.ensures.placed c.with_token.ensures.token

pub plain-requires : goal.plain-requires
plain-requires c = plain_by c.args.instr.now (sym c.token_opcode.ensures ∙ c.in-None.is) c.requires

pub returns-in-None : goal.returns-in-None
returns-in-None c = plain_raw c.args.instr.now c.args.token c.plain.result (sym c.token_opcode.ensures ∙ c.in-None.is) c.plain.ensures.encodable c.plain.ensures.placed c.plain.ensures.does
