use Rattle.std.proofs.Common.{Some, sym, ap, ◌∙◌}
use Rattle.px_link_reach.proofs.Owned.{no_target, owned_operand}
use Rattle.px_link_reach.proofs.found.target_of.Goals as goal

pub returns-in-Some-Method-clause-owned : goal.returns-in-Some-Method-clause-owned
returns-in-Some-Method-clause-owned c =
    owned_operand c.args.tokens.now c.args.raw.now.opcode _ c.in-Some-Method.row (sym c.in_ok-row.ensures.operand ∙ c.in-Some-Method.is ∙ ap Some c.in-Some-Method.field-0-is)

pub returns-then-not-is_call-clause-target : goal.returns-then-not-is_call-clause-target
returns-then-not-is_call-clause-target c = sym (no_target c.args.tokens.now c.args.raw.now (sym c.is_call.ensures ∙ c.if-not-is_call.true))
