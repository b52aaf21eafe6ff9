use Rattle.std.proofs.Common.{sym}
use Rattle.px_verify_flow.proofs.Ends.{end_is}
use Rattle.px_verify_flow.proofs.checks.end_of.Goals as goal

pub returns-in-Some : goal.returns-in-Some
returns-in-Some c = end_is c.args.instrs.now c.in-Some.instr.now (sym c.in-Some.ensures.value)
