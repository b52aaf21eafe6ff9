use Rattle.px_verify_rounds.proofs.Begins.{end_found}
use Rattle.px_verify_rounds.proofs.offsets.end_of.Goals as goal

pub returns-in-Some : goal.returns-in-Some
returns-in-Some c = end_found c.args.code.now c.in-Some.instr.now c.in-Some.ensures.value
