use Rattle.std.proofs.Common.{sym}
use Rattle.px_command_answers.proofs.Explaining.{explains_raw}
use Rattle.px_command_answers.proofs.raw.linked.Goals as goal

pub returns-in-Ok : goal.returns-in-Ok
returns-in-Ok c = λ bytes is. explains_raw bytes c.args.places.now c.args.text.now c.args.body.now c.in-Ok.program c.told.result is c.in-Ok.ensures.no_locals (sym c.in-Ok.ensures.program) c.told.ensures

pub returns-in-Err : goal.returns-in-Err
returns-in-Err c = λ bytes is. c.unlinked.ensures bytes c.args.places.now c.args.text.now c.args.body.now is c.in-Err.ensures.fault
