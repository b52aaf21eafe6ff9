use Rattle.std.proofs.Common.{rules, refl}
use Rattle.px_command_answers.proofs.raw.answer_of_raw.Goals as goal

pub returns-in-Err-Bad : goal.returns-in-Err-Bad
returns-in-Err-Bad c = (search rules, refl)
