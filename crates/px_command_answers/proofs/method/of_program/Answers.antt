use Rattle.px_command_answers.proofs.Explaining.{explains_named}
use Rattle.px_command_answers.proofs.method.of_program.Goals as goal

pub returns : goal.returns
returns c = λ v image name reads. explains_named v image name c.args.text.now c.args.program c.told.result reads c.told.ensures
