use Rattle.std.proofs.Common.{sym, subst}
use Rattle.px_program.specs.Arguments.{AreGiven, arguments_of}
use Rattle.px_program.specs.declared.program.Program.{Program}
use Rattle.px_command_answers.proofs.answer.told.Goals as goal

pub of_verified-requires-clause-given : goal.of_verified-requires-clause-given
of_verified-requires-clause-given c = subst (λ (program : Program). AreGiven program.types (arguments_of program)) (sym c.in-Ok.ensures.accepted) c.requires.given
