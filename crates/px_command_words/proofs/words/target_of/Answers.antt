use Rattle.std.proofs.Common.{◌∙◌, sym}
use Rattle.px_command_words.proofs.Forms.{other_command}
use Rattle.px_command_words.proofs.words.target_of.Goals as goal

pub returns-clause-command : goal.returns-clause-command
returns-clause-command c = other_command c.args.command.now c.requires.command (sym c.eq.ensures ∙ c.if-eq.false)
