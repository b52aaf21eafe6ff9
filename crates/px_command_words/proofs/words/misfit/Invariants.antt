use Rattle.std.proofs.Common.{◌≡◌, drop}
use Rattle.px_command_words.specs.Words.{misfit, misfit_from}
use Rattle.px_command_words.proofs.words.misfit.Given as goal

-- the words so far fit
abbrev pub invariant-loop-place : goal.invariant-loop-place
invariant-loop-place l = misfit_from l.command l.place (drop l.place l.words) ≡ misfit l.words
