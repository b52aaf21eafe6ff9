use Rattle.std.proofs.Common.{◌≡◌, ◌+◌, ◌≤◌, length}
use Rattle.px_command_words.specs.Words.{pairs_in}
use Rattle.px_command_words.proofs.words.pairs_in.Given as goal

-- those before the rest are counted
abbrev pub invariant-loop-rest : goal.invariant-loop-rest
invariant-loop-rest l = record { counted : l.pairs + pairs_in l.rest ≡ pairs_in l.bytes; few : l.pairs + length l.rest ≤ length l.bytes }

abbrev pub decreases-loop-rest : goal.decreases-loop-rest
decreases-loop-rest l = length l.rest
