use Rattle.std.proofs.Common.{◌≡◌, map, take}
use Rattle.px_domain.specs.Domain.{low_word}
use Rattle.px_domain.proofs.domain.Domain.least.Given as goal

-- a word for each range so far
abbrev pub invariant-loop-range : goal.invariant-loop-range
invariant-loop-range l = l.words ≡ map low_word (take l.range-index l.range-items)
