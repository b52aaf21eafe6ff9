use Rattle.std.proofs.Common.{◌≡◌, take}
use Rattle.px_link.specs.Parts.{pairs_by}
use Rattle.px_link.proofs.overrides.pairs_of.Given as goal

-- the pairs of the methods so far
abbrev pub invariant-loop-target : goal.invariant-loop-target
invariant-loop-target l = l.pairs ≡ pairs_by l.meta l.numbers.keys l.overriding.lists (take l.target-index l.targets) l.chain
