use Rattle.std.proofs.Common.{◌≡◌, take}
use Rattle.px_domain.specs.Domain.{ranges_of}
use Rattle.px_domain.proofs.domain.ranges_of.Given as goal

-- the ranges of the parts so far
abbrev pub invariant-loop-part : goal.invariant-loop-part
invariant-loop-part l = l.ranges.items ≡ ranges_of (take l.part-index l.parts)
