use Rattle.std.proofs.Common.{◌≡◌, ◌++◌, length}
use Rattle.px_link_tokens.specs.Operands.{units_of}
use Rattle.px_link_tokens.proofs.texts.units_of.Given as goal

-- the units of all are those so far, and then those of the rest
abbrev pub invariant-loop-rest : goal.invariant-loop-rest
invariant-loop-rest l = l.units.items ++ units_of l.rest ≡ units_of l.bytes

abbrev pub decreases-loop-rest : goal.decreases-loop-rest
decreases-loop-rest l = length l.rest
