use Rattle.std.proofs.Common.{◌≡◌, map, take}
use Rattle.px_domain.specs.Givens.{whole_part}
use Rattle.px_domain.proofs.defaults.whole_parts.Given as goal

-- a part for each parameter so far
abbrev pub invariant-loop-given : goal.invariant-loop-given
invariant-loop-given l = l.parts.items ≡ map whole_part (take l.given-index l.params)
