use Rattle.std.proofs.Common.{◌≡◌, map, take}
use Rattle.px_domain.specs.Givens.{given_of}
use Rattle.px_domain.proofs.given.givens_of.Given as goal

-- what the parameters so far are given
abbrev pub invariant-loop-place : goal.invariant-loop-place
invariant-loop-place l = l.params.items ≡ map (given_of l.types) (take l.place-index l.place-items)
