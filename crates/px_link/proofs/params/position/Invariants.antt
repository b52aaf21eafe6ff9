use Rattle.std.proofs.Common.{◌≡◌, ◌+◌, drop}
use Rattle.px_link.specs.Raw.{position}
use Rattle.px_link.proofs.params.position.Given as goal

-- the place isn't among those so far
abbrev pub invariant-loop-at : goal.invariant-loop-at
invariant-loop-at l = position l.places l.place ≡ l.at + position (drop l.at l.places) l.place
