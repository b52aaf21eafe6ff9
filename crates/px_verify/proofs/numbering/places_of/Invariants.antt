use Rattle.px_verify.specs.Numbering.{ArePlaced}
use Rattle.px_verify.proofs.numbering.places_of.Given as goal

-- the first instructions have their places
abbrev pub invariant-loop-number : goal.invariant-loop-number
invariant-loop-number l = ArePlaced l.code l.number l.places.items
