use Rattle.px_meta.proofs.Deriving.{IsClimbing}
use Rattle.px_meta.proofs.overriding.derives.Given as goal

abbrev pub invariant-loop-turn : goal.invariant-loop-turn
invariant-loop-turn l = IsClimbing l.tables l.from l.ancestor l.turn l.at
