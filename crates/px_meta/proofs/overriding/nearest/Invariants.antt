use Rattle.px_meta.proofs.Nearest.{IsSearching}
use Rattle.px_meta.proofs.overriding.nearest.Given as goal

abbrev pub invariant-loop-turn : goal.invariant-loop-turn
invariant-loop-turn l = IsSearching l.tables l.method l.owner l.turn l.at
