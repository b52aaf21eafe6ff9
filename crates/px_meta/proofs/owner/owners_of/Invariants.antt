use Rattle.px_meta.proofs.Behind.{AreSet}
use Rattle.px_meta.proofs.owner.owners_of.Given as goal

abbrev pub invariant-loop-n : goal.invariant-loop-n
invariant-loop-n l = AreSet l.tables l.table l.n l.owners.items
