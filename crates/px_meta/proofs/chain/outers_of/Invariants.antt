use Rattle.px_meta.proofs.Behind.{AreNested}
use Rattle.px_meta.proofs.chain.outers_of.Given as goal

abbrev pub invariant-loop-n : goal.invariant-loop-n
invariant-loop-n l = AreNested l.tables l.n l.outers.items
