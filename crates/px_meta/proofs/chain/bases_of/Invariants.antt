use Rattle.px_meta.specs.Chains.{base_in}
use Rattle.px_meta.specs.Walks.{AreOf}
use Rattle.px_meta.proofs.chain.bases_of.Given as goal

abbrev pub invariant-loop-n : goal.invariant-loop-n
invariant-loop-n l = AreOf (base_in l.tables) l.n l.bases.items
