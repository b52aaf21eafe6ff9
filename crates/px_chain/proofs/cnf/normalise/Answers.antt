use Rattle.px_chain.proofs.Members.{clause_of-sorted}
use Rattle.px_chain.proofs.cnf.normalise.Goals as goal

pub returns : goal.returns
returns c = clause_of-sorted _ _ _ c.sort_unstable.ensures.permutation c.sort_unstable.ensures.sorted c.dedup.ensures.filtered
