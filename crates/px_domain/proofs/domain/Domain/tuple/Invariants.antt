use Rattle.px_domain.proofs.Tuples.{IsFilled}
use Rattle.px_domain.proofs.domain.Domain.tuple.Given as goal

abbrev pub invariant-loop-index : goal.invariant-loop-index
invariant-loop-index l = IsFilled l.ranges l.words.items l.fn.number l.rest l.index
