use Rattle.std.proofs.Common.{rules, arith}
use Rattle.px_domain.proofs.Tuples.{too_many}
use Rattle.px_domain.proofs.domain.Domain.size_within.Goals as goal

pub returns-then-size-most-clause-size : goal.returns-then-size-most-clause-size
returns-then-size-most-clause-size c = λ within.
    too_many c.ranges-range-items.result.now c.loop-range.range-index _ c.loop-range.size c.size-size.result c.from-most.result _
    c.loop-range-test.true (search rules) c.size-size.ensures.size c.loop-range.invariant.size c.if-size-most.true (omega arith)
