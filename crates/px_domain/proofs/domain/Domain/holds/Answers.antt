use Rattle.std.proofs.Common.{ap, length, sym, ◌∙◌}
use Rattle.px_domain.specs.Domain.{ranges_of}
use Rattle.px_domain.proofs.Tuples.{same_length}
use Rattle.px_domain.proofs.domain.Domain.holds.Goals as goal

pub returns-then-ranges-len : goal.returns-then-ranges-len
returns-then-ranges-len c = (
  λ no. cc,
  λ is. absurd (c.if-ranges-len.true (ap length c.ranges-ranges.ensures.ranges ∙ same_length (ranges_of c.args.self.now) c.args.words.now is ∙ sym c.len.ensures)),
)
