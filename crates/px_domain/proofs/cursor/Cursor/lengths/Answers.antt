use Rattle.std.proofs.Common.{subst}
use Rattle.px_domain.specs.declared.range.Range.{Range}
use Rattle.px_domain.specs.Domain.{IsSpan}
use Rattle.px_domain.proofs.Ranges.{span_is}
use Rattle.px_domain.proofs.cursor.Cursor.lengths.Goals as goal

pub lengths_of-requires : goal.lengths_of-requires
lengths_of-requires c =
    let is : IsSpan c.length_range.result c.in_ok-span.span = span_is c.length_range.result c.args.group c.args.self.now.text.now c.args.self.now.at _ c.in_ok-span.ensures.reads in
    subst (λ (range : Range). IsSpan range c.in_ok-span.span) c.length_range.ensures is
