use Rattle.std.proofs.Common.{◌≡◌, ◌↔◌, length}
use Rattle.px_domain.specs.Domain.{AreIn, InDomain}
use Rattle.px_domain.proofs.domain.Domain.holds.Given as goal

-- the words are in the domain exactly where the rest of them is in the rest of its ranges
abbrev pub invariant-loop-range : goal.invariant-loop-range
invariant-loop-range l = record {
  same : AreIn l.range-iterator.a.rest.now l.range-iterator.b.rest.now ↔ InDomain l.fn.self l.fn.words;
  even : length l.range-iterator.a.rest.now ≡ length l.range-iterator.b.rest.now;
}
