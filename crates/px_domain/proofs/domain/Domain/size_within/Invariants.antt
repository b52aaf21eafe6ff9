use Rattle.std.proofs.Common.{◌≡◌, ◌*◌, ◌<◌, ◌^◌, drop}
use Rattle.px_domain.specs.Domain.{ranges_of, size_of}
use Rattle.px_domain.proofs.domain.Domain.size_within.Given as goal

-- the size so far and that of the rest make the domain's
abbrev pub invariant-loop-range : goal.invariant-loop-range
invariant-loop-range l = record {
  size : l.size * size_of (drop l.range-index l.range-items) ≡ size_of (ranges_of l.fn.self);
  small : l.size < 2 ^ 32;
}
