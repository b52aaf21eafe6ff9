use Rattle.std.proofs.Common.{◌≡◌, length}
use Rattle.px_meta.specs.Walks.{AreKnown, AreVerdicts}
use Rattle.px_meta.proofs.chain.ends_of.Given as goal

abbrev pub invariant-loop-n : goal.invariant-loop-n
invariant-loop-n l = record {
  size : length l.ends.items ≡ l.n;
  known : AreKnown l.nexts l.ends.items l.met.items;
  verdicts : AreVerdicts l.nexts l.ends.items l.n;
}
