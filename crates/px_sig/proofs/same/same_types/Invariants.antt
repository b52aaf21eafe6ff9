use Rattle.std.proofs.Common.{◌≡◌, ◌↔◌, length}
use Rattle.px_sig.proofs.same.same_types.Given as goal

-- the lists are the same exactly where their rests are
abbrev pub invariant-loop-one : goal.invariant-loop-one
invariant-loop-one l = record {
  same : (l.one-iterator.a.rest.now ≡ l.one-iterator.b.rest.now) ↔ (l.fn.first ≡ l.fn.second);
  even : length l.one-iterator.a.rest.now ≡ length l.one-iterator.b.rest.now;
}
