use Rattle.std.proofs.Common.{◌≡◌, ◌≤◌, drop}
use Rattle.px_simple.specs.Search.{AreTargets}
use Rattle.px_simple.specs.Simple.{fault_from}
use Rattle.px_simple.proofs.simple_methods.fault_of.Given as goal

abbrev pub invariant-loop-k : goal.invariant-loop-k
invariant-loop-k l = record {
  targets : AreTargets l.method.code l.targets.items;
  room : l.depth ≤ 8;
  rest : fault_from l.method l.depth (drop l.k l.code) ≡ fault_from l.method 0 l.code;
}
