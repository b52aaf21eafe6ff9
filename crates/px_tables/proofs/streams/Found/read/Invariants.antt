use Rattle.std.proofs.Common.{◌≡◌, ◌-◌, ◌≤◌, [], length}
use Rattle.px_tables.specs.Streams.{found_of}
use Rattle.px_tables.proofs.Headers.{left}
use Rattle.px_tables.proofs.streams.Found.read.Given as goal

-- what was found and the headers that are left decide
abbrev pub invariant-loop-header : goal.invariant-loop-header
invariant-loop-header l = record {
  rest : left (l.fn.root.count - l._header) l.metadata l.at l.found ≡ left l.fn.root.count l.metadata l.fn.root.first (found_of []);
  inside : l.at ≤ length l.metadata;
}
