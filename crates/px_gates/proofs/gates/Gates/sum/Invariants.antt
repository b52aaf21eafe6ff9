use Rattle.std.proofs.Common.{◌≡◌, ◌≤◌, length, vec_len}
use Rattle.std.specs.Prelude.{vec_capacity}
use Rattle.px_gates.proofs.Adding.{HasAdded}
use Rattle.px_gates.proofs.gates.Gates.sum.Given as goal

abbrev pub invariant-loop-x_bit : goal.invariant-loop-x_bit
invariant-loop-x_bit l = record {
  added : HasAdded l.fn.self l.x l.y l.fn.carry (length l.yielded) l.self l.bits.items l.carry;
  filled : vec_len l.bits ≡ length l.yielded;
  room : length l.x ≤ vec_capacity l.bits;
}
