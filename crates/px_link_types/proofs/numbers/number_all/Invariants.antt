use Rattle.std.proofs.Common.{◌+◌, ◌-◌, ◌*◌, ◌^◌, length, vec_len}
use Rattle.px_link_types.proofs.Visiting.{AreUnderWay}
use Rattle.px_link_types.proofs.numbers.number_all.Given as goal

abbrev pub invariant-loop-key : goal.invariant-loop-key
invariant-loop-key l = AreUnderWay l.meta l.fn.keys.keys l.met l.keys.keys l.pending.items

-- each round takes a type off the list, or gives a number, of which there are few
abbrev pub decreases-loop-key : goal.decreases-loop-key
decreases-loop-key l = (2 ^ 32 - length l.keys.keys) * 2 ^ 64 + vec_len l.pending
