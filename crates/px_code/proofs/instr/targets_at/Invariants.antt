use Rattle.std.proofs.Common.{◌≡◌}
use Rattle.px_code.specs.Body.{targets_at}
use Rattle.px_code.proofs.Front.{with_targets}
use Rattle.px_code.proofs.instr.targets_at.Given as goal

-- the targets so far, and those that are left, are all
abbrev pub invariant-loop-index : goal.invariant-loop-index
invariant-loop-index l = with_targets l.targets l.next l.code l.from l.index l.count ≡ targets_at l.next l.code l.from l.count
