use Rattle.std.proofs.Common.{◌≡◌, take}
use Rattle.px_simple.specs.Search.{all_targets}
use Rattle.px_simple.proofs.offsets.all_targets.Given as goal

abbrev pub invariant-loop-instr : goal.invariant-loop-instr
invariant-loop-instr l = l.targets.items ≡ all_targets (take l.instr-index l.code)
