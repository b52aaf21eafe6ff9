use Rattle.std.proofs.Common.{◌≡◌, ◌++◌, take}
use Rattle.px_asm_bodies.specs.Bytes.{distances_bytes}
use Rattle.px_asm_bodies.proofs.instr.push_distances.Given as goal

-- the distances so far are written
abbrev pub invariant-loop-target : goal.invariant-loop-target
invariant-loop-target l = l.out.items ≡ l.fn.out.items ++ distances_bytes l.next l.size (take l.target-index l.targets)
