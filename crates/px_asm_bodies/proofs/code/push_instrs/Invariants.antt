use Rattle.std.proofs.Common.{◌≡◌, ◌++◌, take}
use Rattle.std.specs.List.{flat_map}
use Rattle.px_asm_bodies.specs.Bytes.{instr_bytes}
use Rattle.px_asm_bodies.proofs.code.push_instrs.Given as goal

-- the instructions so far are written
abbrev pub invariant-loop-instr : goal.invariant-loop-instr
invariant-loop-instr l = l.out.items ≡ l.fn.out.items ++ flat_map instr_bytes (take l.instr-index l.instrs)
