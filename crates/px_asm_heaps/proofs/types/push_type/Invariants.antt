use Rattle.std.proofs.Common.{◌≡◌, ◌++◌, replicate}
use Rattle.px_asm_heaps.proofs.types.push_type.Given as goal

-- a byte for each array so far is written
abbrev pub invariant-loop : goal.invariant-loop
invariant-loop l = l.out.items ≡ l.fn.out.items ++ replicate l.counter 0x1D
