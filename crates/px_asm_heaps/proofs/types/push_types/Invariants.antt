use Rattle.std.proofs.Common.{◌≡◌, ◌++◌, take}
use Rattle.std.specs.List.{flat_map}
use Rattle.px_asm_heaps.specs.Types.{type_bytes}
use Rattle.px_asm_heaps.proofs.types.push_types.Given as goal

-- the types so far are written
abbrev pub invariant-loop-item : goal.invariant-loop-item
invariant-loop-item l = l.out.items ≡ l.fn.out.items ++ flat_map type_bytes (take l.item-index l.items)
