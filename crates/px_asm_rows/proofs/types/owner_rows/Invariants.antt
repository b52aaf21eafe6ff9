use Rattle.std.proofs.Common.{◌≡◌, ◌+◌, map, take}
use Rattle.px_asm_described.specs.Writable.{owner_place}
use Rattle.px_asm_rows.proofs.types.owner_rows.Given as goal

abbrev pub invariant-loop-number : goal.invariant-loop-number
invariant-loop-number l = l.owners.items ≡ map (λ number. owner_place l.rows number + 2) (take l.number-index l.numbers)
