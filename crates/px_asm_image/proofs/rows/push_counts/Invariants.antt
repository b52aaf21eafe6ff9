use Rattle.std.proofs.Common.{◌≡◌, ◌++◌, drop}
use Rattle.px_asm_image.specs.Metadata.{count_bytes}
use Rattle.px_asm_image.proofs.rows.push_counts.Given as goal

-- the counts so far and those that are left
abbrev pub invariant-loop-rows : goal.invariant-loop-rows
invariant-loop-rows l = l.out.items ++ count_bytes (drop l.rows-index l.tables) ≡ l.fn.out.items ++ count_bytes l.tables
