use Rattle.std.proofs.Common.{◌≡◌, ◌++◌, drop}
use Rattle.px_asm_image.specs.Metadata.{table_bytes}
use Rattle.px_asm_image.proofs.rows.push_tables.Given as goal

-- the tables so far and those that are left
abbrev pub invariant-loop-table : goal.invariant-loop-table
invariant-loop-table l = l.out.items ++ table_bytes l.counts l.table (drop l.table l.tables) ≡ l.fn.out.items ++ table_bytes l.counts 0 l.tables
