use Rattle.std.proofs.Common.{◌≡◌, ◌++◌, drop}
use Rattle.px_asm_image.specs.Metadata.{row_bytes}
use Rattle.px_asm_image.proofs.rows.push_rows.Given as goal

-- the rows so far and those that are left
abbrev pub invariant-loop-row : goal.invariant-loop-row
invariant-loop-row l = l.out.items ++ row_bytes l.counts l.table (drop l.row-index l.rows) ≡ l.fn.out.items ++ row_bytes l.counts l.table l.rows
