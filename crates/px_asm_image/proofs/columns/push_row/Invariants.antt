use Rattle.std.proofs.Common.{◌≡◌, ◌++◌, drop}
use Rattle.px_asm_image.specs.Metadata.{cell_bytes}
use Rattle.px_asm_image.proofs.columns.push_row.Given as goal

-- the cells so far and those that are left
abbrev pub invariant-loop-k : goal.invariant-loop-k
invariant-loop-k l = l.out.items ++ cell_bytes l.counts (drop l.k l.columns) (drop l.k l.row.cells) ≡ l.fn.out.items ++ cell_bytes l.counts l.columns l.row.cells
