use Rattle.std.proofs.Common.{◌≡◌, ◌≤◌, ◌*◌, ◌^◌}
use Rattle.px_tables.specs.Rows.{start_of}
use Rattle.px_asm_image.proofs.fits.rows_size.Given as goal

-- the rows so far
abbrev pub invariant-loop-table : goal.invariant-loop-table
invariant-loop-table l = record {
  size : l.size ≡ start_of l.counts l.table;
  small : l.size ≤ l.table * 2 ^ 38;
}
