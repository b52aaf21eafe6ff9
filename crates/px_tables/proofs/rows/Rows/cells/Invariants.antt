use Rattle.std.proofs.Common.{◌≡◌, ◌+◌, ◌-◌, ◌≤◌, ◌++◌, drop, length, replicate, take}
use Rattle.std.specs.List.{sum_by}
use Rattle.px_tables.specs.Counts.{column_size}
use Rattle.px_tables.specs.Rows.{cells_at, row_start}
use Rattle.px_tables.proofs.rows.Rows.cells.Given as goal

-- the cells so far and those to come are all
abbrev pub invariant-loop-k : goal.invariant-loop-k
invariant-loop-k l =
    let counts = l.self.counts in let bytes = l.self.bytes in
    record {
      front : take l.k l.cells ++ cells_at counts bytes l.at (drop l.k l.columns) ≡ cells_at counts bytes (row_start counts l.table l.n) l.columns;
      len : length l.cells ≡ 9;
      zeros : drop l.k l.cells ≡ replicate (9 - l.k) 0;
      inside : l.at + sum_by (column_size counts) (drop l.k l.columns) ≤ length bytes;
    }
