use Rattle.std.proofs.Common.{◌≡◌, ◌+◌, ◌≤◌, drop, length}
use Rattle.std.specs.List.{sum_by}
use Rattle.px_tables.specs.Counts.{column_size}
use Rattle.px_tables.specs.Rows.{bad_in_columns}
use Rattle.px_tables.proofs.rows.Rows.bad_in_columns.Given as goal

-- the columns that are left decide
abbrev pub invariant-loop-column : goal.invariant-loop-column
invariant-loop-column l =
    let counts = l.self-inside.counts in let bytes = l.self-inside.bytes.now in
    record {
      rest : bad_in_columns counts bytes l.at (drop l.column-index l.columns) ≡ bad_in_columns counts bytes l.initial.at l.columns;
      inside : l.at + sum_by (column_size counts) (drop l.column-index l.columns) ≤ length bytes;
    }
