use Rattle.std.proofs.Common.{◌≡◌, ◌+◌, ◌-◌, ◌*◌}
use Rattle.px_tables.specs.Counts.{row_size, rows_of}
use Rattle.px_tables.specs.Rows.{bad_in_rows, start_of}
use Rattle.px_tables.proofs.rows.Rows.bad_in_rows.Given as goal

-- the rows that are left decide
abbrev pub invariant-loop-row : goal.invariant-loop-row
invariant-loop-row l =
    let counts = l.self.counts in let bytes = l.self.bytes in let rows = rows_of counts l.table in
    record {
      rest : bad_in_rows counts bytes l.table l.at (rows - l._row) ≡ bad_in_rows counts bytes l.table (start_of counts l.table) rows;
      place : l.at ≡ start_of counts l.table + l._row * row_size counts l.table;
    }
