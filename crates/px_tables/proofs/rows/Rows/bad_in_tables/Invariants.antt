use Rattle.std.proofs.Common.{◌≡◌, drop}
use Rattle.px_tables.specs.Rows.{bad_in_tables}
use Rattle.px_tables.proofs.rows.Rows.bad_in_tables.Given as goal

-- the tables that are left decide
abbrev pub invariant-loop-table : goal.invariant-loop-table
invariant-loop-table l =
    bad_in_tables l.self.counts l.self.bytes (drop l.table-index l.tables) ≡ bad_in_tables l.self.counts l.self.bytes l.tables
