use Rattle.std.proofs.Common.{◌≡◌, ◌-◌, ◌<◌, ◌≤◌, ℕ, length, slice_index}
use Rattle.px_tables.specs.Rows.{first_cut, start_of}
use Rattle.px_tables.proofs.rows.Rows.new.Given as goal

-- the tables so far lie within the bytes, and the others decide
abbrev pub invariant-loop-table : goal.invariant-loop-table
invariant-loop-table l = record {
  end_is : l.end ≡ start_of l.counts l.table;
  len : length l.starts ≡ 64;
  inside : l.end ≤ length l.bytes;
  starts_are : (k : ℕ) → k < l.table → slice_index l.starts k ≡ start_of l.counts k;
  rest : first_cut l.counts (length l.bytes) l.table (64 - l.table) ≡ first_cut l.counts (length l.bytes) 0 64;
}
