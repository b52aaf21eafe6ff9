use Rattle.std.proofs.Common.{◌≡◌, ◌<◌, ◌≤◌, ℕ, [], get_or, length}
use Rattle.px_asm_image.proofs.rows.counts_of.Given as goal

-- the counts so far, and no rows in the other tables
abbrev pub invariant-loop-table : goal.invariant-loop-table
invariant-loop-table l = record {
  all : length l.rows ≡ 64;
  before : (k : ℕ) → k < l.table → get_or l.rows k 0 ≡ length (get_or l.tables k []);
  behind : (k : ℕ) → l.table ≤ k → get_or l.rows k 0 ≡ 0;
}
