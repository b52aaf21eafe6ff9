use Rattle.std.proofs.Common.{◌≡◌, ◌+◌, ◌-◌, ◌*◌, ◌≤◌, ℕ, get_or, length, take}
use Rattle.px_tables.specs.Metadata.{counts_at}
use Rattle.px_tables.proofs.Counting.{with_front}
use Rattle.px_tables.proofs.header.counts_at.Given as goal

-- the counts so far and those that are left are all
abbrev pub invariant-loop-table : goal.invariant-loop-table
invariant-loop-table l = record {
  front : with_front (take l.table l.counts) (counts_at (64 - l.table) l.table l.valid l.part l.at) ≡ counts_at 64 0 l.valid l.part 24;
  len : length l.counts ≡ 64;
  zeros : (k : ℕ) → l.table ≤ k → get_or l.counts k 0 ≡ 0;
  inside : l.at ≤ length l.part.bytes;
  near : l.at ≤ 24 + 4 * l.table;
}
