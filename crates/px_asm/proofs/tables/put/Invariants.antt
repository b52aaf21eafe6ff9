use Rattle.std.proofs.Common.{◌≡◌, ◌≤◌, ◌-◌, ℕ, length}
use Rattle.px_asm_law_written.specs.Holds.{table_in}
use Rattle.px_asm.proofs.tables.put.Given as goal

-- all that was read is read still
abbrev pub invariant-loop-alloc : goal.invariant-loop-alloc
invariant-loop-alloc l = (length l.tables ≤ l.table) × ((other : ℕ) → table_in l.tables other ≡ table_in l.initial.tables other)

abbrev pub decreases-loop-alloc : goal.decreases-loop-alloc
decreases-loop-alloc l = l.table - length l.tables
