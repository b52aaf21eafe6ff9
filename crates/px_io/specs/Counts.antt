-- Counts that never fall.
use Rattle.std.specs.Prelude.{ℕ, ◌+◌, ◌-◌, ◌^◌, ◌≤◌, min, max}

-- one more, up to the end of a `u64`
abbrev pub next_count : ℕ → ℕ
next_count count = max count (min (count + 1) (2 ^ 64 - 1))

-- the count is greater than before, or stands at the end of a `u64`
abbrev pub Rose : ℕ → ℕ → Type 0
Rose before after = min (before + 1) (2 ^ 64 - 1) ≤ after
