-- What the parts of the reader keep.
use Rattle.std.specs.Prelude.{◌≡◌, ℕ, ◌<◌, ◌≤◌, ◌^◌, List, length, slice_index}
use Rattle.px_tables.specs.declared.counts.Counts.{Counts}
use Rattle.px_tables.specs.Rows.{start_of}

-- There are 64 counts, the starts are those of the tables, and all rows lie within the bytes.
pub record IsLaidOut (counts : Counts) (starts : List ℕ) (bytes : List ℕ) : Type 0 where
  pub counted : length counts.rows ≡ 64
  pub starts_are : (table : ℕ) → table < 64 → slice_index starts table ≡ start_of counts table
  pub whole : start_of counts 64 ≤ length bytes
  pub short : length bytes < 2 ^ 31
