-- What callers see of a shelf and a sink in memory.
use Rattle.std.specs.Prelude.{ℕ, ◌<◌, ◌≤◌, ◌⊎◌, List, ◌++◌, length, take, map, Contains, Result, Ok, Err, Vec}
use Rattle.std.specs.declared.alloc.Global.{Global}
use Rattle.px_io.specs.Counts.{next_count}
use Rattle.px_io.specs.Files.{Files, counts_after}
use Rattle.px_io.specs.declared.shelf.FetchCounts.{FetchCounts}
use Rattle.px_io.specs.declared.shelf.Fetched.{Fetched}
use Rattle.px_io.specs.declared.shelf.FetchFault.{FetchFault}
use Rattle.px_io.specs.declared.sink.Failed.{Failed}
use Rattle.px_io.specs.declared.word.Word.{Word}

-- names with their contents
abbrev pub files_of : List (Word × Vec ℕ Global) → Files
files_of files = map (λ file. (file.0, file.1.items)) files

-- a shelf: its files, the numbers of the calls that fail, how many calls there were, and its counts
pub record ShelfState : Type 0 where
  pub files : Files
  pub failing : List ℕ
  pub calls : ℕ
  pub counts : FetchCounts

-- the shelf after a fetch with this answer
abbrev pub shelf_after : ShelfState → Result Fetched FetchFault → ShelfState
shelf_after shelf answer = record shelf { calls = next_count shelf.calls; counts = counts_after shelf.counts answer }

-- a sink: what was written, how many bytes it can hold, and the rest as for a shelf
pub record SinkState : Type 0 where
  pub bytes : List ℕ
  pub room : ℕ
  pub failing : List ℕ
  pub calls : ℕ
  pub faults : ℕ

-- a write of this piece fails: its number is one of those that fail, or there is no room left for it
abbrev pub Refuses : SinkState → List ℕ → Type 0
Refuses sink piece = Contains sink.failing sink.calls ⊎ ((sink.room ≤ length sink.bytes) × (0 < length piece))

-- the sink after a write with this answer
abbrev pub sink_after : SinkState → List ℕ → Result ℕ Failed → SinkState
sink_after sink piece (Ok n) = record sink { bytes = sink.bytes ++ take n piece; calls = next_count sink.calls }
sink_after sink piece (Err fault) = record sink { calls = next_count sink.calls; faults = next_count sink.faults }
