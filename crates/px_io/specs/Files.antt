-- What a shelf holds, and what a fetch of it gives.
use Rattle.std.specs.Prelude.{◌≡◌, ℕ, ◌<◌, ◌≤◌, List, [], ◌∷◌, length, Option, Some, None, Result, Ok, Err, if◌then◌else◌}
use Rattle.std.specs.Str.{bytes_eq}
use Rattle.px_io.specs.Counts.{next_count}
use Rattle.px_io.specs.declared.shelf.FetchCounts.{FetchCounts}
use Rattle.px_io.specs.declared.shelf.Fetched.{Fetched}
use Rattle.px_io.specs.declared.shelf.Fetched.TheVariants.{Bytes, Absent, TooLong}
use Rattle.px_io.specs.declared.shelf.FetchFault.{FetchFault}
use Rattle.px_io.specs.declared.shelf.FetchFault.TheVariants.{Memory, Failed}

-- names with their contents
abbrev pub Files : Type 0
Files = List (List ℕ × List ℕ)

-- the content of the first file of the name
abbrev pub file_of : Files → List ℕ → Option (List ℕ)
file_of [] name = None
file_of (file ∷ files) name = if bytes_eq file.0 name then Some file.1 else file_of files name

-- a fetch of at most so many bytes gives this of a content, or of none
abbrev pub Gives : Option (List ℕ) → ℕ → Fetched → Type 0
Gives (Some content) limit (Bytes bytes) = (bytes.items ≡ content) × (length content ≤ limit)
Gives (Some content) limit TooLong = limit < length content
Gives (Some content) limit Absent = ⊥
Gives None limit (Bytes bytes) = ⊥
Gives None limit TooLong = ⊥
Gives None limit Absent = Unit {0}

-- the same of the file of a name, where the files are told
abbrev pub GivesOf : Option Files → List ℕ → ℕ → Fetched → Type 0
GivesOf None name limit found = Unit {0}
GivesOf (Some files) name limit found = Gives (file_of files name) limit found

-- the file is missing or too long
abbrev pub IsMiss : Fetched → Type 0
IsMiss (Bytes bytes) = ⊥
IsMiss Absent = Unit {0}
IsMiss TooLong = Unit {0}

-- no more bytes than the limit
abbrev pub IsWithin : ℕ → Fetched → Type 0
IsWithin limit (Bytes bytes) = length bytes.items ≤ limit
IsWithin limit Absent = Unit {0}
IsWithin limit TooLong = Unit {0}

-- the counts with a fetch counted: a miss at `Absent` and `TooLong`, a fault at `Failed`
abbrev pub counts_after : FetchCounts → Result Fetched FetchFault → FetchCounts
counts_after counts (Ok (Bytes bytes)) = counts
counts_after counts (Ok Absent) = record counts { misses = next_count counts.misses }
counts_after counts (Ok TooLong) = record counts { misses = next_count counts.misses }
counts_after counts (Err Memory) = counts
counts_after counts (Err Failed) = record counts { faults = next_count counts.faults }
