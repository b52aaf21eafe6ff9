-- How the facts write metadata.
use Rattle.std.specs.Prelude.{ℕ, List, [], ◌∷◌, ◌++◌, codes}
use Rattle.px_tables.specs.Counts.{row_size}
use Rattle.px_tables.specs.Metadata.{View, counts_at, has_unknown, header_of, metadata_of, rows_in}
use Rattle.px_tables.specs.Reading.{read_bytes, read_number}
use Rattle.px_tables.specs.Rows.{cut_of, first_bad, first_cut, row_of, start_of}
use Rattle.px_tables.specs.Streams.{found_in, found_of, name_at, root_of, stream_at, streams_at, streams_of}
use Rattle.px_tables.specs.declared.counts.Counts.{Counts}
use Rattle.px_facts_load.proofs.FileWords.{four, zeros}

-- all readings of metadata: a fact that opens it computes with each of them
unfoldable pub tables : Type 0
unfolding counts_at cut_of first_bad first_cut found_in found_of has_unknown header_of metadata_of name_at read_bytes read_number root_of row_of row_size rows_in start_of stream_at streams_at streams_of
tables = Unit {0}

-- the signature, a version, and the size of the version's text
abbrev pub beginning : ℕ → List ℕ
beginning size = (0x42 ∷ 0x53 ∷ 0x4A ∷ 0x42 ∷ 1 ∷ 0 ∷ 1 ∷ 0 ∷ []) ++ zeros 4 ++ four size

-- flags, which are 0, and how many streams there are
abbrev pub stream_count : ℕ → List ℕ
stream_count n = 0 ∷ 0 ∷ n ∷ 0 ∷ []

-- the header of a stream, which stands at a place and has a size; the name has its zeros
abbrev pub stream_header : ℕ → ℕ → List ℕ → List ℕ
stream_header at size name = four at ++ four size ++ name

-- a module, two types, of which the second has the first as base, and a method
abbrev pub module_row : List ℕ
module_row = 0 ∷ 0 ∷ 5 ∷ 0 ∷ 1 ∷ 0 ∷ 0 ∷ 0 ∷ 0 ∷ 0 ∷ []

abbrev pub type_rows : List ℕ
type_rows =
    1 ∷ 0 ∷ 0x10 ∷ 0 ∷ 1 ∷ 0 ∷ 0 ∷ 0 ∷ 0 ∷ 0 ∷ 1 ∷ 0 ∷ 1 ∷ 0
    ∷ 2 ∷ 1 ∷ 0x10 ∷ 0 ∷ 3 ∷ 0 ∷ 4 ∷ 0 ∷ 4 ∷ 0 ∷ 1 ∷ 0 ∷ 2 ∷ 0 ∷ []

abbrev pub method_row : List ℕ
method_row = 0x50 ∷ 0x20 ∷ 0 ∷ 0 ∷ 0 ∷ 0 ∷ 0x16 ∷ 0 ∷ 3 ∷ 0 ∷ 1 ∷ 0 ∷ 1 ∷ 0 ∷ []

abbrev pub rows : List ℕ
rows = module_row ++ type_rows ++ method_row

abbrev pub strings : List ℕ
strings = 0 ∷ 0x41 ∷ 0 ∷ 0x66 ∷ 0 ∷ 0 ∷ 0 ∷ 0 ∷ []

abbrev pub blobs : List ℕ
blobs = 0 ∷ 1 ∷ 6 ∷ 0 ∷ []

-- The root has a text in four bytes at 16 and three streams, with headers at 24, 36 and 56. The header of the tables stands at 72: their version is 2,
-- all heaps are narrow, and there are the tables 00, 02 and 06, whose counts stand at 96. Rows stand at 108, 118, 132 and 146, the strings at 160,
-- and the blobs at 168.
abbrev pub metadata : List ℕ
metadata =
    beginning 4 ++ codes "v4" ++ zeros 2 ++ stream_count 3
    ++ stream_header 72 88 (codes "#~" ++ zeros 2) ++ stream_header 160 8 (codes "#Strings" ++ zeros 4) ++ stream_header 168 4 (codes "#Blob" ++ zeros 3)
    ++ (0 ∷ 0 ∷ 0 ∷ 0 ∷ 2 ∷ 0 ∷ 0 ∷ 1 ∷ 0x45 ∷ []) ++ zeros 15 ++ four 1 ++ four 2 ++ four 1 ++ rows ++ strings ++ blobs

abbrev pub counts : Counts
counts = record { heap_sizes = 0; rows = 1 ∷ 0 ∷ 2 ∷ 0 ∷ 0 ∷ 0 ∷ 1 ∷ zeros 57 }

-- what is read of it
abbrev pub view : View
view = record { counts = counts; rows = rows; strings = strings; user_strings = []; guid = []; blob = blobs }
