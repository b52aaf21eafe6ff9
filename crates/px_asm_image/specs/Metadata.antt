-- The parts of metadata as they are written (Partition II, 24.2).
use Rattle.std.specs.Prelude.{ℕ, suc, ◌+◌, ◌-◌, ◌*◌, Bool, true, false, List, [], ◌∷◌, ◌++◌, length, replicate, if◌then◌else◌}
use Rattle.byteorder.specs.Endian.{little_bytes}
use Rattle.px_tables.specs.declared.column.Column.{Column}
use Rattle.px_tables.specs.declared.counts.Counts.{Counts}
use Rattle.px_tables.specs.declared.tables.Row.{Row}
use Rattle.px_tables.specs.Columns.{columns_of}
use Rattle.px_tables.specs.Counts.{column_size}
use Rattle.px_tables.specs.Streams.{padded}
use Rattle.px_asm_image.specs.declared.content.Content.{Content}
use Rattle.px_asm_image.specs.Layout.{counts_of}

-- the cells of a row, each in as many bytes as its column has
abbrev pub cell_bytes : Counts → List Column → List ℕ → List ℕ
cell_bytes counts [] cells = []
cell_bytes counts (column ∷ columns) [] = []
cell_bytes counts (column ∷ columns) (cell ∷ cells) = little_bytes (column_size counts column) cell ++ cell_bytes counts columns cells

-- the rows of a table
abbrev pub row_bytes : Counts → ℕ → List Row → List ℕ
row_bytes counts table [] = []
row_bytes counts table (row ∷ rows) = cell_bytes counts (columns_of table) row.cells ++ row_bytes counts table rows

-- the rows of tables, of which the first has this number
abbrev pub table_bytes : Counts → ℕ → List (List Row) → List ℕ
table_bytes counts table [] = []
table_bytes counts table (rows ∷ tables) = row_bytes counts table rows ++ table_bytes counts (suc table) tables

abbrev pub has_rows : List Row → Bool
has_rows [] = false
has_rows (row ∷ rows) = true

-- the mask of the tables that have rows
abbrev pub mask_of : List (List Row) → ℕ
mask_of [] = 0
mask_of (rows ∷ tables) = (if has_rows rows then 1 else 0) + 2 * mask_of tables

-- the count of a table, which is there if it has rows
abbrev pub count_of : List Row → List ℕ
count_of rows = if has_rows rows then little_bytes 4 (length rows) else []

abbrev pub count_bytes : List (List Row) → List ℕ
count_bytes [] = []
count_bytes (rows ∷ tables) = count_of rows ++ count_bytes tables

-- version 2.0 and wide indexes of heaps, the mask of the tables, and no sorted ones
abbrev pub header_bytes : ℕ → List ℕ
header_bytes mask = 0 ∷ 0 ∷ 0 ∷ 0 ∷ 2 ∷ 0 ∷ 7 ∷ 1 ∷ little_bytes 8 mask ++ little_bytes 8 0

-- the stream of the tables
unfoldable pub tables_stream : List (List Row) → List ℕ
tables_stream tables = header_bytes (mask_of tables) ++ (count_bytes tables ++ table_bytes (counts_of tables) 0 tables)

-- the root: its signature, version 1.1, the text of the version, no flags, and four streams
abbrev pub root_bytes : List ℕ
root_bytes =
    0x42 ∷ 0x53 ∷ 0x4A ∷ 0x42 ∷ 1 ∷ 0 ∷ 1 ∷ 0 ∷ 0 ∷ 0 ∷ 0 ∷ 0 ∷ 12 ∷ 0 ∷ 0 ∷ 0
    ∷ 0x76 ∷ 0x34 ∷ 0x2E ∷ 0x30 ∷ 0x2E ∷ 0x33 ∷ 0x30 ∷ 0x33 ∷ 0x31 ∷ 0x39 ∷ 0 ∷ 0 ∷ 0 ∷ 0 ∷ 4 ∷ 0 ∷ []

-- bytes with zeros up to a multiple of 4
abbrev pub padded_bytes : List ℕ → List ℕ
padded_bytes bytes = bytes ++ replicate (padded (length bytes) - length bytes) 0

-- the header of a stream; the name ends in a zero, and is padded
unfoldable pub stream_header : ℕ → ℕ → List ℕ → List ℕ
stream_header offset size name = little_bytes 4 offset ++ (little_bytes 4 size ++ name)

-- the names of the streams, each with its zeros
abbrev pub tables_name : List ℕ
tables_name = 0x23 ∷ 0x7E ∷ 0 ∷ 0 ∷ []

abbrev pub strings_name : List ℕ
strings_name = 0x23 ∷ 0x53 ∷ 0x74 ∷ 0x72 ∷ 0x69 ∷ 0x6E ∷ 0x67 ∷ 0x73 ∷ 0 ∷ 0 ∷ 0 ∷ 0 ∷ []

abbrev pub user_strings_name : List ℕ
user_strings_name = 0x23 ∷ 0x55 ∷ 0x53 ∷ 0 ∷ []

abbrev pub blob_name : List ℕ
blob_name = 0x23 ∷ 0x42 ∷ 0x6C ∷ 0x6F ∷ 0x62 ∷ 0 ∷ 0 ∷ 0 ∷ []

-- where the first stream begins: behind the root and the headers
abbrev pub streams_start : ℕ
streams_start = 92

-- the headers of four streams
unfoldable pub stream_headers : List ℕ → List ℕ → List ℕ → List ℕ → List ℕ
stream_headers tables strings user_strings blob =
    let second = streams_start + padded (length tables) in
    let third = second + padded (length strings) in
    let fourth = third + padded (length user_strings) in
    stream_header streams_start (length tables) tables_name
    ++ (stream_header second (length strings) strings_name
    ++ (stream_header third (length user_strings) user_strings_name
    ++ stream_header fourth (length blob) blob_name))

-- metadata with these streams
unfoldable pub streams_bytes : List ℕ → List ℕ → List ℕ → List ℕ → List ℕ
streams_bytes tables strings user_strings blob =
    root_bytes ++ (stream_headers tables strings user_strings blob
    ++ (padded_bytes tables ++ (padded_bytes strings ++ (padded_bytes user_strings ++ padded_bytes blob))))

unfoldable pub metadata_bytes : Content → List ℕ
metadata_bytes content = streams_bytes (tables_stream content.rows) content.strings content.user_strings content.blob
