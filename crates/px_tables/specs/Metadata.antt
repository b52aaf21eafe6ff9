-- The header of the tables, and what is read of metadata (Partition II, 24.2.6). Places count from the metadata's start.
use Rattle.std.specs.Prelude.{◌≡◌, ℕ, zero, suc, ◌+◌, ◌<◌, ◌≤◌, ◌^◌, ◌==◌, ◌&&◌, ◌||◌, not, Bool, false, IsTrue, if◌then◌else◌, List, [], ◌∷◌, length, drop, slice_index, slice_index_or, Option, Some, None, Result, Ok, Err}
use Rattle.std.specs.List.{list_any, range_with_len}
use Rattle.px_tables.specs.declared.column.Column.TheVariants.{U8}
use Rattle.px_tables.specs.declared.column.Heap.{Heap}
use Rattle.px_tables.specs.declared.column.Heap.TheVariants as heaps
use Rattle.px_tables.specs.declared.counts.Counts.{Counts}
use Rattle.px_tables.specs.declared.fault.TableFault.{TableFault}
use Rattle.px_tables.specs.declared.fault.TableKind.{TableKind}
use Rattle.px_tables.specs.declared.fault.TableKind.TheVariants.{BadIndex, BadVersion, Cut, UnknownTable}
use Rattle.px_tables.specs.declared.header.Header.{Header}
use Rattle.px_tables.specs.declared.streams.Streams.{Streams}
use Rattle.px_tables.specs.Columns.{columns_of}
use Rattle.px_tables.specs.Counts.{has_bit, is_bad, rows_of}
use Rattle.px_tables.specs.Reading.{Part, fault, read_number}
use Rattle.px_reading.specs.Reading.{◌>>=◌}
use Rattle.px_tables.specs.Rows.{Rows, cut_of, first_bad, has_indexes_looked_at, row_of}
use Rattle.px_tables.specs.Streams.{found_in, root_of, streams_of}

-- the row counts, from that of a table on, of the next so many tables, and where what follows them begins; a table has one where its bit of
-- the mask is set, and else no rows
unfoldable pub counts_at : ℕ → ℕ → ℕ → Part → ℕ → Result (List ℕ × ℕ) TableFault
counts_at zero table valid part at = Ok ([], at)
counts_at (suc n) table valid part at =
    if has_bit valid table
    then (read_number 4 part at >>= λ count. counts_at n (table + 1) valid part (at + 4) >>= λ rest. Ok (count ∷ rest.0, rest.1))
    else (counts_at n (table + 1) valid part at >>= λ rest. Ok (0 ∷ rest.0, rest.1))

-- The header: the major version, which is 1 or 2, the flags of wide heaps, the mask of tables, that of sorted ones, and the counts. What is
-- read is the mask, the counts, and where in the part the rows begin.
unfoldable pub header_of : Part → Result Header TableFault
header_of part =
    read_number 1 part 4 >>= λ major. if not ((major == 1) || (major == 2)) then Err (fault BadVersion (part.start + 4))
    else (read_number 1 part 6 >>= λ heap_sizes. read_number 8 part 8 >>= λ valid. read_number 8 part 16 >>= λ sorted.
    counts_at 64 0 valid part 24 >>= λ counts.
    Ok (record { valid = valid; counts = record { heap_sizes = heap_sizes; rows = counts.0 }; behind = counts.1 }))

-- a bit is set for a number that no table has
unfoldable pub has_unknown : ℕ → Bool
has_unknown valid = list_any (λ table. has_bit valid table && (length (columns_of table) == 0)) (range_with_len 0 64)

-- a fault where something stands at a place; else the reading goes on
abbrev pub fault_at : {A : Type 0} → TableKind → ℕ → Option ℕ → Result A TableFault → Result A TableFault
fault_at kind start None rest = rest
fault_at kind start (Some at) rest = Err (fault kind (start + at))

-- the rows, where there is no unknown table, no row that is cut and no index that names no row
unfoldable pub rows_in : Part → Header → Result Rows TableFault
rows_in part header =
    let start = part.start + header.behind in
    let bytes = drop header.behind part.bytes in
    if has_unknown header.valid then Err (fault UnknownTable (part.start + 8))
    else fault_at Cut start (cut_of header.counts (length bytes))
    (fault_at BadIndex start (first_bad header.counts bytes) (Ok (record { counts = header.counts; bytes = bytes })))

-- what is known of metadata: how many rows the tables have, the bytes from the first row on, and the heaps
pub record View : Type 0 where
  pub counts : Counts
  pub rows : List ℕ
  pub strings : List ℕ
  pub user_strings : List ℕ
  pub guid : List ℕ
  pub blob : List ℕ

abbrev pub heap_of : View → Heap → List ℕ
heap_of v heaps.Strings = v.strings
heap_of v heaps.UserStrings = v.user_strings
heap_of v heaps.Guid = v.guid
heap_of v heaps.Blob = v.blob

abbrev pub view_of : Streams → Rows → View
view_of streams rows =
    record {
      counts = rows.counts;
      rows = rows.bytes;
      strings = streams.strings.bytes;
      user_strings = streams.user_strings.bytes;
      guid = streams.guid.bytes;
      blob = streams.blob.bytes;
    }

-- the metadata, or the first fault in the order of its parts
unfoldable pub metadata_of : List ℕ → Result View TableFault
metadata_of metadata =
    root_of metadata >>= λ root. found_in metadata root >>= λ found. streams_of found root.first >>= λ streams.
    header_of streams.tables >>= λ header. rows_in streams.tables header >>= λ rows. Ok (view_of streams rows)

-- What is so of all metadata that is read: sizes are limited, and in the tables whose indexes are looked at each index names a row of its
-- table, or none where it is 0, or the first of a list of members that is empty.
pub record IsSound (v : View) : Type 0 where
  pub few : (table : ℕ) → 0 < length (columns_of table) → rows_of v.counts table < 2 ^ 31
  pub short_rows : length v.rows < 2 ^ 31
  pub short_heaps : (heap : Heap) → length (heap_of v heap) < 2 ^ 31
  pub indexes : (table n k : ℕ) → IsTrue (has_indexes_looked_at table) → 0 < n → n ≤ rows_of v.counts table → k < length (columns_of table)
      → is_bad v.counts (slice_index_or (columns_of table) k U8) (slice_index (row_of v.counts v.rows table n) k) ≡ false
