-- What is written is read as the content.
use Rattle.std.proofs.Common.{◌≡◌, ◌≤◌, ◌<◌, ◌+◌, ◌-◌, ◌*◌, ◌^◌, ℕ, List, [], ◌∷◌, ◌++◌, length, get_or, Some, Result, Ok, Err, Vec, Global, IfOk, refl, ◌∙◌, ap, arith, length-append, length-drop}
use Rattle.std.specs.Prelude.{slice_get}
use Rattle.std.proofs.lemmas.List.{drop_all}
use Rattle.byteorder.specs.Endian.{little_bytes}
use Rattle.px_tables.specs.declared.tables.Row.{Row}
use Rattle.px_tables.specs.Metadata.{View, metadata_of, view_of}
use Rattle.px_tables.specs.Rows.{row_of, start_of}
use Rattle.px_asm_image.specs.declared.content.Content.{Content}
use Rattle.px_asm_image.specs.Layout.{Fits, IsMetadataOf, RowsFit, counts_of}
use Rattle.px_asm_image.specs.Metadata.{count_bytes, header_bytes, mask_of, metadata_bytes, padded_bytes, stream_headers, streams_bytes, table_bytes, tables_stream}
use Rattle.px_asm_image.proofs.Placed.{behind_is}
use Rattle.px_asm_image.proofs.Laid.{Counted, row_read, row_there, table_there}
use Rattle.px_asm_image.proofs.Headed.{all_known, bit_is, count_is, header_any, mask_small, none_bad_at, none_cut, none_first_bad, rows_read, rows_there}
use Rattle.px_asm_image.proofs.Streamed.{headers_read, root_read, streams_read, streams_written}

few_counts : (tables : List (List Row)) → length (count_bytes tables) ≤ 4 * length tables
few_counts [] = omega arith
few_counts ([] ∷ tables) = omega (arith, few_counts tables)
few_counts ((row ∷ rows) ∷ tables) = omega (arith, length-append (little_bytes 4 (length (row ∷ rows))) (count_bytes tables), few_counts tables)

counted : (tables : List (List Row)) → length tables ≤ 64 → Counted (counts_of tables) tables
counted tables few table = count_is 64 tables table few

-- all rows end where those of the last table do
pub rows_end : (tables : List (List Row)) → length tables ≤ 64 → ((table : ℕ) → RowsFit (counts_of tables) table (get_or tables table []))
    → length (table_bytes (counts_of tables) 0 tables) ≡ start_of (counts_of tables) 64
rows_end tables few fit =
    let last = table_there (counts_of tables) tables (counted tables few) fit 64 in
    let none = last.0 ∙ ap (table_bytes (counts_of tables) 64) (drop_all 64 tables few) in
    let left = ap length none in
    omega (arith, left, length-drop (start_of (counts_of tables) 64) (table_bytes (counts_of tables) 0 tables), last.1)

pub length-tables : (tables : List (List Row)) → length (tables_stream tables) ≡ 24 + length (count_bytes tables) + length (table_bytes (counts_of tables) 0 tables)
unfolding tables_stream
length-tables tables =
    let rows = table_bytes (counts_of tables) 0 tables in
    omega (arith, length-append (header_bytes (mask_of tables)) (count_bytes tables ++ rows), length-append (count_bytes tables) rows)

-- the streams are short
pub streams_short : (content : Content) → Fits content
    → length (tables_stream content.rows) + length content.strings + length content.user_strings + length content.blob < 2 ^ 31
streams_short content fits =
    let few = fits.few_tables in
    let short = fits.short in
    omega (arith, length-tables content.rows, rows_end content.rows few fits.rows, few_counts content.rows)

abbrev pub view_written : Content → View
view_written content =
    view_of (streams_written (tables_stream content.rows) content.strings content.user_strings content.blob)
    (record { counts = counts_of content.rows; bytes = table_bytes (counts_of content.rows) 0 content.rows })

metadata_read : (content : Content) → Fits content → metadata_of (metadata_bytes content) ≡ Ok (view_written content)
unfolding metadata_of metadata_bytes streams_bytes tables_stream
metadata_read content fits =
    let tables = content.rows in
    let counts = counts_of tables in
    let rows = table_bytes counts 0 tables in
    let stream = tables_stream tables in
    let few = fits.few_tables in
    let right = counted tables few in
    let root = root_read (stream_headers stream content.strings content.user_strings content.blob
    ++ (padded_bytes stream ++ (padded_bytes content.strings ++ (padded_bytes content.user_strings ++ padded_bytes content.blob)))) in
    let found = headers_read stream content.strings content.user_strings content.blob (streams_short content fits) in
    let streams = streams_read stream content.strings content.user_strings content.blob in
    let small = mask_small tables few in
    let header = header_any (mask_of tables) 92 tables rows (omega arith) few (λ k. let e : 0 + k ≡ k = omega arith in rw e (bit_is tables k)) fits.few_rows in
    let placed = table_there counts tables right fits.rows in
    let read = rows_read (record { start = 92; bytes = stream }) (record { valid = mask_of tables; counts = counts; behind = 24 + length (count_bytes tables) }) rows
    (all_known tables fits.known) (behind_is 24 (length (count_bytes tables)) stream (count_bytes tables) rows refl refl)
    (none_cut counts (length rows) (λ table. (placed table).1))
    (none_first_bad counts rows (λ table looked. none_bad_at counts tables right fits.rows table looked)) in
    rw (root, found, streams, header, read) refl

row_written : (content : Content) → Fits content → (table n : ℕ) (row : Row) → slice_get (get_or content.rows table []) n ≡ Some row
    → row_of (counts_of content.rows) (table_bytes (counts_of content.rows) 0 content.rows) table (n + 1) ≡ row.cells
row_written content fits table n row is =
    let tables = content.rows in
    let counts = counts_of tables in
    let bytes = table_bytes counts 0 tables in
    let there = rows_there counts tables (counted tables fits.few_tables) fits.rows table in
    let here = row_there counts table (start_of counts table) n row (get_or tables table []) bytes there.0 (fits.rows table) there.1 is in
    let e : n + 1 - 1 ≡ n = omega arith in
    row_read counts bytes row.cells here.0 table (n + 1) (fits.rows table n row is) (rw e here.1)

-- the content is what is read of the bytes that are written
pub written_is : (content : Content) → Fits content → IsMetadataOf content (metadata_bytes content)
written_is content fits =
    record {
      view = view_written content;
      read = metadata_read content fits;
      counts = counted content.rows fits.few_tables;
      cells = row_written content fits;
      strings = refl;
      user_strings = refl;
      guid = refl;
      blob = refl;
    }

-- what is written of streams that are the content's
pub whole_is : {E : Type 0} (content : Content) (r : Result (Vec ℕ Global) E) (t s u b : List ℕ) → Fits content → t ≡ tables_stream content.rows → s ≡ content.strings
    → u ≡ content.user_strings → b ≡ content.blob → IfOk r (λ bytes. bytes.items ≡ streams_bytes t s u b) → IfOk r (λ bytes. IsMetadataOf content bytes.items)
unfolding metadata_bytes
whole_is content (Ok bytes) t s u b fits tables strings user_strings blob is =
    let same : bytes.items ≡ streams_bytes (tables_stream content.rows) content.strings content.user_strings content.blob = rw (← tables, ← strings, ← user_strings, ← blob) is in
    rw same (written_is content fits)
whole_is content (Err e) t s u b fits tables strings user_strings blob is = tt
