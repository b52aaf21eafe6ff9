-- Metadata as it is written, and as it is read.
use Rattle.std.proofs.Common.{◌≡◌, ℕ, [], ◌∷◌, ◌++◌, length, take, drop, refl}
use Rattle.std.specs.Prelude.{codes}
use Rattle.std.proofs.lemmas.Bool.{false≢true}
use Rattle.px_asm_image.proofs.Fitting.{fits_back, fits_right}
use Rattle.px_asm_image.proofs.Whole.{written_is}
use Rattle.px_asm_image.specs.Fitting.{fits}
use Rattle.px_asm_image.specs.Layout.{Fits, IsMetadataOf, row_counts}
use Rattle.px_asm_image.specs.Metadata.{mask_of, metadata_bytes, stream_header, stream_headers, streams_bytes, tables_stream}
use Rattle.px_asm_image.specs.declared.content.Content.{Content}
use Rattle.px_tables.specs.Counts.{row_size}
use Rattle.px_tables.specs.Rows.{start_of}
use Rattle.px_tables.specs.declared.tables.Row.{Row}

-- all that is written of metadata: a fact that opens it computes with each part
unfoldable writing : Type 0
unfolding fits metadata_bytes row_counts row_size start_of stream_header stream_headers streams_bytes tables_stream
writing = Unit {0}

-- a module, a type and a method of that type

-- the module has this cell behind its five columns
abbrev module_with : ℕ → Row
module_with behind = record { cells = 0 ∷ 1 ∷ 0 ∷ 0 ∷ 0 ∷ behind ∷ 0 ∷ 0 ∷ 0 ∷ [] }

abbrev class : Row
class = record { cells = 0x10_0001 ∷ 3 ∷ 0 ∷ 0 ∷ 1 ∷ 1 ∷ 0 ∷ 0 ∷ 0 ∷ [] }

abbrev method : Row
method = record { cells = 0x2050 ∷ 0 ∷ 0x16 ∷ 5 ∷ 1 ∷ 1 ∷ 0 ∷ 0 ∷ 0 ∷ [] }

abbrev content_with : ℕ → Content
content_with behind = record {
  rows = (module_with behind ∷ []) ∷ [] ∷ (class ∷ []) ∷ [] ∷ [] ∷ [] ∷ (method ∷ []) ∷ [];
  strings = 0 ∷ codes "M" ++ 0 ∷ codes "C" ++ 0 ∷ codes "f" ++ 0 ∷ [];
  user_strings = 0 ∷ [];
  blob = 0 ∷ 3 ∷ 0 ∷ 0 ∷ 8 ∷ [];
}

abbrev content : Content
content = content_with 0

-- WHAT CAN BE WRITTEN

it_fits : Fits content
unfolding writing
it_fits = fits_right content refl

-- a body that passes cells behind the columns takes it
a_cell_behind_the_columns : Fits (content_with 1) → ⊥
unfolding writing
a_cell_behind_the_columns fits_it = false≢true (fits_back (content_with 1) fits_it)

-- THE TABLES

-- a body that marks the empty tables gives the bits 1, 3, 4 and 5
the_mask : mask_of content.rows ≡ 0x45
the_mask = refl

-- A body that makes heaps narrow gives 0 for the 7 in the first line; one that repeats the first cell 0x2050 in each of the method's columns.
the_tables : tables_stream content.rows ≡
    0 ∷ 0 ∷ 0 ∷ 0 ∷ 2 ∷ 0 ∷ 7 ∷ 1  -- the version and the wide heaps
    ∷ 0x45 ∷ 0 ∷ 0 ∷ 0 ∷ 0 ∷ 0 ∷ 0 ∷ 0 ∷ 0 ∷ 0 ∷ 0 ∷ 0 ∷ 0 ∷ 0 ∷ 0 ∷ 0  -- the tables, of which none is sorted
    ∷ 1 ∷ 0 ∷ 0 ∷ 0 ∷ 1 ∷ 0 ∷ 0 ∷ 0 ∷ 1 ∷ 0 ∷ 0 ∷ 0  -- the counts
    ∷ 0 ∷ 0 ∷ 1 ∷ 0 ∷ 0 ∷ 0 ∷ 0 ∷ 0 ∷ 0 ∷ 0 ∷ 0 ∷ 0 ∷ 0 ∷ 0 ∷ 0 ∷ 0 ∷ 0 ∷ 0  -- the module
    ∷ 0x01 ∷ 0 ∷ 0x10 ∷ 0 ∷ 3 ∷ 0 ∷ 0 ∷ 0 ∷ 0 ∷ 0 ∷ 0 ∷ 0 ∷ 0 ∷ 0 ∷ 1 ∷ 0 ∷ 1 ∷ 0  -- the type
    ∷ 0x50 ∷ 0x20 ∷ 0 ∷ 0 ∷ 0 ∷ 0 ∷ 0x16 ∷ 0 ∷ 5 ∷ 0 ∷ 0 ∷ 0 ∷ 1 ∷ 0 ∷ 0 ∷ 0 ∷ 1 ∷ 0  -- the method
    ∷ []
unfolding writing
the_tables = refl

-- THE WHOLE

its_size : length (metadata_bytes content) ≡ 204
unfolding writing
its_size = refl

-- behind the root: the first stream begins at 92, and has 90 bytes; a body that lets it begin later gives 96
the_header_of_the_tables : take 12 (drop 32 (metadata_bytes content)) ≡ 92 ∷ 0 ∷ 0 ∷ 0 ∷ 90 ∷ 0 ∷ 0 ∷ 0 ∷ codes "#~" ++ 0 ∷ 0 ∷ []
unfolding writing
the_header_of_the_tables = refl

the_headers_of_the_heaps : drop 44 (take 92 (metadata_bytes content)) ≡
    184 ∷ 0 ∷ 0 ∷ 0 ∷ 7 ∷ 0 ∷ 0 ∷ 0 ∷ codes "#Strings" ++ 0 ∷ 0 ∷ 0 ∷ 0
    ∷ 192 ∷ 0 ∷ 0 ∷ 0 ∷ 1 ∷ 0 ∷ 0 ∷ 0 ∷ codes "#US" ++ 0
    ∷ 196 ∷ 0 ∷ 0 ∷ 0 ∷ 5 ∷ 0 ∷ 0 ∷ 0 ∷ codes "#Blob" ++ 0 ∷ 0 ∷ 0 ∷ []
unfolding writing
the_headers_of_the_heaps = refl

the_heaps : drop 184 (metadata_bytes content) ≡ content.strings ++ 0 ∷ 0 ∷ 0 ∷ 0 ∷ 0 ∷ 0 ∷ 3 ∷ 0 ∷ 0 ∷ 8 ∷ 0 ∷ 0 ∷ 0 ∷ []
unfolding writing
the_heaps = refl

-- what is read has the rows and the heaps
it_is_read_as_it_was_written : IsMetadataOf content (metadata_bytes content)
it_is_read_as_it_was_written = written_is content it_fits
