-- Roots and streams alone: metadata that is cut, names of streams, and streams of one name.
use Rattle.std.proofs.Common.{◌≡◌, ℕ, List, [], ◌∷◌, ◌++◌, take, length, Ok, Err, refl}
use Rattle.std.specs.Prelude.{codes}
use Rattle.px_tables.specs.Metadata.{metadata_of}
use Rattle.px_tables.specs.Reading.{fault}
use Rattle.px_tables.specs.declared.fault.TableKind.TheVariants.{Cut, NoStream}
use Rattle.px_facts_load.proofs.FileWords.{zeros}
use Rattle.px_facts_load.proofs.TableWords.{beginning, metadata, stream_count, stream_header, tables}

-- METADATA THAT IS CUT to so many bytes

cut_to_nothing : metadata_of (take 0 metadata) ≡ Err (fault Cut 0)
unfolding tables
cut_to_nothing = refl

cut_in_the_signature : metadata_of (take 3 metadata) ≡ Err (fault Cut 0)
unfolding tables
cut_in_the_signature = refl

cut_after_the_signature : metadata_of (take 4 metadata) ≡ Err (fault Cut 12)
unfolding tables
cut_after_the_signature = refl

cut_in_the_size_of_the_text : metadata_of (take 15 metadata) ≡ Err (fault Cut 12)
unfolding tables
cut_in_the_size_of_the_text = refl

cut_before_the_text : metadata_of (take 16 metadata) ≡ Err (fault Cut 16)
unfolding tables
cut_before_the_text = refl

cut_in_the_text : metadata_of (take 19 metadata) ≡ Err (fault Cut 16)
unfolding tables
cut_in_the_text = refl

cut_after_the_text : metadata_of (take 20 metadata) ≡ Err (fault Cut 20)
unfolding tables
cut_after_the_text = refl

cut_after_the_flags : metadata_of (take 22 metadata) ≡ Err (fault Cut 22)
unfolding tables
cut_after_the_flags = refl

cut_before_the_first_stream_header : metadata_of (take 24 metadata) ≡ Err (fault Cut 24)
unfolding tables
cut_before_the_first_stream_header = refl

cut_after_the_place_of_a_stream : metadata_of (take 28 metadata) ≡ Err (fault Cut 28)
unfolding tables
cut_after_the_place_of_a_stream = refl

cut_after_the_size_of_a_stream : metadata_of (take 32 metadata) ≡ Err (fault Cut 32)
unfolding tables
cut_after_the_size_of_a_stream = refl

cut_in_the_name_of_a_stream : metadata_of (take 34 metadata) ≡ Err (fault Cut 32)
unfolding tables
cut_in_the_name_of_a_stream = refl

cut_after_the_first_stream_header : metadata_of (take 36 metadata) ≡ Err (fault Cut 24)
unfolding tables
cut_after_the_first_stream_header = refl

cut_in_the_last_byte : metadata_of (take 171 metadata) ≡ Err (fault Cut 56)
unfolding tables
cut_in_the_last_byte = refl

-- NAMES OF STREAMS, in roots without a text

-- a root that says how many streams there are, and the name of one at 28
abbrev root : ℕ → List ℕ → List ℕ
root streams name = beginning 0 ++ stream_count streams ++ stream_header 0 0 name

the_signature_alone : metadata_of (take 4 (beginning 0)) ≡ Err (fault Cut 12)
unfolding tables
the_signature_alone = refl

a_name_without_an_end : metadata_of (root 1 (codes "abc")) ≡ Err (fault Cut 28)
unfolding tables
a_name_without_an_end = refl

a_name_without_its_padding : metadata_of (root 1 (codes "abcd" ++ zeros 1)) ≡ Err (fault Cut 28)
unfolding tables
a_name_without_its_padding = refl

a_name_that_nothing_reads : metadata_of (root 1 (codes "abc" ++ zeros 1)) ≡ Err (fault NoStream 20)
unfolding tables
a_name_that_nothing_reads = refl

more_headers_than_there_are : metadata_of (beginning 0 ++ (0 ∷ 0 ∷ 0xFF ∷ 0xFF ∷ []) ++ stream_header 0 0 (codes "abc" ++ zeros 1)) ≡
    Err (fault Cut 32)
unfolding tables
more_headers_than_there_are = refl

-- STREAMS OF ONE NAME: the first one counts

-- Seven streams, of which two have the name of an earlier one. At 128 stand tables without rows, and from 152 on strings, others, user strings,
-- others, GUIDs and blobs.
abbrev seven : List ℕ
seven =
    beginning 0 ++ stream_count 7
    ++ stream_header 128 24 (codes "#~" ++ zeros 2) ++ stream_header 152 2 (codes "#Strings" ++ zeros 4) ++ stream_header 157 2 (codes "#US" ++ zeros 1)
    ++ stream_header 162 1 (codes "#Blob" ++ zeros 3) ++ stream_header 154 3 (codes "#Strings" ++ zeros 4) ++ stream_header 160 2 (codes "#GUID" ++ zeros 3)
    ++ stream_header 159 1 (codes "#US" ++ zeros 1)
    ++ (0 ∷ 0 ∷ 0 ∷ 0 ∷ 1 ∷ []) ++ zeros 19 ++ (0 ∷ 0x41 ∷ 0 ∷ 0x42 ∷ 0x43 ∷ 0 ∷ 1 ∷ 9 ∷ 7 ∷ 7 ∷ 0 ∷ [])

the_seven_streams_have_163_bytes : length seven ≡ 163
the_seven_streams_have_163_bytes = refl

-- a reader that takes the last of a name has the strings 0 ∷ 0x42 ∷ 0x43 ∷ [] and the user strings 9 ∷ []
the_first_of_a_name : metadata_of seven ≡ Ok (record {
  counts = record { heap_sizes = 0; rows = zeros 64 };
  rows = [];
  strings = 0 ∷ 0x41 ∷ [];
  user_strings = 0 ∷ 1 ∷ [];
  guid = 7 ∷ 7 ∷ [];
  blob = 0 ∷ [];
})
unfolding tables
the_first_of_a_name = refl
