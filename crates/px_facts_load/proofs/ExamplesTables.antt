-- Metadata, and damaged copies, each with its first fault and the byte at which it is.
use Rattle.std.proofs.Common.{◌≡◌, [], ◌∷◌, ◌++◌, length, Ok, Err, refl}
use Rattle.std.specs.Prelude.{codes}
use Rattle.px_tables.specs.Metadata.{metadata_of}
use Rattle.px_tables.specs.Reading.{fault}
use Rattle.px_tables.specs.declared.fault.TableKind.TheVariants.{BadIndex, BadRoot, BadVersion, Cut, NoStream, UnknownTable}
use Rattle.px_facts_load.proofs.FileWords.{four, put}
use Rattle.px_facts_load.proofs.TableWords.{blobs, metadata, rows, strings, tables, view}

-- METADATA THAT IS READ

the_metadata_has_172_bytes : length metadata ≡ 172
the_metadata_has_172_bytes = refl

-- A reader that forgets to pad names of streams gives Err (fault NoStream 24), and one that refuses lists of members that begin after the last
-- row gives Err (fault BadIndex 128).
the_metadata_is_read : metadata_of metadata ≡ Ok view
unfolding tables
the_metadata_is_read = refl

-- a reader that forgets to pad the text gives Err (fault NoStream 20)
a_text_of_one_byte_with_its_padding : metadata_of (put 12 (0x01 ∷ []) metadata) ≡ Ok view
unfolding tables
a_text_of_one_byte_with_its_padding = refl

other_flags : metadata_of (put 20 (0x01 ∷ []) metadata) ≡ Ok view
unfolding tables
other_flags = refl

version_1 : metadata_of (put 76 (0x01 ∷ []) metadata) ≡ Ok view
unfolding tables
version_1 = refl

sorted_tables : metadata_of (put 88 (0xFF ∷ []) metadata) ≡ Ok view
unfolding tables
sorted_tables = refl

a_longer_stream_of_tables : metadata_of (put 28 (0x64 ∷ []) metadata) ≡ Ok (record view { rows = rows ++ strings ++ blobs })
unfolding tables
a_longer_stream_of_tables = refl

row_0_of_another_table : metadata_of (put 126 (0x01 ∷ []) metadata) ≡ Ok (record view { rows = put 18 (1 ∷ []) rows })
unfolding tables
row_0_of_another_table = refl

a_list_of_fields_that_begins_at_0 : metadata_of (put 128 (0x00 ∷ []) metadata) ≡ Ok (record view { rows = put 20 (0 ∷ []) rows })
unfolding tables
a_list_of_fields_that_begins_at_0 = refl

a_list_of_methods_after_the_last_row : metadata_of (put 130 (0x02 ∷ []) metadata) ≡ Ok (record view { rows = put 22 (2 ∷ []) rows })
unfolding tables
a_list_of_methods_after_the_last_row = refl

-- THE ROOT

another_first_byte : metadata_of (put 0 (0x43 ∷ []) metadata) ≡ Err (fault BadRoot 0)
unfolding tables
another_first_byte = refl

another_fourth_byte : metadata_of (put 3 (0x00 ∷ []) metadata) ≡ Err (fault BadRoot 0)
unfolding tables
another_fourth_byte = refl

a_text_of_16_million_bytes : metadata_of (put 14 (0xFF ∷ []) metadata) ≡ Err (fault Cut 16)
unfolding tables
a_text_of_16_million_bytes = refl

the_longest_text : metadata_of (put 12 (four 0xFFFF_FFFF) metadata) ≡ Err (fault Cut 16)
unfolding tables
the_longest_text = refl

a_text_up_to_the_end : metadata_of (put 12 (0x99 ∷ []) metadata) ≡ Err (fault Cut 172)
unfolding tables
a_text_up_to_the_end = refl

a_text_up_to_the_last_number : metadata_of (put 12 (0x95 ∷ []) metadata) ≡ Err (fault Cut 172)
unfolding tables
a_text_up_to_the_last_number = refl

a_text_and_no_streams : metadata_of (put 12 (0x95 ∷ []) (put 170 (0x00 ∷ []) metadata)) ≡ Err (fault NoStream 172)
unfolding tables
a_text_and_no_streams = refl

a_text_of_eight_bytes : metadata_of (put 12 (0x05 ∷ []) metadata) ≡ Err (fault NoStream 28)
unfolding tables
a_text_of_eight_bytes = refl

no_streams : metadata_of (put 22 (0x00 ∷ []) metadata) ≡ Err (fault NoStream 24)
unfolding tables
no_streams = refl

two_streams : metadata_of (put 22 (0x02 ∷ []) metadata) ≡ Err (fault NoStream 24)
unfolding tables
two_streams = refl

four_streams : metadata_of (put 22 (0x04 ∷ []) metadata) ≡ Err (fault Cut 72)
unfolding tables
four_streams = refl

-- STREAMS

tables_that_pass_the_end : metadata_of (put 24 (0x55 ∷ []) metadata) ≡ Err (fault Cut 24)
unfolding tables
tables_that_pass_the_end = refl

tables_at_the_largest_place : metadata_of (put 24 (four 0xFFFF_FFFF) metadata) ≡ Err (fault Cut 24)
unfolding tables
tables_at_the_largest_place = refl

tables_that_are_one_byte_too_long : metadata_of (put 28 (0x65 ∷ []) metadata) ≡ Err (fault Cut 24)
unfolding tables
tables_that_are_one_byte_too_long = refl

strings_that_pass_the_end : metadata_of (put 36 (0xA5 ∷ []) metadata) ≡ Err (fault Cut 36)
unfolding tables
strings_that_pass_the_end = refl

strings_that_are_one_byte_too_long : metadata_of (put 40 (0x0D ∷ []) metadata) ≡ Err (fault Cut 36)
unfolding tables
strings_that_are_one_byte_too_long = refl

blobs_that_pass_the_end : metadata_of (put 56 (0xA9 ∷ []) metadata) ≡ Err (fault Cut 56)
unfolding tables
blobs_that_pass_the_end = refl

blobs_of_two_gigabytes : metadata_of (put 63 (0x80 ∷ []) metadata) ≡ Err (fault Cut 56)
unfolding tables
blobs_of_two_gigabytes = refl

tables_of_another_name : metadata_of (put 33 (codes "-") metadata) ≡ Err (fault NoStream 24)
unfolding tables
tables_of_another_name = refl

strings_with_a_small_letter : metadata_of (put 45 (codes "s") metadata) ≡ Err (fault NoStream 24)
unfolding tables
strings_with_a_small_letter = refl

blobs_with_a_small_letter : metadata_of (put 65 (codes "b") metadata) ≡ Err (fault NoStream 24)
unfolding tables
blobs_with_a_small_letter = refl

blobs_with_one_letter_more : metadata_of (put 69 (codes "s") metadata) ≡ Err (fault NoStream 24)
unfolding tables
blobs_with_one_letter_more = refl

-- THE HEADER OF THE TABLES

no_version : metadata_of (put 28 (0x04 ∷ []) metadata) ≡ Err (fault Cut 76)
unfolding tables
no_version = refl

version_0 : metadata_of (put 76 (0x00 ∷ []) metadata) ≡ Err (fault BadVersion 76)
unfolding tables
version_0 = refl

version_3 : metadata_of (put 76 (0x03 ∷ []) metadata) ≡ Err (fault BadVersion 76)
unfolding tables
version_3 = refl

version_3_before_a_cut : metadata_of (put 28 (0x05 ∷ []) (put 76 (0x03 ∷ []) metadata)) ≡ Err (fault BadVersion 76)
unfolding tables
version_3_before_a_cut = refl

no_heap_sizes : metadata_of (put 28 (0x06 ∷ []) metadata) ≡ Err (fault Cut 78)
unfolding tables
no_heap_sizes = refl

seven_bytes_of_the_mask : metadata_of (put 28 (0x0F ∷ []) metadata) ≡ Err (fault Cut 80)
unfolding tables
seven_bytes_of_the_mask = refl

seven_bytes_of_the_sorted_ones : metadata_of (put 28 (0x17 ∷ []) metadata) ≡ Err (fault Cut 88)
unfolding tables
seven_bytes_of_the_sorted_ones = refl

no_counts : metadata_of (put 28 (0x18 ∷ []) metadata) ≡ Err (fault Cut 96)
unfolding tables
no_counts = refl

one_count : metadata_of (put 28 (0x1C ∷ []) metadata) ≡ Err (fault Cut 100)
unfolding tables
one_count = refl

three_bytes_of_the_last_count : metadata_of (put 28 (0x23 ∷ []) metadata) ≡ Err (fault Cut 104)
unfolding tables
three_bytes_of_the_last_count = refl

-- a reader that passes unknown tables gives Err (fault Cut 154)
a_table_03 : metadata_of (put 80 (0x4D ∷ []) metadata) ≡ Err (fault UnknownTable 80)
unfolding tables
a_table_03 = refl

a_table_2D : metadata_of (put 85 (0x20 ∷ []) metadata) ≡ Err (fault UnknownTable 80)
unfolding tables
a_table_2D = refl

a_table_30 : metadata_of (put 86 (0x01 ∷ []) metadata) ≡ Err (fault UnknownTable 80)
unfolding tables
a_table_30 = refl

a_table_3F : metadata_of (put 87 (0x80 ∷ []) metadata) ≡ Err (fault UnknownTable 80)
unfolding tables
a_table_3F = refl

three_bytes_of_the_count_of_an_unknown_table : metadata_of (put 86 (0x01 ∷ []) (put 28 (0x27 ∷ []) metadata)) ≡ Err (fault Cut 108)
unfolding tables
three_bytes_of_the_count_of_an_unknown_table = refl

the_count_of_an_unknown_table : metadata_of (put 86 (0x01 ∷ []) (put 28 (0x28 ∷ []) metadata)) ≡ Err (fault UnknownTable 80)
unfolding tables
the_count_of_an_unknown_table = refl

an_unknown_table_and_wide_heaps : metadata_of (put 78 (0x07 ∷ []) (put 86 (0x01 ∷ []) metadata)) ≡ Err (fault UnknownTable 80)
unfolding tables
an_unknown_table_and_wide_heaps = refl

-- ROWS

no_rows : metadata_of (put 28 (0x24 ∷ []) metadata) ≡ Err (fault Cut 108)
unfolding tables
no_rows = refl

nine_bytes_of_the_first_row : metadata_of (put 28 (0x2D ∷ []) metadata) ≡ Err (fault Cut 108)
unfolding tables
nine_bytes_of_the_first_row = refl

-- a reader that names the place of the first row gives Err (fault Cut 108)
one_row : metadata_of (put 28 (0x2E ∷ []) metadata) ≡ Err (fault Cut 118)
unfolding tables
one_row = refl

two_rows : metadata_of (put 28 (0x3C ∷ []) metadata) ≡ Err (fault Cut 132)
unfolding tables
two_rows = refl

two_rows_and_thirteen_bytes : metadata_of (put 28 (0x49 ∷ []) metadata) ≡ Err (fault Cut 132)
unfolding tables
two_rows_and_thirteen_bytes = refl

three_rows : metadata_of (put 28 (0x4A ∷ []) metadata) ≡ Err (fault Cut 146)
unfolding tables
three_rows = refl

three_rows_and_thirteen_bytes : metadata_of (put 28 (0x57 ∷ []) metadata) ≡ Err (fault Cut 146)
unfolding tables
three_rows_and_thirteen_bytes = refl

wide_strings : metadata_of (put 78 (0x01 ∷ []) metadata) ≡ Err (fault Cut 156)
unfolding tables
wide_strings = refl

wide_GUIDs : metadata_of (put 78 (0x02 ∷ []) metadata) ≡ Err (fault Cut 152)
unfolding tables
wide_GUIDs = refl

wide_blobs : metadata_of (put 78 (0x04 ∷ []) metadata) ≡ Err (fault Cut 146)
unfolding tables
wide_blobs = refl

wide_heaps : metadata_of (put 78 (0x07 ∷ []) metadata) ≡ Err (fault Cut 144)
unfolding tables
wide_heaps = refl

two_modules : metadata_of (put 96 (0x02 ∷ []) metadata) ≡ Err (fault Cut 156)
unfolding tables
two_modules = refl

three_types : metadata_of (put 100 (0x03 ∷ []) metadata) ≡ Err (fault Cut 160)
unfolding tables
three_types = refl

so_many_types_that_indexes_are_wide : metadata_of (put 103 (0x01 ∷ []) metadata) ≡ Err (fault Cut 150)
unfolding tables
so_many_types_that_indexes_are_wide = refl

two_methods : metadata_of (put 104 (0x02 ∷ []) metadata) ≡ Err (fault Cut 160)
unfolding tables
two_methods = refl

so_many_methods_that_indexes_are_wide : metadata_of (put 106 (0x01 ∷ []) metadata) ≡ Err (fault Cut 150)
unfolding tables
so_many_methods_that_indexes_are_wide = refl

most_methods : metadata_of (put 104 (four 0xFFFF_FFFF) metadata) ≡ Err (fault Cut 150)
unfolding tables
most_methods = refl

-- INDEXES: the base of a type, which is a row of one of three tables by its low two bits

a_base_after_the_last_type : metadata_of (put 126 (0x0C ∷ []) metadata) ≡ Err (fault BadIndex 126)
unfolding tables
a_base_after_the_last_type = refl

a_base_after_the_last_reference : metadata_of (put 126 (0x05 ∷ []) metadata) ≡ Err (fault BadIndex 126)
unfolding tables
a_base_after_the_last_reference = refl

a_base_after_the_last_specification : metadata_of (put 126 (0x06 ∷ []) metadata) ≡ Err (fault BadIndex 126)
unfolding tables
a_base_after_the_last_specification = refl

a_base_of_no_table : metadata_of (put 126 (0x03 ∷ []) metadata) ≡ Err (fault BadIndex 126)
unfolding tables
a_base_of_no_table = refl

a_base_by_its_high_byte : metadata_of (put 127 (0x80 ∷ []) metadata) ≡ Err (fault BadIndex 126)
unfolding tables
a_base_by_its_high_byte = refl

the_base_of_the_second_type : metadata_of (put 140 (0x0C ∷ []) metadata) ≡ Err (fault BadIndex 140)
unfolding tables
the_base_of_the_second_type = refl

-- INDEXES: lists of fields, methods and parameters

fields_from_2_on_without_any : metadata_of (put 128 (0x02 ∷ []) metadata) ≡ Err (fault BadIndex 128)
unfolding tables
fields_from_2_on_without_any = refl

fields_by_the_high_byte : metadata_of (put 129 (0x01 ∷ []) metadata) ≡ Err (fault BadIndex 128)
unfolding tables
fields_by_the_high_byte = refl

methods_from_3_on_of_one : metadata_of (put 130 (0x03 ∷ []) metadata) ≡ Err (fault BadIndex 130)
unfolding tables
methods_from_3_on_of_one = refl

methods_of_the_second_type : metadata_of (put 144 (0x03 ∷ []) metadata) ≡ Err (fault BadIndex 144)
unfolding tables
methods_of_the_second_type = refl

parameters_from_2_on_without_any : metadata_of (put 158 (0x02 ∷ []) metadata) ≡ Err (fault BadIndex 158)
unfolding tables
parameters_from_2_on_without_any = refl

the_first_of_two_types : metadata_of (put 144 (0x03 ∷ []) (put 128 (0x02 ∷ []) metadata)) ≡ Err (fault BadIndex 128)
unfolding tables
the_first_of_two_types = refl

the_first_of_two_tables : metadata_of (put 158 (0x02 ∷ []) (put 140 (0x0C ∷ []) metadata)) ≡ Err (fault BadIndex 140)
unfolding tables
the_first_of_two_tables = refl
