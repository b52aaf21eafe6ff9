-- Images, and damaged copies, each with its first fault and the byte at which it is.
use Rattle.std.proofs.Common.{◌≡◌, [], ◌∷◌, ◌++◌, length, Ok, Err, refl}
use Rattle.std.specs.Prelude.{codes}
use Rattle.px_pe.specs.Image.{image_of}
use Rattle.px_pe.specs.Reading.{fault}
use Rattle.px_pe.specs.declared.fault.PeKind.TheVariants.{BadSections, Cut, MetadataOutside, NoCliHeader, NotPe}
use Rattle.px_facts_load.proofs.FileWords.{four, put}
use Rattle.px_facts_load.proofs.ImageWords.{headers, image, metadata_in, sections, wide}

-- IMAGES THAT ARE READ

the_image_has_832_bytes : length image ≡ 832
the_image_has_832_bytes = refl

the_wide_image_has_832_bytes : length wide ≡ 832
the_wide_image_has_832_bytes = refl

-- a reader that refuses raw data up to the end of the file gives Err (fault BadSections 456), and one that reads the size of a section
-- with its high byte first gives Err (fault BadSections 376)
the_image_is_read : image_of image ≡ Ok (record { bytes = image; sections = sections; metadata = record { start = 656; len = 32 } })
unfolding headers
the_image_is_read = refl

-- a reader that looks for directory 14 of the wide form where the narrow one has it gives Err (fault NoCliHeader 360)
the_wide_image_is_read : image_of wide ≡ Ok (record { bytes = wide; sections = sections; metadata = record { start = 656; len = 32 } })
unfolding headers
the_wide_image_is_read = refl

two_sections : metadata_in (image_of (put 134 (0x02 ∷ []) image)) ≡ Ok (record { start = 656; len = 32 })
unfolding headers
two_sections = refl

eleven_section_headers : metadata_in (image_of (put 134 (0x0B ∷ []) image)) ≡ Ok (record { start = 656; len = 32 })
unfolding headers
eleven_section_headers = refl

fifteen_directories : metadata_in (image_of (put 244 (0x0F ∷ []) image)) ≡ Ok (record { start = 656; len = 32 })
unfolding headers
fifteen_directories = refl

many_directories : metadata_in (image_of (put 244 (four 0x0100_0000) image)) ≡ Ok (record { start = 656; len = 32 })
unfolding headers
many_directories = refl

another_size_of_the_directory : metadata_in (image_of (put 364 (0xFF ∷ 0xFF ∷ []) image)) ≡ Ok (record { start = 656; len = 32 })
unfolding headers
another_size_of_the_directory = refl

another_size_in_memory : metadata_in (image_of (put 384 (four 0xFFFF_FFFF) image)) ≡ Ok (record { start = 656; len = 32 })
unfolding headers
another_size_in_memory = refl

a_section_that_ends_with_the_CLI_header : metadata_in (image_of (put 392 (0x50 ∷ []) image)) ≡ Ok (record { start = 656; len = 32 })
unfolding headers
a_section_that_ends_with_the_CLI_header = refl

a_section_that_ends_with_the_file : metadata_in (image_of (put 392 (0x40 ∷ 0x01 ∷ []) image)) ≡ Ok (record { start = 656; len = 32 })
unfolding headers
a_section_that_ends_with_the_file = refl

metadata_up_to_the_end_of_its_section : metadata_in (image_of (put 532 (0x30 ∷ []) image)) ≡ Ok (record { start = 656; len = 48 })
unfolding headers
metadata_up_to_the_end_of_its_section = refl

no_metadata : metadata_in (image_of (put 532 (0x00 ∷ []) image)) ≡ Ok (record { start = 656; len = 0 })
unfolding headers
no_metadata = refl

a_section_up_to_the_end_of_all_addresses : metadata_in (image_of (put 428 (four 0xFFFF_FFC0) (put 528 (four 0xFFFF_FFD0 ++ four 48) image))) ≡
    Ok (record { start = 656; len = 48 })
unfolding headers
a_section_up_to_the_end_of_all_addresses = refl

-- MARKS

another_first_letter : image_of (put 0 (codes "N") image) ≡ Err (fault NotPe 0)
unfolding headers
another_first_letter = refl

another_second_letter : image_of (put 1 (codes "M") image) ≡ Err (fault NotPe 0)
unfolding headers
another_second_letter = refl

the_mark_at_0 : image_of (put 60 (0x00 ∷ []) image) ≡ Err (fault NotPe 0)
unfolding headers
the_mark_at_0 = refl

the_mark_one_byte_early : image_of (put 60 (0x7F ∷ []) image) ≡ Err (fault NotPe 127)
unfolding headers
the_mark_one_byte_early = refl

the_mark_one_byte_late : image_of (put 60 (0x81 ∷ []) image) ≡ Err (fault NotPe 129)
unfolding headers
the_mark_one_byte_late = refl

the_mark_in_the_last_bytes : image_of (put 60 (0x3C ∷ 0x03 ∷ []) image) ≡ Err (fault NotPe 828)
unfolding headers
the_mark_in_the_last_bytes = refl

the_mark_passes_the_end : image_of (put 60 (0x3D ∷ 0x03 ∷ []) image) ≡ Err (fault Cut 829)
unfolding headers
the_mark_passes_the_end = refl

the_mark_after_the_end : image_of (put 60 (0x80 ∷ 0x00 ∷ 0x00 ∷ 0x01 ∷ []) image) ≡ Err (fault Cut 0x0100_0080)
unfolding headers
the_mark_after_the_end = refl

the_mark_at_the_largest_place : image_of (put 60 (four 0xFFFF_FFFF) image) ≡ Err (fault Cut 0xFFFF_FFFF)
unfolding headers
the_mark_at_the_largest_place = refl

a_small_letter : image_of (put 128 (codes "p") image) ≡ Err (fault NotPe 128)
unfolding headers
a_small_letter = refl

another_letter : image_of (put 129 (codes "F") image) ≡ Err (fault NotPe 128)
unfolding headers
another_letter = refl

another_third_byte : image_of (put 130 (0x01 ∷ []) image) ≡ Err (fault NotPe 128)
unfolding headers
another_third_byte = refl

another_fourth_byte : image_of (put 131 (0x01 ∷ []) image) ≡ Err (fault NotPe 128)
unfolding headers
another_fourth_byte = refl

-- THE COFF HEADER: how many sections there are, and how large the optional header is

no_sections : image_of (put 134 (0x00 ∷ []) image) ≡ Err (fault NoCliHeader 360)
unfolding headers
no_sections = refl

one_section : image_of (put 134 (0x01 ∷ []) image) ≡ Err (fault MetadataOutside 528)
unfolding headers
one_section = refl

twelve_sections : image_of (put 134 (0x0C ∷ []) image) ≡ Err (fault Cut 816)
unfolding headers
twelve_sections = refl

most_sections : image_of (put 134 (0xFF ∷ 0xFF ∷ []) image) ≡ Err (fault Cut 816)
unfolding headers
most_sections = refl

sections_in_the_optional_header : image_of (put 148 (0x00 ∷ []) image) ≡ Err (fault NoCliHeader 360)
unfolding headers
sections_in_the_optional_header = refl

the_first_section_in_the_last_bytes : image_of (put 148 (0x80 ∷ 0x02 ∷ []) image) ≡ Err (fault Cut 832)
unfolding headers
the_first_section_in_the_last_bytes = refl

the_first_section_passes_the_end : image_of (put 148 (0x81 ∷ 0x02 ∷ []) image) ≡ Err (fault Cut 793)
unfolding headers
the_first_section_passes_the_end = refl

the_largest_optional_header : image_of (put 148 (0xFF ∷ 0xFF ∷ []) image) ≡ Err (fault Cut 65_687)
unfolding headers
the_largest_optional_header = refl

-- THE OPTIONAL HEADER

no_magic_number : image_of (put 152 (0x00 ∷ 0x00 ∷ []) image) ≡ Err (fault NotPe 152)
unfolding headers
no_magic_number = refl

magic_number_10C : image_of (put 152 (0x0C ∷ []) image) ≡ Err (fault NotPe 152)
unfolding headers
magic_number_10C = refl

magic_number_107 : image_of (put 152 (0x07 ∷ []) image) ≡ Err (fault NotPe 152)
unfolding headers
magic_number_107 = refl

the_magic_number_with_its_high_byte_first : image_of (put 152 (0x01 ∷ 0x0B ∷ []) image) ≡ Err (fault NotPe 152)
unfolding headers
the_magic_number_with_its_high_byte_first = refl

magic_number_30B : image_of (put 153 (0x03 ∷ []) image) ≡ Err (fault NotPe 152)
unfolding headers
magic_number_30B = refl

no_directories : image_of (put 244 (0x00 ∷ []) image) ≡ Err (fault NoCliHeader 244)
unfolding headers
no_directories = refl

-- a reader that accepts fourteen directories reads the image
fourteen_directories : image_of (put 244 (0x0E ∷ []) image) ≡ Err (fault NoCliHeader 244)
unfolding headers
fourteen_directories = refl

a_CLI_header_at_address_0 : image_of (put 360 (0x00 ∷ 0x00 ∷ []) image) ≡ Err (fault NoCliHeader 360)
unfolding headers
a_CLI_header_at_address_0 = refl

a_CLI_header_before_its_section : image_of (put 360 (0xFF ∷ 0x1F ∷ []) image) ≡ Err (fault NoCliHeader 360)
unfolding headers
a_CLI_header_before_its_section = refl

a_CLI_header_past_its_section : image_of (put 360 (0x39 ∷ 0x20 ∷ []) image) ≡ Err (fault NoCliHeader 360)
unfolding headers
a_CLI_header_past_its_section = refl

a_CLI_header_at_the_last_address : image_of (put 360 (four 0xFFFF_FFFF) image) ≡ Err (fault NoCliHeader 360)
unfolding headers
a_CLI_header_at_the_last_address = refl

a_CLI_header_in_the_last_bytes_of_its_section : image_of (put 360 (0x38 ∷ 0x20 ∷ []) image) ≡ Err (fault MetadataOutside 576)
unfolding headers
a_CLI_header_in_the_last_bytes_of_its_section = refl

the_first_of_two_in_the_optional_header : image_of (put 153 (0x03 ∷ []) (put 244 (0x0E ∷ []) image)) ≡ Err (fault NotPe 152)
unfolding headers
the_first_of_two_in_the_optional_header = refl

-- THE SECTION HEADERS

a_section_that_begins_after_the_CLI_header : image_of (put 388 (0x09 ∷ []) image) ≡ Err (fault NoCliHeader 360)
unfolding headers
a_section_that_begins_after_the_CLI_header = refl

a_section_of_another_address : image_of (put 388 (0x00 ∷ 0x40 ∷ []) image) ≡ Err (fault NoCliHeader 360)
unfolding headers
a_section_of_another_address = refl

a_section_that_ends_in_the_CLI_header : image_of (put 392 (0x4F ∷ []) image) ≡ Err (fault NoCliHeader 360)
unfolding headers
a_section_that_ends_in_the_CLI_header = refl

raw_data_one_byte_past_the_end : image_of (put 392 (0x41 ∷ 0x01 ∷ []) image) ≡ Err (fault BadSections 376)
unfolding headers
raw_data_one_byte_past_the_end = refl

raw_data_of_the_largest_size : image_of (put 392 (four 0xFFFF_FFFF) image) ≡ Err (fault BadSections 376)
unfolding headers
raw_data_of_the_largest_size = refl

raw_data_one_byte_later : image_of (put 396 (0xC1 ∷ 0x02 ∷ []) image) ≡ Err (fault BadSections 376)
unfolding headers
raw_data_one_byte_later = refl

raw_data_at_the_last_places : image_of (put 396 (0x80 ∷ 0xFF ∷ 0xFF ∷ 0xFF ∷ []) image) ≡ Err (fault BadSections 376)
unfolding headers
raw_data_at_the_last_places = refl

raw_data_of_another_section : image_of (put 396 (0xC0 ∷ 0x02 ∷ []) image) ≡ Err (fault MetadataOutside 720)
unfolding headers
raw_data_of_another_section = refl

a_section_that_begins_after_the_metadata : image_of (put 428 (0x11 ∷ []) image) ≡ Err (fault MetadataOutside 528)
unfolding headers
a_section_that_begins_after_the_metadata = refl

a_section_that_ends_in_the_metadata : image_of (put 432 (0x2F ∷ []) image) ≡ Err (fault MetadataOutside 528)
unfolding headers
a_section_that_ends_in_the_metadata = refl

raw_data_of_the_second_past_the_end : image_of (put 432 (0xC1 ∷ []) image) ≡ Err (fault BadSections 416)
unfolding headers
raw_data_of_the_second_past_the_end = refl

raw_data_of_the_third_past_the_end : image_of (put 472 (0x81 ∷ []) image) ≡ Err (fault BadSections 456)
unfolding headers
raw_data_of_the_third_past_the_end = refl

the_first_of_two_sections : image_of (put 392 (0x41 ∷ 0x01 ∷ []) (put 432 (0xC1 ∷ []) image)) ≡ Err (fault BadSections 376)
unfolding headers
the_first_of_two_sections = refl

-- THE CLI HEADER, which names the metadata at 528

-- a reader that names the next byte gives Err (fault MetadataOutside 529)
metadata_at_address_0 : image_of (put 528 (0x00 ∷ 0x00 ∷ []) image) ≡ Err (fault MetadataOutside 528)
unfolding headers
metadata_at_address_0 = refl

metadata_before_its_section : image_of (put 528 (0xFF ∷ 0x2F ∷ []) image) ≡ Err (fault MetadataOutside 528)
unfolding headers
metadata_before_its_section = refl

metadata_after_its_section : image_of (put 528 (0x41 ∷ 0x30 ∷ []) image) ≡ Err (fault MetadataOutside 528)
unfolding headers
metadata_after_its_section = refl

-- a reader that looks for the first byte of metadata alone reads the image
metadata_one_byte_past_its_section : image_of (put 532 (0x31 ∷ []) image) ≡ Err (fault MetadataOutside 528)
unfolding headers
metadata_one_byte_past_its_section = refl

metadata_of_the_largest_size : image_of (put 532 (four 0xFFFF_FFFF) image) ≡ Err (fault MetadataOutside 528)
unfolding headers
metadata_of_the_largest_size = refl

metadata_at_the_last_address : image_of (put 528 (four 0xFFFF_FFFF ++ four 1) image) ≡ Err (fault MetadataOutside 528)
unfolding headers
metadata_at_the_last_address = refl

-- THE WIDE FORM

the_magic_number_of_the_narrow_form : image_of (put 152 (0x0B ∷ 0x01 ∷ []) wide) ≡ Err (fault NoCliHeader 244)
unfolding headers
the_magic_number_of_the_narrow_form = refl

fourteen_wide_directories : image_of (put 260 (0x0E ∷ []) wide) ≡ Err (fault NoCliHeader 260)
unfolding headers
fourteen_wide_directories = refl

a_wide_CLI_header_at_address_0 : image_of (put 376 (0x00 ∷ 0x00 ∷ []) wide) ≡ Err (fault NoCliHeader 376)
unfolding headers
a_wide_CLI_header_at_address_0 = refl

a_wide_CLI_header_past_its_section : image_of (put 376 (0x39 ∷ 0x20 ∷ []) wide) ≡ Err (fault NoCliHeader 376)
unfolding headers
a_wide_CLI_header_past_its_section = refl

wide_raw_data_one_byte_past_the_end : image_of (put 408 (0x41 ∷ 0x01 ∷ []) wide) ≡ Err (fault BadSections 392)
unfolding headers
wide_raw_data_one_byte_past_the_end = refl

wide_metadata_before_its_section : image_of (put 528 (0xFF ∷ 0x2F ∷ []) wide) ≡ Err (fault MetadataOutside 528)
unfolding headers
wide_metadata_before_its_section = refl
