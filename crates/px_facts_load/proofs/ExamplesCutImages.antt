-- Images that are cut to so many bytes, and short files, each with its first fault and the byte at which it is.
use Rattle.std.proofs.Common.{◌≡◌, ◌++◌, take, Err, refl}
use Rattle.std.specs.Prelude.{codes}
use Rattle.px_pe.specs.Image.{image_of}
use Rattle.px_pe.specs.Reading.{fault}
use Rattle.px_pe.specs.declared.fault.PeKind.TheVariants.{BadSections, Cut, NotPe}
use Rattle.px_facts_load.proofs.FileWords.{four, zeros}
use Rattle.px_facts_load.proofs.ImageWords.{headers, image, wide}

-- MARKS

cut_to_nothing : image_of (take 0 image) ≡ Err (fault NotPe 0)
unfolding headers
cut_to_nothing = refl

cut_in_the_first_mark : image_of (take 1 image) ≡ Err (fault NotPe 0)
unfolding headers
cut_in_the_first_mark = refl

cut_after_the_first_mark : image_of (take 4 image) ≡ Err (fault NotPe 0)
unfolding headers
cut_after_the_first_mark = refl

cut_one_byte_before_64 : image_of (take 63 image) ≡ Err (fault NotPe 0)
unfolding headers
cut_one_byte_before_64 = refl

cut_at_64 : image_of (take 64 image) ≡ Err (fault Cut 128)
unfolding headers
cut_at_64 = refl

cut_in_the_second_mark : image_of (take 131 image) ≡ Err (fault Cut 128)
unfolding headers
cut_in_the_second_mark = refl

-- HEADERS

cut_after_the_second_mark : image_of (take 132 image) ≡ Err (fault Cut 134)
unfolding headers
cut_after_the_second_mark = refl

cut_in_the_number_of_sections : image_of (take 135 image) ≡ Err (fault Cut 134)
unfolding headers
cut_in_the_number_of_sections = refl

cut_after_the_number_of_sections : image_of (take 136 image) ≡ Err (fault Cut 148)
unfolding headers
cut_after_the_number_of_sections = refl

cut_in_the_size_of_the_optional_header : image_of (take 149 image) ≡ Err (fault Cut 148)
unfolding headers
cut_in_the_size_of_the_optional_header = refl

cut_after_that_size : image_of (take 150 image) ≡ Err (fault Cut 152)
unfolding headers
cut_after_that_size = refl

cut_in_the_magic_number : image_of (take 153 image) ≡ Err (fault Cut 152)
unfolding headers
cut_in_the_magic_number = refl

cut_after_the_magic_number : image_of (take 154 image) ≡ Err (fault Cut 244)
unfolding headers
cut_after_the_magic_number = refl

cut_in_the_number_of_directories : image_of (take 247 image) ≡ Err (fault Cut 244)
unfolding headers
cut_in_the_number_of_directories = refl

cut_after_the_number_of_directories : image_of (take 248 image) ≡ Err (fault Cut 360)
unfolding headers
cut_after_the_number_of_directories = refl

cut_in_the_directory : image_of (take 364 image) ≡ Err (fault Cut 360)
unfolding headers
cut_in_the_directory = refl

cut_in_the_size_of_the_directory : image_of (take 367 image) ≡ Err (fault Cut 360)
unfolding headers
cut_in_the_size_of_the_directory = refl

cut_after_the_directory : image_of (take 368 image) ≡ Err (fault Cut 376)
unfolding headers
cut_after_the_directory = refl

-- SECTIONS

cut_in_the_first_section_header : image_of (take 415 image) ≡ Err (fault Cut 376)
unfolding headers
cut_in_the_first_section_header = refl

cut_after_the_first_section_header : image_of (take 416 image) ≡ Err (fault BadSections 376)
unfolding headers
cut_after_the_first_section_header = refl

cut_in_the_first_section : image_of (take 639 image) ≡ Err (fault BadSections 376)
unfolding headers
cut_in_the_first_section = refl

cut_after_the_first_section : image_of (take 640 image) ≡ Err (fault BadSections 416)
unfolding headers
cut_after_the_first_section = refl

cut_in_the_second_section : image_of (take 703 image) ≡ Err (fault BadSections 416)
unfolding headers
cut_in_the_second_section = refl

cut_after_the_second_section : image_of (take 704 image) ≡ Err (fault BadSections 456)
unfolding headers
cut_after_the_second_section = refl

cut_in_the_last_byte : image_of (take 831 image) ≡ Err (fault BadSections 456)
unfolding headers
cut_in_the_last_byte = refl

-- THE WIDE FORM

wide_cut_after_the_magic_number : image_of (take 154 wide) ≡ Err (fault Cut 260)
unfolding headers
wide_cut_after_the_magic_number = refl

wide_cut_in_the_number_of_directories : image_of (take 263 wide) ≡ Err (fault Cut 260)
unfolding headers
wide_cut_in_the_number_of_directories = refl

wide_cut_after_the_number_of_directories : image_of (take 264 wide) ≡ Err (fault Cut 376)
unfolding headers
wide_cut_after_the_number_of_directories = refl

wide_cut_in_the_directory : image_of (take 383 wide) ≡ Err (fault Cut 376)
unfolding headers
wide_cut_in_the_directory = refl

wide_cut_after_the_directory : image_of (take 384 wide) ≡ Err (fault Cut 392)
unfolding headers
wide_cut_after_the_directory = refl

wide_cut_in_the_first_section_header : image_of (take 431 wide) ≡ Err (fault Cut 392)
unfolding headers
wide_cut_in_the_first_section_header = refl

wide_cut_after_the_first_section_header : image_of (take 432 wide) ≡ Err (fault BadSections 392)
unfolding headers
wide_cut_after_the_first_section_header = refl

-- FILES OF 64 BYTES with an offset of the second mark, and a file of 4

a_mark_at_0 : image_of (codes "MZ" ++ zeros 62) ≡ Err (fault NotPe 0)
unfolding headers
a_mark_at_0 = refl

a_mark_at_the_end : image_of (codes "MZ" ++ zeros 58 ++ four 64) ≡ Err (fault Cut 64)
unfolding headers
a_mark_at_the_end = refl

a_mark_near_the_largest_place : image_of (codes "MZ" ++ zeros 58 ++ four 0xFFFF_FFF0) ≡ Err (fault Cut 0xFFFF_FFF0)
unfolding headers
a_mark_near_the_largest_place = refl

four_bytes : image_of (codes "MZ" ++ zeros 2) ≡ Err (fault NotPe 0)
unfolding headers
four_bytes = refl
