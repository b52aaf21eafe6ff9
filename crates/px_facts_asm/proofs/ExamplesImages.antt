-- Images field by field, and what is read of them.
use Rattle.std.proofs.Common.{◌≡◌, ℕ, zero, suc, ◌+◌, ◌<◌, List, [], ◌∷◌, ◌++◌, length, take, drop, refl, Some, None, Ok, Err, arith}
use Rattle.std.specs.Prelude.{codes}
use Rattle.px_asm_image.specs.Image.{HasBodies, IsImageOf, first_body}
use Rattle.px_asm_image.specs.Metadata.{padded_bytes}
use Rattle.px_asm_image.specs.Parts.{cli_header, coff_header, field_bytes, headers_of, image_bytes, optional_header, section_header}
use Rattle.px_asm_image.specs.declared.field.Field.TheVariants.{U16, U32, Zeros}
use Rattle.px_pe.specs.Image.{View, cli_address, form_at, headers_at, image_of, metadata_of, pe_offset}
use Rattle.px_pe.specs.Reading.{fault, read_bytes, read_number}
use Rattle.px_pe.specs.Section.{check_section, rest_at, section_of}
use Rattle.px_pe.specs.declared.fault.PeKind.TheVariants.{BadSections}

-- all headers, and all readings of images: a fact that opens them computes with each
unfoldable headers : Type 0
unfolding cli_header coff_header headers_of optional_header section_header
headers = Unit {0}

unfoldable readings : Type 0
unfolding check_section cli_address form_at headers_at image_of metadata_of pe_offset read_bytes read_number section_of
readings = Unit {0}

-- FIELDS AND PADDING

-- a body that writes the high byte first gives 1 ∷ 2 ∷ 3 ∷ 4 ∷ []
the_low_byte_first : field_bytes (U32 0x0403_0201) ≡ 1 ∷ 2 ∷ 3 ∷ 4 ∷ []
the_low_byte_first = refl

two_bytes : field_bytes (U16 0x0201) ≡ 1 ∷ 2 ∷ []
two_bytes = refl

-- a body that fills up with ones gives 1 ∷ 1 ∷ 1 ∷ []
zeros : field_bytes (Zeros 3) ≡ 0 ∷ 0 ∷ 0 ∷ []
zeros = refl

-- a body that pads with ones gives three ones behind the part
up_to_a_multiple_of_four : padded_bytes (codes "meta!") ≡ codes "meta!" ++ 0 ∷ 0 ∷ 0 ∷ []
up_to_a_multiple_of_four = refl

what_is_a_multiple_of_four : padded_bytes (codes "meta") ≡ codes "meta"
what_is_a_multiple_of_four = refl

-- AN IMAGE with five bytes of metadata and six of bodies

abbrev file : List ℕ
file = image_bytes (codes "meta!") (codes "bodies")

-- so many bytes of it from a place on
abbrev part : ℕ → ℕ → List ℕ
part at size = take size (drop at file)

its_size : length file ≡ 597
unfolding headers
its_size = refl

the_marks : (part 0 2 ≡ codes "MZ") × (part 0x3C 4 ≡ 0x80 ∷ 0 ∷ 0 ∷ 0 ∷ [])
unfolding headers
the_marks = (refl, refl)

-- the machine and one section, the size of the optional header, the characteristics
the_coff_header : (part 0x80 8 ≡ codes "PE" ++ 0 ∷ 0 ∷ 0x4C ∷ 0x01 ∷ 0x01 ∷ 0x00 ∷ []) × (part 0x94 4 ≡ 0xE0 ∷ 0 ∷ 0x02 ∷ 0x21 ∷ [])
unfolding headers
the_coff_header = (refl, refl)

the_magic_number : part 0x98 2 ≡ 0x0B ∷ 0x01 ∷ []
unfolding headers
the_magic_number = refl

the_alignments : part 0xB8 8 ≡ 0 ∷ 0x20 ∷ 0 ∷ 0 ∷ 0 ∷ 2 ∷ 0 ∷ 0 ∷ []
unfolding headers
the_alignments = refl

the_sizes_of_the_image_and_of_the_headers : part 0xD0 8 ≡ 0 ∷ 0x40 ∷ 0 ∷ 0 ∷ 0 ∷ 2 ∷ 0 ∷ 0 ∷ []
unfolding headers
the_sizes_of_the_image_and_of_the_headers = refl

the_subsystem : part 0xDC 2 ≡ 3 ∷ 0 ∷ []
unfolding headers
the_subsystem = refl

-- a body that counts fourteen of them gives 14 ∷ 0 ∷ 0 ∷ 0 ∷ [], and has no directory 14
the_count_of_directories : part 0xF4 4 ≡ 16 ∷ 0 ∷ 0 ∷ 0 ∷ []
unfolding headers
the_count_of_directories = refl

directory_14 : part 0x168 8 ≡ 0 ∷ 0x20 ∷ 0 ∷ 0 ∷ 72 ∷ 0 ∷ 0 ∷ 0 ∷ []
unfolding headers
directory_14 = refl

-- its name, sizes, address and place
the_header_of_the_section : part 0x178 24
    ≡ codes ".text" ++ 0 ∷ 0 ∷ 0 ∷ 0x55 ∷ 0 ∷ 0 ∷ 0 ∷ 0 ∷ 0x20 ∷ 0 ∷ 0 ∷ 0x55 ∷ 0 ∷ 0 ∷ 0 ∷ 0 ∷ 0x02 ∷ 0 ∷ 0 ∷ []
unfolding headers
the_header_of_the_section = refl

-- its size, the version, the metadata, and that there is only IL
the_cli_header : part 0x200 20 ≡ 72 ∷ 0 ∷ 0 ∷ 0 ∷ 2 ∷ 0 ∷ 5 ∷ 0 ∷ 0x50 ∷ 0x20 ∷ 0 ∷ 0 ∷ 5 ∷ 0 ∷ 0 ∷ 0 ∷ 1 ∷ 0 ∷ 0 ∷ 0 ∷ []
unfolding headers
the_cli_header = refl

the_bodies_and_the_metadata : (part 0x248 8 ≡ codes "bodies" ++ 0 ∷ 0 ∷ []) × (part 0x250 5 ≡ codes "meta!")
unfolding headers
the_bodies_and_the_metadata = (refl, refl)

-- WHAT IS READ of it

abbrev view : View
view = record { bytes = file; sections = record { address = 0x2000; size = 85; place = 512 } ∷ []; metadata = record { start = 592; len = 5 } }

it_is_an_image : image_of file ≡ Ok view
unfolding headers readings
it_is_an_image = refl

behind_the_first_byte_of_the_bodies : rest_at view.sections 0x2049 ≡ Some (record { start = 585; len = 12 })
behind_the_first_byte_of_the_bodies = refl

behind_the_section : rest_at view.sections 0x2055 ≡ None
behind_the_section = refl

-- two zeros and the metadata
abbrev behind : List ℕ
behind = 0 ∷ 0 ∷ codes "meta!"

bodies_from : (at : ℕ) → at < 6 → HasBodies file view (first_body + at) (drop at (codes "bodies"))
unfolding headers
bodies_from zero less = record { span = record { start = 584; len = 13 }; at = refl; rest = behind; are = refl }
bodies_from (suc zero) less = record { span = record { start = 585; len = 12 }; at = refl; rest = behind; are = refl }
bodies_from (suc (suc zero)) less = record { span = record { start = 586; len = 11 }; at = refl; rest = behind; are = refl }
bodies_from (suc (suc (suc zero))) less = record { span = record { start = 587; len = 10 }; at = refl; rest = behind; are = refl }
bodies_from (suc (suc (suc (suc zero)))) less = record { span = record { start = 588; len = 9 }; at = refl; rest = behind; are = refl }
bodies_from (suc (suc (suc (suc (suc zero))))) less = record { span = record { start = 589; len = 8 }; at = refl; rest = behind; are = refl }
bodies_from (suc (suc (suc (suc (suc (suc at)))))) less = absurd (omega arith)

it_has_its_parts : IsImageOf (codes "meta!") (codes "bodies") file
unfolding headers readings
it_has_its_parts = record { view = view; read = refl; metadata_is = refl; bodies_are = bodies_from }

-- what a body gives that cuts the bodies at their half: its section passes the end of the file
half_of_the_bodies : image_of (headers_of 85 8 5 ++ codes "bod" ++ codes "meta!") ≡ Err (fault BadSections 0x178)
unfolding headers readings
half_of_the_bodies = refl
