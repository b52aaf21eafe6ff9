-- The parts of an image, one after the other as they are written: the fields of its headers, then the bodies, zeros up to a multiple of 4, and the metadata.
use Rattle.std.specs.Prelude.{ℕ, ◌+◌, ◌-◌, ◌*◌, ◌/◌, List, [], ◌∷◌, ◌++◌, length, replicate}
use Rattle.std.specs.List.{flat_map}
use Rattle.byteorder.specs.Endian.{little_bytes}
use Rattle.px_tables.specs.Streams.{padded}
use Rattle.px_asm_image.specs.declared.field.Field.{Field}
use Rattle.px_asm_image.specs.declared.field.Field.TheVariants.{Mark, U16, U32, Zeros}

-- the bytes of a field, the low one first
abbrev pub field_bytes : Field → List ℕ
field_bytes (Mark mark) = mark
field_bytes (U16 number) = little_bytes 2 number
field_bytes (U32 number) = little_bytes 4 number
field_bytes (Zeros count) = replicate count 0

-- the header of MS-DOS, which leads to the mark at 0x80, and the COFF header of a library with one section
unfoldable pub coff_header : List Field
coff_header =
    Mark (77 ∷ 90 ∷ 0 ∷ 0 ∷ []) ∷ Zeros 56 ∷ U32 0x80 ∷ Zeros 64 ∷ Mark (80 ∷ 69 ∷ 0 ∷ 0 ∷ []) ∷ U16 0x14C ∷ U16 1 ∷ Zeros 12 ∷ U16 224 ∷ U16 0x2102 ∷ []

-- the optional header in the form PE32 of an image whose section has so many bytes; directory 14 names the CLI header
unfoldable pub optional_header : ℕ → List Field
optional_header size =
    U16 0x10B ∷ U16 8 ∷ U32 size ∷ Zeros 12 ∷ U32 0x2000 ∷ Zeros 4 ∷ U32 0x400000 ∷ U32 0x2000 ∷ U32 0x200 ∷ U32 4 ∷ Zeros 4 ∷ U32 4 ∷ Zeros 4
    ∷ U32 ((size + 0x3FFF) / 0x2000 * 0x2000) ∷ U32 0x200 ∷ Zeros 4 ∷ U16 3 ∷ U16 0x8540 ∷ U32 0x100000 ∷ U32 0x1000 ∷ U32 0x100000 ∷ U32 0x1000 ∷ Zeros 4
    ∷ U32 16 ∷ Zeros 112 ∷ U32 0x2000 ∷ U32 72 ∷ Zeros 8 ∷ []

-- the header of the section, and zeros up to the section
unfoldable pub section_header : ℕ → List Field
section_header size =
    Mark (46 ∷ 116 ∷ 101 ∷ 120 ∷ []) ∷ Mark (116 ∷ 0 ∷ 0 ∷ 0 ∷ []) ∷ U32 size ∷ U32 0x2000 ∷ U32 size ∷ U32 0x200 ∷ Zeros 12 ∷ U32 0x60000020 ∷ Zeros 96 ∷ []

-- the CLI header, which names metadata of so many bytes at a place behind it
unfoldable pub cli_header : ℕ → ℕ → List Field
cli_header place metadata_size =
    U32 72 ∷ U16 2 ∷ U16 5 ∷ U32 (0x2048 + place) ∷ U32 metadata_size ∷ U32 1 ∷ Zeros 52 ∷ []

-- the headers of an image with so many bytes in its section, and among them, at a place behind the CLI header, so many of metadata
unfoldable pub headers_of : ℕ → ℕ → ℕ → List ℕ
headers_of size place metadata_size =
    flat_map field_bytes coff_header ++ flat_map field_bytes (optional_header size) ++ flat_map field_bytes (section_header size) ++ flat_map field_bytes (cli_header place metadata_size)

-- the size of the section: the CLI header, the bodies with their padding, the metadata
abbrev pub section_size : ℕ → ℕ → ℕ
section_size metadata_size bodies_size = 72 + padded bodies_size + metadata_size

-- the bodies, and zeros up to a multiple of 4
abbrev pub filled : List ℕ → List ℕ
filled bodies = bodies ++ replicate (padded (length bodies) - length bodies) 0

-- the whole image
abbrev pub image_bytes : List ℕ → List ℕ → List ℕ
image_bytes metadata bodies = headers_of (section_size (length metadata) (length bodies)) (padded (length bodies)) (length metadata) ++ (filled bodies ++ metadata)
