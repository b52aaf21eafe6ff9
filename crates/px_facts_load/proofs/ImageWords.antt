-- How the facts write images.
use Rattle.std.specs.Prelude.{ℕ, List, [], ◌∷◌, ◌++◌, codes, Result, Ok, Err}
use Rattle.px_pe.specs.Image.{View, cli_address, form_at, headers_at, image_of, metadata_of, pe_offset}
use Rattle.px_pe.specs.Reading.{read_bytes, read_number}
use Rattle.px_pe.specs.Section.{check_section, section_of}
use Rattle.px_pe.specs.declared.fault.PeFault.{PeFault}
use Rattle.px_pe.specs.declared.section.Section.{Section}
use Rattle.px_pe.specs.declared.section.Span.{Span}
use Rattle.px_facts_load.proofs.FileWords.{four, zeros}

-- all readings of an image: a fact that opens it computes with each of them
unfoldable pub headers : Type 0
unfolding cli_address form_at headers_at image_of metadata_of pe_offset read_bytes read_number check_section section_of
headers = Unit {0}

-- the header of a section, with its address at 12, and the size and the place of its raw data after that
abbrev pub section_header : ℕ → ℕ → ℕ → List ℕ
section_header address size place = zeros 12 ++ four address ++ four size ++ four place ++ zeros 16

-- three sections, of which the third overlaps the first
abbrev pub section_headers : List ℕ
section_headers = section_header 0x2000 128 512 ++ section_header 0x3000 64 640 ++ section_header 0x2040 128 704

abbrev pub sections : List Section
sections =
    record { address = 0x2000; size = 128; place = 512 }
    ∷ record { address = 0x3000; size = 64; place = 640 }
    ∷ record { address = 0x2040; size = 128; place = 704 } ∷ []

-- the marks, and the COFF header at 132, which says that there are three sections, and how large the optional header at 152 is
abbrev pub front : ℕ → List ℕ
front size = codes "MZ" ++ zeros 58 ++ four 128 ++ zeros 64 ++ codes "PE" ++ (0 ∷ 0 ∷ 0 ∷ 0 ∷ 3 ∷ 0 ∷ []) ++ zeros 12 ++ (size ∷ 0 ∷ 0 ∷ 0 ∷ [])

-- the raw data from 512 on: the CLI header at 520, which names 32 bytes of metadata in the second section
abbrev pub raw_data : List ℕ
raw_data = zeros 16 ++ four 0x3010 ++ four 32 ++ zeros 296

-- an image of 832 bytes in the narrow form: the optional header has the number of directories at 244, and directory 14 at 360
abbrev pub image : List ℕ
image =
    front 224 ++ (0x0B ∷ 0x01 ∷ zeros 90) ++ four 16 ++ zeros 112 ++ four 0x2008 ++ four 72 ++ zeros 8 ++ section_headers ++ zeros 16 ++ raw_data

-- the same in the wide form, with the number of directories at 260, directory 14 at 376, and the section headers up to the raw data
abbrev pub wide : List ℕ
wide = front 240 ++ (0x0B ∷ 0x02 ∷ zeros 106) ++ four 16 ++ zeros 112 ++ four 0x2008 ++ four 72 ++ zeros 8 ++ section_headers ++ raw_data

-- where a file that is read has its metadata
abbrev pub metadata_in : Result View PeFault → Result Span PeFault
metadata_in (Ok view) = Ok view.metadata
metadata_in (Err fault) = Err fault
