-- An image: Partition II, 25.2 and 25.3. Its marks and headers lead to its sections, and these to its metadata.
use Rattle.std.specs.Prelude.{ℕ, ◌+◌, ◌==◌, ◌||◌, not, nat_lt, if◌then◌else◌, List, [], ◌∷◌, ◌++◌, codes, length, drop, Result, Ok, Err, nat_eq}
use Rattle.std.specs.List.{starts_with}
use Rattle.std.specs.Option.{ok_or}
use Rattle.std.specs.Str.{bytes_eq}
use Rattle.byteorder.specs.Endian.{little_number}
use Rattle.px_pe.specs.declared.fault.PeKind.TheVariants.{NotPe, NoCliHeader, MetadataOutside}
use Rattle.px_pe.specs.declared.fault.PeFault.{PeFault}
use Rattle.px_pe.specs.declared.headers.Form.{Form}
use Rattle.px_pe.specs.declared.headers.Form.TheVariants.{Pe32, Pe32Plus}
use Rattle.px_pe.specs.declared.headers.Headers.{Headers}
use Rattle.px_pe.specs.declared.section.Section.{Section}
use Rattle.px_pe.specs.declared.section.Span.{Span}
use Rattle.px_pe.specs.Reading.{fault, read_bytes, read_number}
use Rattle.px_reading.specs.Reading.{◌>>=◌}
use Rattle.px_pe.specs.Section.{at_rva, table_of, Table}

-- what is known of an image
pub record View : Type 0 where
  pub bytes : List ℕ
  pub sections : List Section
  pub metadata : Span

-- `MZ` in a file of 64 bytes or more, and `PE` and two zeros at the offset that stands at 0x3C
unfoldable pub pe_offset : List ℕ → Result ℕ PeFault
pe_offset file =
    if nat_lt (length file) 64 || not (starts_with nat_eq file (codes "MZ")) then Err (fault NotPe 0)
    else (read_number 4 file 0x3C >>= λ pe. read_bytes 4 file pe >>= λ mark.
    if bytes_eq mark (codes "PE" ++ (0 ∷ 0 ∷ [])) then Ok pe else Err (fault NotPe pe))

-- the form of the optional header, by the magic number that it begins with
unfoldable pub form_at : List ℕ → ℕ → Result Form PeFault
form_at file optional =
    read_number 2 file optional >>= λ magic.
    if magic == 0x10B then Ok Pe32 else if magic == 0x20B then Ok Pe32Plus else Err (fault NotPe optional)

-- where the number of directories and directory 14 stand in the optional header
abbrev pub count_offset : Form → ℕ
count_offset Pe32 = 92
count_offset Pe32Plus = 108

abbrev pub directory_offset : Form → ℕ
directory_offset Pe32 = 208
directory_offset Pe32Plus = 224

-- the address of the CLI header, with which directory 14 begins; there are at least 15 directories
unfoldable pub cli_address : List ℕ → ℕ → ℕ → Result ℕ PeFault
cli_address file count_at directory_at =
    read_number 4 file count_at >>= λ count. if nat_lt count 15 then Err (fault NoCliHeader count_at)
    else (read_bytes 8 file directory_at >>= λ directory. let address = little_number 4 directory in
    if address == 0 then Err (fault NoCliHeader directory_at) else Ok address)

-- the COFF header behind the mark, and the optional header behind that
unfoldable pub headers_at : List ℕ → ℕ → Result Headers PeFault
headers_at file pe =
    let optional = pe + 24 in
    read_number 2 file (pe + 6) >>= λ count. read_number 2 file (pe + 20) >>= λ size. form_at file optional >>= λ form.
    let directory = optional + directory_offset form in
    cli_address file (optional + count_offset form) directory >>= λ address.
    Ok (record { count = count; table = optional + size; directory = directory; address = address })

-- the 72 bytes of the CLI header lie in a section, and so does the metadata that it names
unfoldable pub metadata_of : Table → Headers → Result Span PeFault
metadata_of table headers =
    ok_or (at_rva table.sections headers.address 72) (fault NoCliHeader headers.directory) >>= λ cli.
    let header = drop cli.start table.bytes in
    ok_or (at_rva table.sections (little_number 4 (drop 8 header)) (little_number 4 (drop 12 header))) (fault MetadataOutside (cli.start + 8))

-- the image of a file, or the first fault: in the marks, the headers, the section headers behind the optional header, the CLI header, the metadata
unfoldable pub image_of : List ℕ → Result View PeFault
image_of file =
    pe_offset file >>= λ pe. headers_at file pe >>= λ headers. table_of headers.count file headers.table >>= λ table.
    metadata_of table headers >>= λ metadata. Ok (record { bytes = file; sections = table.sections; metadata = metadata })
