-- The sections of an image: Partition II, 25.3.
use Rattle.std.specs.Prelude.{◌≡◌, ◌<◌, ◌≤◌, ℕ, zero, suc, ◌+◌, ◌-◌, ◌*◌, ◌^◌, ◌&&◌, nat_lt, nat_le, Bool, if◌then◌else◌, List, [], ◌∷◌, length, take, drop, Option, Result, Ok, Err, find}
use Rattle.std.specs.Option.{option_map}
use Rattle.byteorder.specs.Endian.{little_number}
use Rattle.px_pe.specs.declared.fault.PeKind.TheVariants.{BadSections}
use Rattle.px_pe.specs.declared.fault.PeFault.{PeFault}
use Rattle.px_pe.specs.declared.section.Section.{Section}
use Rattle.px_pe.specs.declared.section.Span.{Span}
use Rattle.px_pe.specs.Reading.{fault, read_bytes}
use Rattle.px_reading.specs.Reading.{◌>>=◌}

-- the section that a header of 40 bytes stands for: VirtualAddress, SizeOfRawData and PointerToRawData
unfoldable pub section_of : List ℕ → Section
section_of header = record { address = little_number 4 (drop 12 header); size = little_number 4 (drop 16 header); place = little_number 4 (drop 20 header) }

-- the section whose header stands at a place
abbrev pub section_in : List ℕ → ℕ → Section
section_in file at = section_of (take 40 (drop at file))

-- the sections of so many headers, one after the other from a place on
abbrev pub sections_in : ℕ → List ℕ → ℕ → List Section
sections_in zero file at = []
sections_in (suc n) file at = section_in file at ∷ sections_in n file (at + 40)

-- the header at a place lies within the file, and the raw data of its section ends there
unfoldable pub check_section : List ℕ → ℕ → Result (Unit {0}) PeFault
check_section file at =
    read_bytes 40 file at >>= λ header. let section = section_of header in
    if nat_lt (length file) (section.place + section.size) then Err (fault BadSections at) else Ok tt

abbrev pub check_sections : ℕ → List ℕ → ℕ → Result (Unit {0}) PeFault
check_sections zero file at = Ok tt
check_sections (suc n) file at = check_section file at >>= λ _. check_sections n file (at + 40)

-- what is known of the sections of a file
pub record Table : Type 0 where
  pub bytes : List ℕ
  pub sections : List Section

-- the sections of so many headers, or the first fault of a header
abbrev pub table_of : ℕ → List ℕ → ℕ → Result Table PeFault
table_of count file at = check_sections count file at >>= λ _. Ok (record { bytes = file; sections = sections_in count file at })

-- so many headers lie within a file of less than 2^31 bytes, and so does the raw data of their sections
pub record AreSound (count : ℕ) (file : List ℕ) (at : ℕ) : Type 0 where
  pub checked : check_sections count file at ≡ Ok tt
  pub short : length file < 2 ^ 31
  pub fits : at + 40 * count < 2 ^ 32

-- the section's raw data holds the range of addresses
abbrev pub holds : ℕ → ℕ → Section → Bool
holds rva len s = nat_le s.address rva && nat_le (rva + len) (s.address + s.size)

-- where the first section that holds a range of addresses has it in the file
abbrev pub at_rva : List Section → ℕ → ℕ → Option Span
at_rva sections rva len =
    option_map (λ s. record { start = s.place + (rva - s.address); len = len }) (find (holds rva len) sections)

-- from an address to the end of the first section that holds it
abbrev pub rest_at : List Section → ℕ → Option Span
rest_at sections rva =
    option_map (λ s. record { start = s.place + (rva - s.address); len = (s.address + s.size) - rva }) (find (holds rva 1) sections)

-- the span lies within the bytes
abbrev pub Lies : List ℕ → Span → Type 0
Lies bytes span = span.start + span.len ≤ length bytes
