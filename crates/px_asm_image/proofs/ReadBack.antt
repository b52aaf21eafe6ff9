-- What the reader of images reads in the headers as they are written, whatever stands behind them.
use Rattle.std.proofs.Common.{ap, ◌-◌, ◌≡◌, ◌<◌, ◌≤◌, ℕ, ◌+◌, ◌^◌, true, false, List, [], ◌∷◌, ◌++◌, length, take, drop, Ok, Some, refl, ◌∙◌, arith, find, codes, nat_eq, nat_lt}
use Rattle.std.specs.List.{starts_with}
use Rattle.std.proofs.lemmas.Bool.{le-leb, le-ltb}
use Rattle.std.proofs.lemmas.List.{drop-append-le, length-append, length-drop, take-append-le}
use Rattle.byteorder.specs.Endian.{little_number}
use Rattle.byteorder.specs.Numbers.{little_from-append, little_number-reads_back}
use Rattle.px_pe.specs.Image.{View, cli_address, form_at, headers_at, image_of, metadata_of, pe_offset}
use Rattle.px_pe.specs.Reading.{read_bytes, read_number}
use Rattle.px_pe.specs.Section.{check_section, holds, section_of, table_of, Table}
use Rattle.px_asm_image.specs.Parts.{cli_header, coff_header, headers_of, optional_header, section_header}

-- what the reader reads in the headers of an image with so many bytes in its section, and among them so many of metadata
pub record AreHeaders (size place metadata_size : ℕ) (headers : List ℕ) : Type 0 where
  pub len : length headers ≡ 584
  pub first_mark : (rest : List ℕ) → starts_with nat_eq (headers ++ rest) (codes "MZ") ≡ true
  pub offset : little_number 4 (take 4 (drop 0x3C headers)) ≡ 128
  pub mark : take 4 (drop 128 headers) ≡ 80 ∷ 69 ∷ 0 ∷ 0 ∷ []
  pub sections : little_number 2 (take 2 (drop 134 headers)) ≡ 1
  pub optional_size : little_number 2 (take 2 (drop 148 headers)) ≡ 224
  pub magic : little_number 2 (take 2 (drop 152 headers)) ≡ 0x10B
  pub directories : little_number 4 (take 4 (drop 244 headers)) ≡ 16
  pub directory : little_number 4 (take 8 (drop 360 headers)) ≡ 0x2000
  pub section : section_of (take 40 (drop 376 headers)) ≡ record { address = 0x2000; size = size; place = 0x200 }
  pub metadata_address : little_number 4 (drop 8 (drop 512 headers)) ≡ 0x2048 + place
  pub metadata_len : little_number 4 (drop 12 (drop 512 headers)) ≡ metadata_size

pub headers_written : (size place metadata_size : ℕ) → size < 2 ^ 32 → place < 2 ^ 31 → metadata_size < 2 ^ 32 → AreHeaders size place metadata_size (headers_of size place metadata_size)
unfolding section_of headers_of coff_header optional_header section_header cli_header
headers_written size place metadata_size fits place_fits metadata_fits = record {
  len = refl;
  first_mark = λ rest. refl;
  offset = refl;
  mark = refl;
  sections = refl;
  optional_size = refl;
  magic = refl;
  directories = refl;
  directory = refl;
  section = rw (little_number-reads_back 4 size [] (omega arith)) refl;
  metadata_address = little_number-reads_back 4 (0x2048 + place) [] (omega arith);
  metadata_len = little_number-reads_back 4 metadata_size [] (omega arith);
}

-- a piece of the front of a file
piece : (count at : ℕ) (front rest : List ℕ) → at + count ≤ length front → take count (drop at (front ++ rest)) ≡ take count (drop at front)
piece count at front rest within =
    let left : count ≤ length (drop at front) = omega (arith, length-drop at front) in
    rw (drop-append-le at front rest (omega arith)) (take-append-le count (drop at front) rest left)

-- a read in the front of a file
read_in : (count at : ℕ) (front rest : List ℕ) → at + count ≤ length front → read_bytes count (front ++ rest) at ≡ Ok (take count (drop at front))
unfolding read_bytes
read_in count at front rest within =
    let long : nat_lt (length (front ++ rest)) (at + count) ≡ false = le-ltb _ _ (omega (arith, length-append front rest)) in
    rw (long, piece count at front rest within) refl

-- the same of a number that is known
number_in : (count at : ℕ) (front rest : List ℕ) {number : ℕ} → at + count ≤ length front → little_number count (take count (drop at front)) ≡ number → read_number count (front ++ rest) at ≡ Ok number
unfolding read_number
number_in count at front rest within is = rw (read_in count at front rest within, is) refl

-- the steps of the reader, one after the other
pe_is : {size place metadata_size : ℕ} (headers rest : List ℕ) → AreHeaders size place metadata_size headers → pe_offset (headers ++ rest) ≡ Ok 128
unfolding pe_offset
pe_is headers rest are =
    let long : nat_lt (length (headers ++ rest)) 64 ≡ false = le-ltb _ _ (omega (arith, length-append headers rest)) in
    let offset = number_in 4 0x3C headers rest (omega arith) are.offset in
    let mark = read_in 4 128 headers rest (omega arith) in
    rw (long, are.first_mark rest, offset, mark, are.mark) refl

headers_are : {size place metadata_size : ℕ} (headers rest : List ℕ) → AreHeaders size place metadata_size headers
    → headers_at (headers ++ rest) 128 ≡ Ok (record { count = 1; table = 376; directory = 360; address = 0x2000 })
unfolding headers_at form_at cli_address
headers_are headers rest are =
    let sections = number_in 2 134 headers rest (omega arith) are.sections in
    let optional = number_in 2 148 headers rest (omega arith) are.optional_size in
    let magic = number_in 2 152 headers rest (omega arith) are.magic in
    let directories = number_in 4 244 headers rest (omega arith) are.directories in
    let directory = read_in 8 360 headers rest (omega arith) in
    rw (sections, optional, magic, directories, directory, are.directory) refl

-- the table of the one section
abbrev table : List ℕ → ℕ → Table
table file size = record { bytes = file; sections = record { address = 0x2000; size = size; place = 0x200 } ∷ [] }

checked : {size place metadata_size : ℕ} (headers rest : List ℕ) → AreHeaders size place metadata_size headers → 512 + size ≤ length (headers ++ rest) → check_section (headers ++ rest) 376 ≡ Ok tt
unfolding check_section
checked {size = size} headers rest are whole =
    let header = read_in 40 376 headers rest (omega arith) in
    let inside : nat_lt (length (headers ++ rest)) (0x200 + size) ≡ false = le-ltb _ _ (omega arith) in
    rw (header, are.section, inside) refl

table_is : {size place metadata_size : ℕ} (headers rest : List ℕ) → AreHeaders size place metadata_size headers → 512 + size ≤ length (headers ++ rest)
    → table_of 1 (headers ++ rest) 376 ≡ Ok (table (headers ++ rest) size)
table_is headers rest are whole =
    let header = piece 40 376 headers rest (omega arith) in rw (checked headers rest are whole, header, are.section) refl

-- the section holds what lies in it
pub found : (size address len : ℕ) → 0x2000 ≤ address → address + len ≤ 0x2000 + size
    → find (holds address len) (record { address = 0x2000; size = size; place = 0x200 } ∷ []) ≡ Some (record { address = 0x2000; size = size; place = 0x200 })
found size address len low high =
    let begins = le-leb 0x2000 address low in let ends = le-leb (address + len) (0x2000 + size) high in rw (begins, ends) refl

-- a number in the section, with which the front of the file ends
number_behind : (count at : ℕ) (front rest : List ℕ) → 512 + at + count ≤ length front → little_number count (drop at (drop 512 (front ++ rest))) ≡ little_number count (drop at (drop 512 front))
number_behind count at front rest within =
    let left = length-drop 512 front in let less = length-drop at (drop 512 front) in
    rw (drop-append-le 512 front rest (omega arith), drop-append-le at (drop 512 front) rest (omega arith)) (little_from-append count _ rest (omega arith))

metadata_is : {size place metadata_size : ℕ} (headers rest : List ℕ) → AreHeaders size place metadata_size headers → 72 + place + metadata_size ≤ size
    → metadata_of (table (headers ++ rest) size) (record { count = 1; table = 376; directory = 360; address = 0x2000 }) ≡ Ok (record { start = 584 + place; len = metadata_size })
unfolding metadata_of
metadata_is {size = size} {place = place} {metadata_size = metadata_size} headers rest are within =
    let cli = found size 0x2000 72 (omega arith) (omega arith) in
    let address = number_behind 4 8 headers rest (omega arith) ∙ are.metadata_address in
    let len = number_behind 4 12 headers rest (omega arith) ∙ are.metadata_len in
    let metadata = found size (0x2048 + place) metadata_size (omega arith) (omega arith) in
    let from : 0x200 + (0x2048 + place - 0x2000) ≡ 584 + place = omega arith in
    rw (cli, address, len, metadata) (ap (λ (start : ℕ). Ok (record { start = start; len = metadata_size })) from)

-- the image that the reader finds
abbrev pub view_of : List ℕ → ℕ → ℕ → ℕ → View
view_of file size place metadata_size =
    record { bytes = file; sections = record { address = 0x2000; size = size; place = 0x200 } ∷ []; metadata = record { start = 584 + place; len = metadata_size } }

pub image_is : {size place metadata_size : ℕ} (headers rest : List ℕ) → AreHeaders size place metadata_size headers → 72 + place + metadata_size ≤ size → 512 + size ≤ length (headers ++ rest)
    → image_of (headers ++ rest) ≡ Ok (view_of (headers ++ rest) size place metadata_size)
unfolding image_of
image_is headers rest are within whole =
    rw (pe_is headers rest are, headers_are headers rest are, table_is headers rest are whole, metadata_is headers rest are within) refl
