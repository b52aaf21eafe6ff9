-- The body of a method: its header, its code, and its clauses (Partition II, 25.4), and the opcodes of Partition III.
use Rattle.std.specs.Prelude.{◌≡◌, ◌≢◌, ℕ, zero, suc, ◌+◌, ◌-◌, ◌*◌, ◌/◌, ◌%◌, ◌<◌, ◌^◌, ◌==◌, ◌&&◌, ◌||◌, not, nat_lt, nat_le, Bool, true, false, if◌then◌else◌, List, [], ◌∷◌, ◌++◌, length, take, drop, slice_index, Option, Some, None, Result, Ok, Err, find}
use Rattle.std.specs.List.{list_all, list_any}
use Rattle.px_code.specs.Reading.{PlacedFault}
use Rattle.px_reading.specs.Reading.{◌>>=◌}
use Rattle.px_code.specs.declared.body.BodyKind.TheVariants.{BadHeader, Cut, BadOpcode, BadTarget, BadClause}
use Rattle.px_code.specs.declared.body.Operand.{Operand}
use Rattle.px_code.specs.declared.body.Operand.TheVariants.{Number, Target, Switch}
use Rattle.px_code.specs.declared.body.RawInstr.{RawInstr}
use Rattle.px_code.specs.declared.body.RawClause.{RawClause}
use Rattle.px_code.specs.declared.body.Body.{Body}

-- NUMBERS

-- the number of some bytes, the low byte first
abbrev pub little_endian : List ℕ → ℕ
little_endian [] = 0
little_endian (byte ∷ bytes) = byte + 256 * little_endian bytes

-- the number of so many bytes from a place on
abbrev pub number_at : List ℕ → ℕ → ℕ → ℕ
number_at bytes at size = little_endian (take size (drop at bytes))

-- the next multiple of 4
abbrev pub aligned : ℕ → ℕ
aligned at = 4 * ((at + 3) / 4)

-- OPCODES: one that begins with the byte 0xFE counts 0xFE00 more than its second byte

abbrev pub is_from_to : ℕ → ℕ → ℕ → Bool
is_from_to first last n = nat_le first n && nat_le n last

-- the number lies in one of these ranges
abbrev pub is_among : List (ℕ × ℕ) → ℕ → Bool
is_among ranges n = list_any (λ range. is_from_to range.0 range.1 n) ranges

-- the opcodes without an operand
abbrev pub without_operand : List (ℕ × ℕ)
without_operand =
    (0x00, 0x0D) ∷ (0x14, 0x1E) ∷ (0x25, 0x26) ∷ (0x2A, 0x2A) ∷ (0x46, 0x6E) ∷ (0x76, 0x76) ∷ (0x7A, 0x7A) ∷ (0x82, 0x8B) ∷ (0x8E, 0x8E)
    ∷ (0x90, 0xA2) ∷ (0xB3, 0xBA) ∷ (0xC3, 0xC3) ∷ (0xD1, 0xDC) ∷ (0xDF, 0xE0)
    ∷ (0xFE00, 0xFE05) ∷ (0xFE0F, 0xFE0F) ∷ (0xFE11, 0xFE11) ∷ (0xFE13, 0xFE14) ∷ (0xFE17, 0xFE18) ∷ (0xFE1A, 0xFE1A) ∷ (0xFE1D, 0xFE1E) ∷ []

-- those with one byte: the number of a slot or an int32
abbrev pub with_byte : List (ℕ × ℕ)
with_byte = (0x0E, 0x13) ∷ (0x1F, 0x1F) ∷ (0xFE12, 0xFE12) ∷ (0xFE19, 0xFE19) ∷ []

-- those with two bytes: the number of a slot
abbrev pub with_two_bytes : List (ℕ × ℕ)
with_two_bytes = (0xFE09, 0xFE0E) ∷ []

-- those with the token of a row of a table, or of a text
abbrev pub with_token : List (ℕ × ℕ)
with_token =
    (0x27, 0x29) ∷ (0x6F, 0x75) ∷ (0x79, 0x79) ∷ (0x7B, 0x81) ∷ (0x8C, 0x8D) ∷ (0x8F, 0x8F) ∷ (0xA3, 0xA5) ∷ (0xC2, 0xC2) ∷ (0xC6, 0xC6) ∷ (0xD0, 0xD0)
    ∷ (0xFE06, 0xFE07) ∷ (0xFE15, 0xFE16) ∷ (0xFE1C, 0xFE1C) ∷ []

-- those with four or eight bytes of a constant
abbrev pub with_four_bytes : List (ℕ × ℕ)
with_four_bytes = (0x20, 0x20) ∷ (0x22, 0x22) ∷ []

abbrev pub with_eight_bytes : List (ℕ × ℕ)
with_eight_bytes = (0x21, 0x21) ∷ (0x23, 0x23) ∷ []

-- those that lead to a place, by one byte or by four
abbrev pub with_short_target : List (ℕ × ℕ)
with_short_target = (0x2B, 0x37) ∷ (0xDE, 0xDE) ∷ []

abbrev pub with_long_target : List (ℕ × ℕ)
with_long_target = (0x38, 0x44) ∷ (0xDD, 0xDD) ∷ []

-- the operand that follows an opcode, by its size in bytes; none where there is no such opcode
unfoldable pub operand_of : ℕ → Option Operand
operand_of opcode =
    if is_among without_operand opcode then Some (Number 0)
    else if is_among with_byte opcode then Some (Number 1)
    else if is_among with_two_bytes opcode then Some (Number 2)
    else if is_among with_four_bytes opcode || is_among with_token opcode then Some (Number 4)
    else if is_among with_eight_bytes opcode then Some (Number 8)
    else if is_among with_short_target opcode then Some (Target 1)
    else if is_among with_long_target opcode then Some (Target 4)
    else if opcode == 0x45 then Some Switch
    else None

-- INSTRUCTIONS

-- the offset that a branch leads to: that of the next instruction and the operand of so many bytes read signed, modulo 2^32;
-- where it would lie before the code it is 2^31 or more, and starts no instruction
abbrev pub target_of : ℕ → ℕ → ℕ → ℕ
target_of next size operand =
    if nat_lt operand (2 ^ (8 * size - 1)) then (next + operand) % 2 ^ 32
    else ((next + operand + 2 ^ 32) - 2 ^ (8 * size)) % 2 ^ 32

-- so many offsets that a switch leads to, from their place in the code on
abbrev pub targets_at : ℕ → List ℕ → ℕ → ℕ → List ℕ
targets_at next code at zero = []
targets_at next code at (suc n) = target_of next 4 (number_at code at 4) ∷ targets_at next code (at + 4) n

-- where an instruction stands in its body: the code begins `base` bytes after the header, and the opcode has one byte or two
pub record Position : Type 0 where
  pub base : ℕ
  pub at : ℕ
  pub opcode : ℕ
  pub size : ℕ

-- the place of the operand, in the code
abbrev pub behind : Position → ℕ
behind p = p.at + p.size

-- the instruction where its operand lies within the code
abbrev pub within : Position → List ℕ → ℕ → RawInstr → Result RawInstr PlacedFault
within p code size instr = if nat_lt (length code) (behind p + size) then Err (Cut, p.base + behind p) else Ok instr

-- an instruction with its operand of so many bytes
abbrev pub with_number : Position → ℕ → ℕ → List ℕ → RawInstr
with_number p size operand targets = record { offset = p.at; next = behind p + size; opcode = p.opcode; operand = operand; targets = targets }

-- a switch: the count of its targets, and the targets
abbrev pub switch_at : Position → List ℕ → ℕ → Result RawInstr PlacedFault
switch_at p code count = let size = 4 + 4 * count in
    within p code size (with_number p size 0 (targets_at (behind p + size) code (behind p + 4) count))

abbrev pub instr_of : Option Operand → Position → List ℕ → Result RawInstr PlacedFault
instr_of None p code = Err (BadOpcode, p.base + p.at + (p.size - 1))
instr_of (Some (Number size)) p code = within p code size (with_number p size (number_at code (behind p) size) [])
instr_of (Some (Target size)) p code =
    within p code size (with_number p size 0 (target_of (behind p + size) size (number_at code (behind p) size) ∷ []))
instr_of (Some Switch) p code =
    if nat_lt (length code) (behind p + 4) then Err (Cut, p.base + behind p) else switch_at p code (number_at code (behind p) 4)

-- the instruction of an opcode of so many bytes
abbrev pub instr_by : ℕ → List ℕ → ℕ → ℕ → ℕ → Result RawInstr PlacedFault
instr_by base code at opcode size = instr_of (operand_of opcode) (record { base = base; at = at; opcode = opcode; size = size }) code

-- the instruction at an offset of the code, which begins `base` bytes after the header
unfoldable pub instr_at : ℕ → List ℕ → ℕ → Result RawInstr PlacedFault
instr_at base code at =
    if not (slice_index code at == 0xFE) then instr_by base code at (slice_index code at) 1
    else if nat_le (length code) (at + 1) then Err (Cut, base + at + 1)
    else instr_by base code at (0xFE00 + slice_index code (at + 1)) 2

-- the instructions from an offset to the end of the code, at most so many
unfoldable pub instrs_from : ℕ → ℕ → List ℕ → ℕ → Result (List RawInstr) PlacedFault
instrs_from zero base code at = Ok []
instrs_from (suc n) base code at =
    if nat_lt at (length code)
    then (instr_at base code at >>= (λ i. instrs_from n base code i.next >>= (λ rest. Ok (i ∷ rest))))
    else Ok []

-- an instruction starts there
abbrev pub is_start : List RawInstr → ℕ → Bool
is_start instrs at = list_any (λ i. i.offset == at) instrs

-- each target of the instruction is the start of one
abbrev pub leads_well : List RawInstr → RawInstr → Bool
leads_well instrs i = list_all (is_start instrs) i.targets

-- the first instruction with a target that is none
abbrev pub first_bad : List RawInstr → Option RawInstr
first_bad instrs = find (λ i. not (leads_well instrs i)) instrs

-- CLAUSES

-- the offset behind the last instruction
abbrev pub end_of : List RawInstr → ℕ
end_of [] = 0
end_of (i ∷ []) = i.next
end_of (i ∷ j ∷ rest) = end_of (j ∷ rest)

-- a range that isn't empty, begins at an instruction, and ends at one or with the code
abbrev pub is_range : List RawInstr → ℕ → ℕ → Bool
is_range instrs from to = nat_lt from to && is_start instrs from && (is_start instrs to || (to == end_of instrs))

-- a catch, filter, finally or fault clause whose two ranges are right
abbrev pub is_placed : List RawInstr → RawClause → Bool
is_placed instrs clause =
    is_among ((0, 2) ∷ (4, 4) ∷ []) clause.flags && is_range instrs clause.from clause.to && is_range instrs clause.start clause.stop

-- a clause of twelve bytes, and one of twenty-four
abbrev pub small_clause : List ℕ → ℕ → RawClause
small_clause bytes at = record {
  flags = number_at bytes at 2;
  from = number_at bytes (at + 2) 2;
  to = number_at bytes (at + 2) 2 + number_at bytes (at + 4) 1;
  start = number_at bytes (at + 5) 2;
  stop = number_at bytes (at + 5) 2 + number_at bytes (at + 7) 1;
  class = number_at bytes (at + 8) 4;
}

abbrev pub fat_clause : List ℕ → ℕ → RawClause
fat_clause bytes at = record {
  flags = number_at bytes at 4;
  from = number_at bytes (at + 4) 4;
  to = number_at bytes (at + 4) 4 + number_at bytes (at + 8) 4;
  start = number_at bytes (at + 12) 4;
  stop = number_at bytes (at + 12) 4 + number_at bytes (at + 16) 4;
  class = number_at bytes (at + 20) 4;
}

abbrev pub clause_size : Bool → ℕ
clause_size is_fat = if is_fat then 24 else 12

abbrev pub clause_by : Bool → List ℕ → ℕ → RawClause
clause_by is_fat bytes at = if is_fat then fat_clause bytes at else small_clause bytes at

-- the clause at a place, counted from the header
abbrev pub clause_at : List RawInstr → Bool → List ℕ → ℕ → Result RawClause PlacedFault
clause_at instrs is_fat bytes at =
    if nat_lt (length bytes) (at + clause_size is_fat) then Err (Cut, length bytes)
    else if is_placed instrs (clause_by is_fat bytes at) then Ok (clause_by is_fat bytes at)
    else Err (BadClause, at)

-- so many clauses from a place on
abbrev pub clauses_at : List RawInstr → Bool → List ℕ → ℕ → ℕ → Result (List RawClause) PlacedFault
clauses_at instrs is_fat bytes at zero = Ok []
clauses_at instrs is_fat bytes at (suc n) =
    clause_at instrs is_fat bytes at >>= λ clause. clauses_at instrs is_fat bytes (at + clause_size is_fat) n >>= λ rest. Ok (clause ∷ rest)

-- what the first byte of a section says: of what kind it is, whether its numbers are large, and whether a section follows
abbrev pub is_table : ℕ → Bool
is_table kind = kind % 0x40 == 1

abbrev pub is_fat : ℕ → Bool
is_fat kind = (kind / 0x40) % 2 == 1

abbrev pub has_next : ℕ → Bool
has_next kind = nat_le 0x80 kind

-- the size that a section says it has
abbrev pub section_size : List ℕ → ℕ → ℕ
section_size bytes at = number_at bytes (at + 1) (if is_fat (slice_index bytes at) then 3 else 1)

-- where the section behind a section starts
abbrev pub section_behind : List ℕ → ℕ → ℕ
section_behind bytes at = let size = section_size bytes at in aligned (at + (if nat_lt size 4 then 4 else size))

-- the clauses of a section whose first four bytes are there; a section of another kind has none
abbrev pub clauses_in : List RawInstr → List ℕ → ℕ → Result (List RawClause) PlacedFault
clauses_in instrs bytes at = let kind = slice_index bytes at in
    if is_table kind then clauses_at instrs (is_fat kind) bytes (at + 4) (section_size bytes at / clause_size (is_fat kind)) else Ok []

-- the clauses of the sections from a place on, of at most so many sections
unfoldable pub sections_from : ℕ → List RawInstr → List ℕ → ℕ → Result (List RawClause) PlacedFault
sections_from zero instrs bytes at = Ok []
sections_from (suc n) instrs bytes at =
    if nat_lt (length bytes) (at + 4) then Err (Cut, length bytes)
    else (clauses_in instrs bytes at >>= λ clauses.
    if has_next (slice_index bytes at) then (sections_from n instrs bytes (section_behind bytes at) >>= λ rest. Ok (clauses ++ rest))
    else Ok clauses)

-- HEADERS

-- what the header says, and the code behind it; sections follow the code where `more`
pub record Header : Type 0 where
  pub max_stack : ℕ
  pub init_locals : Bool
  pub locals_token : ℕ
  pub base : ℕ
  pub code : List ℕ
  pub more : Bool

-- the code behind a header of one byte
abbrev pub tiny_code : List ℕ → ℕ → Result Header PlacedFault
tiny_code bytes size =
    if size == 0 then Err (BadHeader, 0)
    else if nat_lt (length bytes) (size + 1) then Err (Cut, length bytes)
    else Ok (record { max_stack = 8; init_locals = false; locals_token = 0; base = 1; code = take size (drop 1 bytes); more = false })

-- bit 4 of the flags says that locals start as zero, and bit 3 that sections follow
abbrev pub fat_header : List ℕ → ℕ → Header
fat_header bytes size = record {
  max_stack = number_at bytes 2 2;
  init_locals = (slice_index bytes 0 / 16) % 2 == 1;
  locals_token = number_at bytes 8 4;
  base = 12;
  code = take size (drop 12 bytes);
  more = (slice_index bytes 0 / 8) % 2 == 1;
}

-- the code behind a header of twelve bytes, which says so in the top four bits of its first two bytes, by the number of 4-byte words
abbrev pub fat_code : List ℕ → Result Header PlacedFault
fat_code bytes =
    if nat_lt (length bytes) 12 then Err (Cut, length bytes)
    else let size = number_at bytes 4 4 in
    if not (slice_index bytes 1 / 16 == 3) || (size == 0) then Err (BadHeader, 0)
    else if nat_lt (length bytes) (12 + size) then Err (Cut, length bytes)
    else Ok (fat_header bytes size)

abbrev pub header_of : List ℕ → Result Header PlacedFault
header_of [] = Err (Cut, 0)
header_of (first ∷ rest) =
    if first % 4 == 3 then fat_code (first ∷ rest)
    else if first % 4 == 2 then tiny_code (first ∷ rest) (first / 4)
    else Err (BadHeader, 0)

-- BODIES

-- the clauses of the sections behind the code, where there are any
abbrev pub clauses_of : Header → List RawInstr → List ℕ → Result (List RawClause) PlacedFault
clauses_of h instrs bytes = if h.more then sections_from (length bytes) instrs bytes (aligned (h.base + length h.code)) else Ok []

abbrev pub made_of : Header → List RawInstr → List RawClause → Body
made_of h instrs clauses = record { max_stack = h.max_stack; init_locals = h.init_locals; locals_token = h.locals_token; code = instrs; clauses = clauses }

-- the branches are looked at before the clauses
abbrev pub checked : Header → List RawInstr → Option RawInstr → List ℕ → Result Body PlacedFault
checked h instrs None bytes = clauses_of h instrs bytes >>= λ clauses. Ok (made_of h instrs clauses)
checked h instrs (Some i) bytes = Err (BadTarget, h.base + i.offset)

-- the body that the bytes begin with, or the first fault
unfoldable pub body_of : List ℕ → Result Body PlacedFault
body_of bytes = header_of bytes >>= λ h. instrs_from (length h.code) h.base h.code 0 >>= λ instrs. checked h instrs (first_bad instrs) bytes

-- instructions that follow each other from an offset
abbrev pub Follow : ℕ → List RawInstr → Type 0
Follow at [] = Unit {0}
Follow at (i ∷ rest) = (i.offset ≡ at) × (at < i.next) × Follow i.next rest

-- the instructions are there, follow each other, and lead to each other, and so do the ranges of the clauses
pub record IsFormed (body : Body) : Type 0 where
  pub some : body.code ≢ []
  pub follow : Follow 0 body.code
  pub lead : first_bad body.code ≡ None
  pub ranges : list_all (is_placed body.code) body.clauses ≡ true
  pub few : length body.clauses < 2 ^ 32  -- each clause has twelve bytes of its own, among fewer than 2^31
