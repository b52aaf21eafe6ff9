-- What the parts of the reader promise each other.
use Rattle.std.specs.Prelude.{◌≡◌, ℕ, ◌+◌, ◌<◌, ◌≤◌, ◌^◌, List, length, slice_index}
use Rattle.px_code.specs.Body.{has_next, is_fat, is_table, section_size, Header, Position}
use Rattle.px_code.specs.declared.body.Operand.{Operand}
use Rattle.px_code.specs.declared.body.Operand.TheVariants.{Number, Target, Switch}
use Rattle.px_code.specs.declared.body.RawInstr.{RawInstr}
use Rattle.px_code.specs.declared.body.RawClause.{RawClause}
use Rattle.px_code.specs.declared.header.Header as read
use Rattle.px_code.specs.declared.instr.Position as stands
use Rattle.px_code.specs.declared.clause.Numbers as raw
use Rattle.px_code.specs.declared.section.Section as said

-- what a header that was read says
abbrev pub shown : read.Header → Header
shown h = record { max_stack = h.max_stack; init_locals = h.init_locals; locals_token = h.locals_token; base = h.base; code = h.code.now; more = h.more }

-- the header and its code lie within the bytes
abbrev pub IsWithin : read.Header → List ℕ → Type 0
IsWithin h bytes = h.base + length h.code.now ≤ length bytes

-- a number of at most eight bytes, or a target of one to four
abbrev pub IsShort : Operand → Type 0
IsShort (Number size) = size ≤ 8
IsShort (Target size) = (0 < size) × (size ≤ 4)
IsShort Switch = Unit {0}

-- where an instruction stands
abbrev pub position_of : stands.Position → Position
position_of p = record { base = p.base; at = p.at; opcode = p.opcode; size = p.size }

-- an opcode of one byte or more lies within the code, which is short
pub record IsInside (p : stands.Position) (code : List ℕ) : Type 0 where
  pub some : 0 < p.size
  pub within : p.at + p.size ≤ length code
  pub short : p.base + length code < 2 ^ 31

-- an instruction starts at an offset, and ends behind it within the code
pub record IsInstrAt (at : ℕ) (code : List ℕ) (instr : RawInstr) : Type 0 where
  pub here : instr.offset ≡ at
  pub later : at < instr.next
  pub within : instr.next ≤ length code

-- a clause by its numbers
abbrev pub clause_of : raw.Numbers → RawClause
clause_of n = record { flags = n.flags; from = n.from; to = n.to; start = n.start; stop = n.stop; class = n.class }

-- what the first four bytes of a section say
pub record IsSection (bytes : List ℕ) (at : ℕ) (s : said.Section) : Type 0 where
  pub is_table : s.is_table ≡ is_table (slice_index bytes at)
  pub is_fat : s.is_fat ≡ is_fat (slice_index bytes at)
  pub has_next : s.has_next ≡ has_next (slice_index bytes at)
  pub size : s.size ≡ section_size bytes at
  pub few : s.size < 2 ^ 24
