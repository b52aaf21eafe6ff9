-- The bytes of a body, part by part (Partition II, 25.4, and Partition III, 1.2 to 1.9).
use Rattle.std.specs.Prelude.{ℕ, zero, suc, ◌+◌, ◌-◌, ◌*◌, ◌/◌, ◌%◌, ◌^◌, nat_lt, Bool, true, false, if◌then◌else◌, List, [], ◌∷◌, ◌++◌, length, replicate, Option, Some, None}
use Rattle.std.specs.List.{flat_map}
use Rattle.px_code.specs.Body.{aligned, end_of, operand_of}
use Rattle.px_code.specs.declared.body.Operand.{Operand}
use Rattle.px_code.specs.declared.body.Operand.TheVariants.{Number, Target, Switch}
use Rattle.px_code.specs.declared.body.RawInstr.{RawInstr}
use Rattle.px_code.specs.declared.body.RawClause.{RawClause}
use Rattle.px_code.specs.declared.body.Body.{Body}

-- so many low bytes of a number, the lowest first
unfoldable pub little_bytes : ℕ → ℕ → List ℕ
little_bytes zero n = []
little_bytes (suc size) n = n % 256 ∷ little_bytes size (n / 256)

-- INSTRUCTIONS

-- one byte, or 0xFE and the second one
abbrev pub opcode_bytes : ℕ → List ℕ
opcode_bytes opcode = if nat_lt opcode 0x100 then opcode ∷ [] else 0xFE ∷ opcode % 0x100 ∷ []

-- how far a target lies behind an offset, modulo 2^32
abbrev pub distance : ℕ → ℕ → ℕ
distance next target = (target + (2 ^ 32 - next)) % 2 ^ 32

-- the distances to some targets, each in so many bytes
unfoldable pub distances_bytes : ℕ → ℕ → List ℕ → List ℕ
distances_bytes next size targets = flat_map (λ target. little_bytes size (distance next target)) targets

abbrev pub operand_bytes : Option Operand → RawInstr → List ℕ
operand_bytes None raw = []
operand_bytes (Some (Number size)) raw = little_bytes size raw.operand
operand_bytes (Some (Target size)) raw = distances_bytes raw.next size raw.targets
operand_bytes (Some Switch) raw = little_bytes 4 (length raw.targets) ++ distances_bytes raw.next 4 raw.targets

unfoldable pub instr_bytes : RawInstr → List ℕ
instr_bytes raw = opcode_bytes raw.opcode ++ operand_bytes (operand_of raw.opcode) raw

-- CLAUSES

-- the offsets where the two ranges start, and how long they are
unfoldable pub clause_bytes : RawClause → List ℕ
clause_bytes clause =
    little_bytes 4 clause.flags ++ (little_bytes 4 clause.from ++ (little_bytes 4 (clause.to - clause.from)
    ++ (little_bytes 4 clause.start ++ (little_bytes 4 (clause.stop - clause.start) ++ little_bytes 4 clause.class))))

-- one section with all clauses, if there are any; its size counts its own header
unfoldable pub section_bytes : List RawClause → List ℕ
section_bytes [] = []
section_bytes (clause ∷ clauses) = 0x41 ∷ (little_bytes 3 (4 + 24 * length (clause ∷ clauses)) ++ flat_map clause_bytes (clause ∷ clauses))

-- BODIES

-- whether sections follow the code
abbrev pub has_clauses : List RawClause → Bool
has_clauses [] = false
has_clauses (clause ∷ clauses) = true

-- a header of twelve bytes, its bit 3 where sections follow, and bit 4 where locals start as zero
abbrev pub header_flags : Bool → Bool → ℕ
header_flags more init_locals = 3 + (if more then 8 else 0) + (if init_locals then 16 else 0)

unfoldable pub header_bytes : Body → List ℕ
header_bytes body =
    header_flags (has_clauses body.clauses) body.init_locals ∷ 0x30
    ∷ (little_bytes 2 body.max_stack ++ (little_bytes 4 (end_of body.code) ++ little_bytes 4 body.locals_token))

-- zeros up to the next multiple of 4
abbrev pub zeros_behind : ℕ → List ℕ
zeros_behind size = replicate (aligned size - size) 0

unfoldable pub code_bytes : List RawInstr → List ℕ
code_bytes instrs = flat_map instr_bytes instrs ++ zeros_behind (length (flat_map instr_bytes instrs))

unfoldable pub body_bytes : Body → List ℕ
body_bytes body = header_bytes body ++ (code_bytes body.code ++ section_bytes body.clauses)
