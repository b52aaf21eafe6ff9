-- What steps look up in programs and states, without any scalar being made.
use Rattle.std.specs.Prelude.{ℕ, zero, suc, ◌+◌, ◌-◌, ◌==◌, nat_lt, not, Bool, true, false, if◌then◌else◌, List, [], ◌∷◌, drop, filter, length, Option, Some, None, slice_get, slice_set}
use Rattle.std.specs.Str.{bytes_eq}
use Rattle.px_cells.specs.declared.slot.Slot.{Slot}
use Rattle.px_cells.specs.declared.slot.Slot.TheVariants as slots
use Rattle.px_program.specs.Fields.{fields_along, own_fields}
use Rattle.px_program.specs.Formed.{all_params, instr_at}
use Rattle.px_program.specs.declared.instr.Compare.{Compare}
use Rattle.px_program.specs.declared.instr.Field.{Field}
use Rattle.px_program.specs.declared.instr.Instr.{Instr}
use Rattle.px_program.specs.declared.instr.Test.{Test}
use Rattle.px_program.specs.declared.program.Clause.{Clause}
use Rattle.px_program.specs.declared.program.Method.{Method}
use Rattle.px_program.specs.declared.program.Place.{Place}
use Rattle.px_program.specs.declared.program.TypeInfo.{TypeInfo}
use Rattle.px_verify_kinds.specs.Kinds.{line_of}
use Rattle.px_verify_flow.specs.Leaving.{in_block}
use Rattle.px_machine.specs.Numbers.{kind_at}
use Rattle.px_machine.specs.declared.entry.Cause.{Cause}
use Rattle.px_machine.specs.declared.entry.Entry.{Entry}
use Rattle.px_machine.specs.declared.entry.Entry.TheVariants as entry
use Rattle.px_machine.specs.declared.entry.NumberKind.{NumberKind}
use Rattle.px_machine.specs.State.{Object}

-- the numbers of the classes of exceptions that checks throw
abbrev pub divide_by_zero : ℕ
divide_by_zero = 4

abbrev pub overflow : ℕ
overflow = 5

abbrev pub null_reference : ℕ
null_reference = 6

abbrev pub index_out_of_range : ℕ
index_out_of_range = 7

abbrev pub invalid_cast : ℕ
invalid_cast = 8

abbrev pub array_mismatch : ℕ
array_mismatch = 9

-- the number of the class of texts
abbrev pub text_class : ℕ
text_class = 17

-- the heap has this many slots at most, and each cell takes one beside its own
abbrev pub most_slots : ℕ
most_slots = 65536

-- the entry that a load of a place leaves
abbrev pub entry_by : {W : Type 0} → Option NumberKind → Slot W → Option (Entry W)
entry_by None slots.Null = Some entry.Null
entry_by None (slots.Cell number) = Some (entry.Cell number)
entry_by (Some kind) (slots.Number x) = Some (entry.Number kind x)
entry_by _ _ = None

abbrev pub loaded : {W : Type 0} → Option Place → Option (Slot W) → Option (Entry W)
loaded (Some place) (Some slot) = entry_by (kind_at place) slot
loaded _ _ = None

-- the comparison of a branch or of `ceq`, `cgt` and `clt` at a width
abbrev pub compare_at : Test → Bool → Bool → Compare
compare_at test signed wide = record { test = test; signed = signed; wide = wide }

-- side 1 jumps, and side 0 falls through
abbrev pub landing : ℕ → ℕ → ℕ → ℕ
landing side next target = if side == 0 then next else target

abbrev pub or_next : ℕ → Option ℕ → ℕ
or_next next None = next
or_next next (Some target) = target

-- side 0 is what no target is for, and side k is the k-th target
abbrev pub nth_target : ℕ → List ℕ → ℕ → ℕ
nth_target next targets zero = next
nth_target next targets (suc k) = or_next next (slice_get targets k)

abbrev pub same_reference : {W : Type 0} → Entry W → Entry W → Option Bool
same_reference entry.Null entry.Null = Some true
same_reference entry.Null (entry.Cell number) = Some false
same_reference (entry.Cell number) entry.Null = Some false
same_reference (entry.Cell number) (entry.Cell other) = Some (number == other)
same_reference _ _ = None

abbrev pub is_null : {W : Type 0} → Entry W → Bool
is_null entry.Null = true
is_null _ = false

abbrev pub locals_of : Option Method → List Place
locals_of None = []
locals_of (Some method) = method.locals

abbrev pub params_of : Option Method → List Place
params_of None = []
params_of (Some method) = all_params method

abbrev pub return_of : Option Method → Option Place
return_of None = None
return_of (Some method) = method.ret

-- the offset behind the call for which a frame waits
abbrev pub next_of : Option Instr → Option ℕ
next_of None = None
next_of (Some i) = Some i.next

abbrev pub instr_in : Option Method → ℕ → Option Instr
instr_in None at = None
instr_in (Some method) at = instr_at method.code at

-- HEAP

abbrev pub cell_size : {W : Type 0} → Object W → ℕ
cell_size object = suc (length object.slots)

abbrev pub heap_size : {W : Type 0} → List (Object W) → ℕ
heap_size [] = 0
heap_size (object ∷ heap) = cell_size object + heap_size heap

abbrev pub class_in : {W : Type 0} → Option (Object W) → Option ℕ
class_in None = None
class_in (Some object) = Some object.class

abbrev pub class_of : {W : Type 0} → List (Object W) → ℕ → Option ℕ
class_of heap cell = class_in (slice_get heap cell)

-- the fields of an object of a class, those of its bases first, and where a field is among them
abbrev pub all_fields : List TypeInfo → ℕ → List Place
all_fields types class = fields_along types (line_of types class)

abbrev pub slot_of : List TypeInfo → Field → ℕ
slot_of types field = length (fields_along types (drop 1 (line_of types field.owner))) + field.index

abbrev pub place_of : List TypeInfo → Field → Option Place
place_of types field = slice_get (own_fields (slice_get types field.owner)) field.index

abbrev pub statics_in : Option TypeInfo → List Place
statics_in None = []
statics_in (Some type) = type.statics

abbrev pub static_place : List TypeInfo → Field → Option Place
static_place types field = slice_get (statics_in (slice_get types field.owner)) field.index

abbrev pub elements_in : Option TypeInfo → Option Place
elements_in None = None
elements_in (Some type) = type.element

abbrev pub list_at : {X : Type 0} → Option (List X) → List X
list_at None = []
list_at (Some xs) = xs

-- a list of lists with an item at a place of one of them
abbrev pub set_in : {X : Type 0} → List (List X) → ℕ → ℕ → X → List (List X)
set_in lists list place x = slice_set lists list (slice_set (list_at (slice_get lists list)) place x)

abbrev pub with_slot : {W : Type 0} → Object W → ℕ → Slot W → Object W
with_slot object place slot = record { class = object.class; slots = slice_set object.slots place slot }

abbrev pub store_in : {W : Type 0} → List (Object W) → ℕ → ℕ → Slot W → Option (Object W) → List (Object W)
store_in heap cell place slot None = heap
store_in heap cell place slot (Some object) = slice_set heap cell (with_slot object place slot)

-- a store changes one slot of one cell
abbrev pub store_at : {W : Type 0} → List (Object W) → ℕ → ℕ → Slot W → List (Object W)
store_at heap cell place slot = store_in heap cell place slot (slice_get heap cell)

abbrev pub slots_in : {W : Type 0} → Option (Object W) → List (Slot W)
slots_in None = []
slots_in (Some object) = object.slots

abbrev pub with_slots : {W : Type 0} → List (Object W) → ℕ → List (Slot W) → Option (Object W) → List (Object W)
with_slots heap cell new None = heap
with_slots heap cell new (Some object) = slice_set heap cell (record { class = object.class; slots = new })

-- the cell of a text
abbrev pub text_cell : List (List ℕ × ℕ) → List ℕ → Option ℕ
text_cell [] units = None
text_cell (text ∷ texts) units = if bytes_eq text.0 units then Some text.1 else text_cell texts units

-- BLOCKS

abbrev pub clauses_in : Option Method → List Clause
clauses_in None = []
clauses_in (Some method) = method.clauses

abbrev pub block_width : Clause → ℕ
block_width clause = clause.stop - clause.start

-- a clause's number, and how wide its block is
abbrev pub shorter : ℕ × ℕ → Option (ℕ × ℕ) → Option (ℕ × ℕ)
shorter block None = Some block
shorter block (Some other) = if nat_lt other.1 block.1 then Some other else Some block

abbrev pub innermost_from : ℕ → ℕ → List Clause → Option (ℕ × ℕ)
innermost_from at number [] = None
innermost_from at number (clause ∷ more) = if in_block at clause then shorter (number, block_width clause) (innermost_from at (suc number) more) else innermost_from at (suc number) more

-- the clause with the shortest block around an offset, the first of those alike
abbrev pub innermost_block : ℕ → List Clause → Option (ℕ × ℕ)
innermost_block at list = innermost_from at 0 list

abbrev pub block_holds : List Clause → ℕ → ℕ × Cause → Bool
block_holds list at block = holds_in at (slice_get list block.0)
  where
    holds_in : ℕ → Option Clause → Bool
    holds_in at None = false
    holds_in at (Some clause) = in_block at clause

-- the blocks that hold an offset; the others are left
abbrev pub blocks_at : List Clause → ℕ → List (ℕ × Cause) → List (ℕ × Cause)
blocks_at list at blocks = filter (block_holds list at) blocks

abbrev pub without : ℕ → List (ℕ × Cause) → List (ℕ × Cause)
without number blocks = filter (λ block. not (block.0 == number)) blocks

abbrev pub cause_of : ℕ → List (ℕ × Cause) → Option Cause
cause_of number [] = None
cause_of number (block ∷ blocks) = if block.0 == number then Some block.1 else cause_of number blocks
