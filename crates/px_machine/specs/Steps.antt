-- Steps: going on, coming to a site, making objects, throwing; and what instructions take from the stack and keep in places.
use Rattle.std.specs.Prelude.{ℕ, suc, ◌+◌, ◌==◌, nat_le, if◌then◌else◌, List, [], ◌∷◌, ◌++◌, length, map, Option, Some, None, slice_get}
use Rattle.px_cells.specs.Algebra.{Algebra, Made}
use Rattle.px_cells.specs.declared.slot.Slot.{Slot}
use Rattle.px_cells.specs.declared.slot.Slot.TheVariants as slots
use Rattle.px_program.specs.Formed.{method_at}
use Rattle.px_program.specs.declared.program.Clause.{Clause}
use Rattle.px_program.specs.declared.program.ClauseKind.{ClauseKind}
use Rattle.px_program.specs.declared.program.ClauseKind.TheVariants as clauses
use Rattle.px_program.specs.declared.program.Place.{Place}
use Rattle.px_program.specs.declared.record.End.TheVariants as ends
use Rattle.px_program.specs.declared.record.SiteKind.{SiteKind}
use Rattle.px_unwind.specs.Clauses.{handler_in}
use Rattle.px_machine.specs.Numbers.{Low, is_wide, joined, kind_at, low_at}
use Rattle.px_machine.specs.declared.entry.Cause.{Cause}
use Rattle.px_machine.specs.declared.entry.Cause.TheVariants as causes
use Rattle.px_machine.specs.declared.entry.Entry.{Entry}
use Rattle.px_machine.specs.declared.entry.Entry.TheVariants as entry
use Rattle.px_machine.specs.declared.entry.NumberKind.{NumberKind}
use Rattle.px_machine.specs.State.{Frame, Here, Step, Goes, Sees, Ends, Stuck, Zeros}
use Rattle.px_machine.specs.Parts.{most_slots, heap_size, class_of, all_fields, clauses_in, blocks_at, without}
use Rattle.px_machine.specs.Scalars.{same, widened, kept}

module _ {P W : Type 0} (a : Algebra P W) where
  -- STEPS

  abbrev pub goes_to : Here W → ℕ → List (Entry W) → P → Step P W
  goes_to here at stack pool = Goes (record { pool = pool; shared = here.shared; frames = record here.frame { offset = at; stack = stack } ∷ here.callers })

  abbrev pub goes_on : Here W → List (Entry W) → P → Step P W
  goes_on here stack pool = goes_to here here.next stack pool

  abbrev pub pushes : Here W → NumberKind → List (Entry W) → Made P W → Step P W
  pushes here kind stack x = goes_on here (entry.Number kind x.scalar ∷ stack) x.pool

  -- a site: what comes next is by its side alone
  abbrev pub comes_to : Here W → SiteKind → ℕ → ℕ → Made P W → (ℕ → P → Step P W) → Step P W
  comes_to here kind arity gap side next =
      Sees (record { event = record { site = record { method = here.frame.method; offset = here.frame.offset; kind = kind; arity = arity }; side = a.word side.scalar }; gap = gap; side = side.scalar })
      (next (a.word side.scalar) side.pool)

  -- OBJECTS

  abbrev pub zero_by : Zeros W → Option NumberKind → Slot W
  zero_by zeros None = slots.Null
  zero_by zeros (Some kind) = slots.Number (if is_wide kind then zeros.wide else zeros.narrow)

  -- the zero of a place
  abbrev pub zero_at : Zeros W → Place → Slot W
  zero_at zeros place = zero_by zeros (kind_at place)

  -- a new cell, where the heap has room for it
  abbrev pub makes : Here W → ℕ → List (Slot W) → P → (Here W → ℕ → Step P W) → Step P W
  makes here class new pool next =
      if nat_le (heap_size here.shared.heap + suc (length new)) most_slots
      then next (record here { shared = record here.shared { heap = here.shared.heap ++ record { class = class; slots = new } ∷ [] } }) (length here.shared.heap)
      else Ends ends.HeapBound pool

  abbrev pub makes_object : Here W → ℕ → P → (Here W → ℕ → Step P W) → Step P W
  makes_object here class pool next = makes here class (map (zero_at here.shared.zeros) (all_fields here.program.types class)) pool next

  -- UNWINDING (Partition I, 12.4.2.5)

  abbrev pub clauses_at : Here W → Frame W → List Clause
  clauses_at here frame = clauses_in (method_at here.program frame.method)

  -- a block begins: of those that were begun, what holds its start stays
  abbrev pub begins : Here W → Frame W → List (Frame W) → ℕ → Option Clause → Cause → List (Entry W) → P → Step P W
  begins here frame callers number None cause stack pool = Stuck pool
  begins here frame callers number (Some clause) cause stack pool =
      Goes (record { pool = pool; shared = here.shared; frames = record frame { offset = clause.start; stack = stack; blocks = (number, cause) ∷ without number (blocks_at (clauses_at here frame) clause.start frame.blocks) } ∷ callers })

  -- an exception meets a clause, by its kind
  abbrev pub meets : Here W → Frame W → List (Frame W) → ℕ → ℕ → Option Clause → ℕ → P → Step P W
  meets here frame callers cell number None at pool = Stuck pool
  meets here frame callers cell number (Some clause) at pool = meets_kind clause.kind
    where
      meets_kind : ClauseKind → Step P W
      meets_kind clauses.Filter = Ends (ends.Outside frame.method at) pool
      meets_kind clauses.Catch = begins here frame callers number (Some clause) (causes.Exception cell at) (entry.Cell cell ∷ []) pool
      meets_kind clauses.Finally = begins here frame callers number (Some clause) (causes.Exception cell at) [] pool
      meets_kind clauses.Fault = begins here frame callers number (Some clause) (causes.Exception cell at) [] pool

  -- The exception in a cell goes outward from the innermost frame, where a handler from a number on is asked for at an offset; further out one is asked for at
  -- the call.
  abbrev pub outward_by : Here W → Frame W → List (Frame W) → ℕ → Option ℕ → ℕ → P → Step P W → Step P W
  outward_by here frame callers cell None at pool further = further
  outward_by here frame callers cell (Some number) at pool further = meets here frame callers cell number (slice_get (clauses_at here frame) number) at pool

  abbrev pub waits_at : List (Frame W) → ℕ
  waits_at [] = 0
  waits_at (frame ∷ callers) = frame.offset

  abbrev pub outward : Here W → ℕ → ℕ → List (Frame W) → ℕ → ℕ → P → Step P W
  outward here cell class [] at after pool = Ends (ends.Threw class) pool
  outward here cell class (frame ∷ callers) at after pool =
      outward_by here frame callers cell (handler_in here.program frame.method at after class) at pool (outward here cell class callers (waits_at callers) 0 pool)

  -- a cell is thrown at an offset of the innermost frame
  abbrev pub unwinds_by : Here W → ℕ → Option ℕ → ℕ → ℕ → P → Step P W
  unwinds_by here cell None at after pool = Stuck pool
  unwinds_by here cell (Some class) at after pool = outward here cell class (here.frame ∷ here.callers) at after pool

  abbrev pub unwinds : Here W → ℕ → ℕ → ℕ → P → Step P W
  unwinds here cell at after pool = unwinds_by here cell (class_of here.shared.heap cell) at after pool

  -- a new exception of a class
  abbrev pub throws : Here W → ℕ → P → Step P W
  throws here class pool = makes_object here class pool (λ now cell. unwinds now cell here.frame.offset 0 pool)

  -- a check fails on side 1
  abbrev pub passes : Here W → SiteKind → ℕ → Made P W → (P → Step P W) → Step P W
  passes here kind class failed next = comes_to here kind 2 1 failed (λ side pool. if side == 0 then next pool else throws here class pool)

  -- WHAT IS TAKEN

  abbrev pub on_entry : List (Entry W) → P → (Entry W → List (Entry W) → Step P W) → Step P W
  on_entry [] pool next = Stuck pool
  on_entry (x ∷ rest) pool next = next x rest

  abbrev pub on_number_by : P → Entry W → (NumberKind → W → Step P W) → Step P W
  on_number_by pool (entry.Number kind x) next = next kind x
  on_number_by pool entry.Null next = Stuck pool
  on_number_by pool (entry.Cell number) next = Stuck pool

  abbrev pub on_number : List (Entry W) → P → (NumberKind → W → List (Entry W) → Step P W) → Step P W
  on_number stack pool next = on_entry stack pool (λ x rest. on_number_by pool x (λ kind scalar. next kind scalar rest))

  -- two numbers as those of one kind, the first pushed first
  abbrev pub on_joined : Option NumberKind → NumberKind → W → NumberKind → W → P → (NumberKind → W → Made P W → Step P W) → Step P W
  on_joined None left x right y pool next = Stuck pool
  on_joined (Some kind) left x right y pool next = let first = widened a left kind x pool in next kind first.scalar (widened a right kind y first.pool)

  abbrev pub on_pair : List (Entry W) → P → (NumberKind → W → Made P W → List (Entry W) → Step P W) → Step P W
  on_pair stack pool next = on_number stack pool (λ right y below. on_number below pool (λ left x rest. on_joined (joined left right) left x right y pool (λ kind first second. next kind first second rest)))

  abbrev pub on_option : {X : Type 0} → Option X → P → (X → Step P W) → Step P W
  on_option None pool next = Stuck pool
  on_option (Some x) pool next = next x

  -- WHAT IS KEPT

  -- what a place keeps of an entry
  abbrev pub stored_by : Option NumberKind → Option Low → Entry W → P → (Slot W → P → Step P W) → Step P W
  stored_by (Some kind) low (entry.Number other x) pool next = let made = kept a low (same a x pool) in next (slots.Number made.scalar) made.pool
  stored_by None low entry.Null pool next = next slots.Null pool
  stored_by None low (entry.Cell number) pool next = next (slots.Cell number) pool
  stored_by _ low _ pool next = Stuck pool

  abbrev pub stored : Place → Entry W → P → (Slot W → P → Step P W) → Step P W
  stored place x pool next = stored_by (kind_at place) (low_at place) x pool next
