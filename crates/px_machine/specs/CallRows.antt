-- Rows of calls, new objects and returns (Partition III, 3 and 4).
use Rattle.std.specs.Prelude.{ℕ, suc, nat_lt, if◌then◌else◌, List, [], ◌∷◌, length, map, reverse, Option, Some, None}
use Rattle.px_cells.specs.Algebra.{Algebra}
use Rattle.px_cells.specs.declared.slot.Slot.{Slot}
use Rattle.px_cells.specs.declared.slot.Slot.TheVariants as slots
use Rattle.px_program.specs.Formed.{all_params, method_at}
use Rattle.px_program.specs.Overriding.{overrider_in}
use Rattle.px_program.specs.declared.instr.Callee.{Callee}
use Rattle.px_program.specs.declared.instr.Callee.TheVariants as callees
use Rattle.px_program.specs.declared.instr.Instr.{Instr}
use Rattle.px_program.specs.declared.program.Method.{Method}
use Rattle.px_program.specs.declared.program.Place.{Place}
use Rattle.px_program.specs.declared.record.End.TheVariants as ends
use Rattle.px_program.specs.declared.record.Value.{Value}
use Rattle.px_program.specs.declared.record.Value.TheVariants as values
use Rattle.px_machine.specs.Numbers.{kind_at}
use Rattle.px_machine.specs.declared.entry.Entry.{Entry}
use Rattle.px_machine.specs.declared.entry.Entry.TheVariants as entry
use Rattle.px_machine.specs.State.{Frame, Here, Step, Goes, Ends, Stuck}
use Rattle.px_machine.specs.Parts.{null_reference, entry_by, next_of, instr_in, class_of}
use Rattle.px_machine.specs.Steps.{goes_on, zero_at, makes_object, throws, on_entry, on_option, stored}

module _ {P W : Type 0} (a : Algebra P W) where
  -- CALLS

  -- what a method is given, as its parameters keep it; the last parameter is on top of the stack
  abbrev pub on_arguments : List Place → List (Entry W) → List (Slot W) → P → (List (Slot W) → List (Entry W) → P → Step P W) → Step P W
  on_arguments [] stack given pool next = next given stack pool
  on_arguments (place ∷ places) stack given pool next = on_entry a stack pool (λ x rest. stored a place x pool (λ slot after. on_arguments places rest (slot ∷ given) after next))

  abbrev pub new_frame : Here W → ℕ → Method → List (Slot W) → Frame W
  new_frame here number method arguments = record { method = number; offset = 0; arguments = arguments; locals = map (zero_at a here.shared.zeros) method.locals; stack = []; blocks = [] }

  -- a method is called: its frame is the innermost, and the caller's waits at the call
  abbrev pub enters : Here W → ℕ → Method → List (Entry W) → List (Slot W) → P → Step P W
  enters here number method stack arguments pool =
      if nat_lt (suc (length here.callers)) here.bounds.depth
      then Goes (record { pool = pool; shared = here.shared; frames = new_frame here number method arguments ∷ record here.frame { stack = stack } ∷ here.callers })
      else Ends ends.DepthBound pool

  -- `call`: no null check of the receiver
  abbrev pub call_row : Here W → Callee → List (Entry W) → P → Step P W
  call_row here (callees.Method number) stack pool = on_option a (method_at here.program number) pool (λ method.
      on_arguments (reverse (all_params method)) stack [] pool (λ arguments rest after. enters here number method rest arguments after))
  call_row here (callees.Constructor class params) stack pool = on_arguments (reverse params) stack [] pool (λ arguments rest after.
      on_entry a rest after (λ receiver below. goes_on a here below after))

  -- a new object is on the stack, and its constructor's first argument
  abbrev pub make_row : Here W → Callee → List (Entry W) → P → Step P W
  make_row here (callees.Method number) stack pool = on_option a (method_at here.program number) pool (λ method.
      on_arguments (reverse method.params) stack [] pool (λ arguments rest after.
      makes_object a here method.owner after (λ now cell. enters now number method (entry.Cell cell ∷ rest) (slots.Cell cell ∷ arguments) after)))
  make_row here (callees.Constructor class params) stack pool = on_arguments (reverse params) stack [] pool (λ arguments rest after.
      makes_object a here class after (λ now cell. goes_on a now (entry.Cell cell ∷ rest) after))

  abbrev pub or_itself : ℕ → Option ℕ → ℕ
  or_itself number None = number
  or_itself number (Some other) = other

  -- the method that runs in place of another; one without instructions isn't run
  abbrev pub enters_found : Here W → ℕ → Option Method → List (Entry W) → List (Slot W) → P → Step P W
  enters_found here number None stack arguments pool = Stuck pool
  enters_found here number (Some method) stack arguments pool = by_code method.code
    where
      by_code : List Instr → Step P W
      by_code [] = Ends (ends.Outside here.frame.method here.frame.offset) pool
      by_code (i ∷ more) = enters here number method stack arguments pool

  abbrev pub dispatches : Here W → ℕ → Option ℕ → List (Entry W) → List (Slot W) → P → Step P W
  dispatches here number None stack arguments pool = Stuck pool
  dispatches here number (Some class) stack arguments pool =
      let target = or_itself number (overrider_in here.program.types class number) in enters_found here target (method_at here.program target) stack arguments pool

  abbrev pub call_on : Here W → ℕ → List (Slot W) → List (Entry W) → P → Step P W
  call_on here number (slots.Cell cell ∷ arguments) rest pool = dispatches here number (class_of here.shared.heap cell) rest (slots.Cell cell ∷ arguments) pool
  call_on here number (slots.Null ∷ arguments) rest pool = throws a here null_reference pool
  call_on here number _ rest pool = Stuck pool

  -- `callvirt`: the receiver may not be null, and its class says which method runs
  abbrev pub call_virtual_row : Here W → ℕ → List (Entry W) → P → Step P W
  call_virtual_row here number stack pool = on_option a (method_at here.program number) pool (λ method.
      on_arguments (reverse (all_params method)) stack [] pool (λ arguments rest after. call_on here number arguments rest after))

  -- RETURNS

  abbrev pub value_of : Slot W → Value
  value_of (slots.Number x) = values.Number (a.word x)
  value_of slots.Null = values.Null
  value_of (slots.Cell number) = values.Object

  -- the caller goes on behind its call, with what was returned
  abbrev pub goes_back : Here W → List (Frame W) → Option (Entry W) → Value → P → Step P W
  goes_back here [] result value pool = begins_later here.shared.later
    where
      begins_later : List (Frame W) → Step P W
      begins_later [] = Ends (ends.Returned value) pool
      begins_later (frame ∷ more) = Goes (record { pool = pool; shared = record here.shared { later = more }; frames = frame ∷ [] })
  goes_back here (caller ∷ callers) result value pool =
      on_option a (next_of (instr_in (method_at here.program caller.method) caller.offset)) pool (λ next.
      Goes (record { pool = pool; shared = here.shared; frames = record caller { offset = next; stack = with_result result caller.stack } ∷ callers }))
    where
      with_result : Option (Entry W) → List (Entry W) → List (Entry W)
      with_result None stack = stack
      with_result (Some x) stack = x ∷ stack

  abbrev pub returns : Here W → Option Place → List (Entry W) → P → Step P W
  returns here None stack pool = goes_back here here.callers None values.Nothing pool
  returns here (Some place) stack pool = on_entry a stack pool (λ x rest. stored a place x pool (λ slot after.
      on_option a (entry_by (kind_at place) slot) after (λ result. goes_back here here.callers (Some result) (value_of slot) after)))
