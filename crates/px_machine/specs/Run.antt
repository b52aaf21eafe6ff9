-- A run: steps from the first state until it ends, or as many as it may take.
use Rattle.std.specs.Prelude.{ℕ, zero, suc, true, false, List, [], ◌∷◌, Option, Some, None, map}
use Rattle.px_words.specs.declared.Op.TheVariants as op
use Rattle.px_cells.specs.Algebra.{Algebra}
use Rattle.px_cells.specs.declared.slot.Slot.{Slot}
use Rattle.px_program.specs.Formed.{method_at}
use Rattle.px_program.specs.declared.instr.Instr.{Instr}
use Rattle.px_program.specs.declared.program.Method.{Method}
use Rattle.px_program.specs.declared.program.Program.{Program}
use Rattle.px_program.specs.declared.program.TypeInfo.{TypeInfo}
use Rattle.px_program.specs.declared.record.Bounds.{Bounds}
use Rattle.px_program.specs.declared.record.End.TheVariants as ends
use Rattle.px_machine.specs.Parts.{instr_in, locals_of}
use Rattle.px_machine.specs.State.{Frame, Outcome, Shared, State, Step, Goes, Sees, Ends, Stuck, Zeros}
use Rattle.px_machine.specs.Steps.{zero_at}
use Rattle.px_machine.specs.Table.{row}
use Rattle.px_machine.specs.declared.entry.Choice.{Choice}

module _ {P W : Type 0} (a : Algebra P W) (program : Program) (bounds : Bounds) where
  abbrev pub step_at : Shared W → Frame W → List (Frame W) → P → Option Instr → Step P W
  step_at shared frame callers pool None = Stuck pool
  step_at shared frame callers pool (Some i) = row a (record { program = program; bounds = bounds; shared = shared; frame = frame; callers = callers; next = i.next }) i.code frame.stack pool

  abbrev pub step_of : Shared W → List (Frame W) → P → Step P W
  step_of shared [] pool = Stuck pool
  step_of shared (frame ∷ callers) pool = step_at shared frame callers pool (instr_in (method_at program frame.method) frame.offset)

  -- the instruction of the innermost frame
  abbrev pub step : State P W → Step P W
  step s = step_of s.shared s.frames s.pool

  abbrev pub seen_first : Choice W → Outcome P W → Outcome P W
  seen_first choice rest = record { choices = choice ∷ rest.choices; end = rest.end; pool = rest.pool }

  -- what a step comes to, with the run from the state that it goes on to
  abbrev pub after : Step P W → (State P W → Outcome P W) → Outcome P W
  after (Goes s) go = go s
  after (Sees choice rest) go = seen_first choice (after rest go)
  after (Ends end pool) go = record { choices = []; end = Some end; pool = pool }
  after (Stuck pool) go = record { choices = []; end = None; pool = pool }

  -- a run of at most so many steps
  unfoldable pub run : ℕ → State P W → Outcome P W
  run zero s = record { choices = []; end = Some ends.StepBound; pool = s.pool }
  run (suc n) s = after (step s) (run n)

-- the zeros of a run, which are made first
pub record Begun (P W : Type 0) : Type 0 where
  pub zeros : Zeros W
  pub pool : P

abbrev pub begun : {P W : Type 0} → Algebra P W → P → Begun P W
begun a pool =
    let narrow = a.applied pool (op.Const false 0) [] in
    let wide = a.applied narrow.pool (op.Const true 0) [] in
    record { zeros = record { narrow = narrow.scalar; wide = wide.scalar }; pool = wide.pool }

-- nothing was made yet: static fields are 0 or null
abbrev pub shared_first : {P W : Type 0} → Algebra P W → Program → Zeros W → Shared W
shared_first a program zeros = record { zeros = zeros; heap = []; statics = map (λ (type : TypeInfo). map (zero_at a zeros) type.statics) program.types; texts = []; later = [] }

-- the frame of a method of this number on arguments that its parameters keep
abbrev pub frame_of : {P W : Type 0} → Algebra P W → Zeros W → Option Method → ℕ → List (Slot W) → Frame W
frame_of a zeros method number arguments = record { method = number; offset = 0; arguments = arguments; locals = map (zero_at a zeros) (locals_of method); stack = []; blocks = [] }

-- the first state of a run of a method on arguments
abbrev pub first_state : {P W : Type 0} → Algebra P W → Program → ℕ → List (Slot W) → P → State P W
first_state a program number arguments pool =
    let start = begun a pool in
    record { pool = start.pool; shared = shared_first a program start.zeros; frames = frame_of a start.zeros (method_at program number) number arguments ∷ [] }

-- the run of a method for as many steps as the bounds allow
abbrev pub run_of : {P W : Type 0} → Algebra P W → Program → Bounds → ℕ → List (Slot W) → P → Outcome P W
run_of a program bounds number arguments pool = run a program bounds bounds.steps (first_state a program number arguments pool)
