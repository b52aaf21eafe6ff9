-- Rows that move values between the stack, arguments and locals, and that put constants on it (Partition III, 3).
use Rattle.std.specs.Prelude.{ℕ, true, false, List, [], ◌∷◌, Option, Some, None, slice_get, slice_set}
use Rattle.px_cells.specs.Algebra.{Algebra}
use Rattle.px_program.specs.Formed.{method_at}
use Rattle.px_program.specs.declared.instr.Move.{Move}
use Rattle.px_program.specs.declared.instr.Move.TheVariants as moves
use Rattle.px_machine.specs.declared.entry.Entry.{Entry}
use Rattle.px_machine.specs.declared.entry.Entry.TheVariants as entry
use Rattle.px_machine.specs.declared.entry.NumberKind.TheVariants.{I, L}
use Rattle.px_machine.specs.State.{Here, Step}
use Rattle.px_machine.specs.Parts.{text_class, loaded, locals_of, params_of, text_cell}
use Rattle.px_machine.specs.Scalars.{constant}
use Rattle.px_machine.specs.Steps.{goes_on, pushes, makes, on_entry, on_option, stored}

module _ {P W : Type 0} (a : Algebra P W) where
  -- equal texts are one object
  abbrev pub text_row : Here W → List ℕ → Option ℕ → List (Entry W) → P → Step P W
  text_row here units (Some cell) stack pool = goes_on a here (entry.Cell cell ∷ stack) pool
  text_row here units None stack pool = makes a here text_class [] pool (λ now cell.
      goes_on a (record now { shared = record now.shared { texts = (units, cell) ∷ now.shared.texts } }) (entry.Cell cell ∷ stack) pool)

  abbrev pub move_row : Here W → Move → List (Entry W) → P → Step P W
  move_row here (moves.Argument n) stack pool =
      on_option a (loaded (slice_get (params_of (method_at here.program here.frame.method)) n) (slice_get here.frame.arguments n)) pool (λ x. goes_on a here (x ∷ stack) pool)
  move_row here (moves.Local n) stack pool =
      on_option a (loaded (slice_get (locals_of (method_at here.program here.frame.method)) n) (slice_get here.frame.locals n)) pool (λ x. goes_on a here (x ∷ stack) pool)
  move_row here (moves.SetArgument n) stack pool =
      on_option a (slice_get (params_of (method_at here.program here.frame.method)) n) pool (λ place. on_entry a stack pool (λ x rest. stored a place x pool
      (λ slot after. goes_on a (record here { frame = record here.frame { arguments = slice_set here.frame.arguments n slot } }) rest after)))
  move_row here (moves.SetLocal n) stack pool =
      on_option a (slice_get (locals_of (method_at here.program here.frame.method)) n) pool (λ place. on_entry a stack pool (λ x rest. stored a place x pool
      (λ slot after. goes_on a (record here { frame = record here.frame { locals = slice_set here.frame.locals n slot } }) rest after)))
  move_row here (moves.Constant32 pattern) stack pool = pushes a here I stack (constant a false pattern pool)
  move_row here (moves.Constant64 pattern) stack pool = pushes a here L stack (constant a true pattern pool)
  move_row here moves.Null stack pool = goes_on a here (entry.Null ∷ stack) pool
  move_row here (moves.Text units) stack pool = text_row here units (text_cell here.shared.texts units) stack pool
  move_row here moves.Duplicate stack pool = on_entry a stack pool (λ x rest. goes_on a here (x ∷ x ∷ rest) pool)
  move_row here moves.Pop stack pool = on_entry a stack pool (λ x rest. goes_on a here rest pool)
