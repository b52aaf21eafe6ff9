-- The state of a run (Partition I, 12.3.2): frames, the innermost first, and what they share.
use Rattle.std.specs.Prelude.{ℕ, List, Option}
use Rattle.px_program.specs.declared.program.Program.{Program}
use Rattle.px_program.specs.declared.record.Bounds.{Bounds}
use Rattle.px_program.specs.declared.record.End.{End}
use Rattle.px_cells.specs.declared.slot.Slot.{Slot}
use Rattle.px_machine.specs.declared.entry.Cause.{Cause}
use Rattle.px_machine.specs.declared.entry.Choice.{Choice}
use Rattle.px_machine.specs.declared.entry.Entry.{Entry}

-- a cell of the heap: its class, and what its fields or elements hold
pub record Object (W : Type 0) : Type 0 where
  pub class : ℕ
  pub slots : List (Slot W)

-- A method that is run: its number, the offset of its instruction (in a frame that waits, that of the call), what its parameters and locals hold, its stack,
-- the top first, and the blocks of clauses that were begun and not left, by the clauses' numbers, with what began each.
pub record Frame (W : Type 0) : Type 0 where
  pub method : ℕ
  pub offset : ℕ
  pub arguments : List (Slot W)
  pub locals : List (Slot W)
  pub stack : List (Entry W)
  pub blocks : List (ℕ × Cause)

-- the zeros of both widths, which are made once
pub record Zeros (W : Type 0) : Type 0 where
  pub narrow : W
  pub wide : W

-- What is run, and what all frames share: the cells in the order in which they were made, of each type its static fields, of each text the cell that it has,
-- and the frames that begin where the outermost one returns.
pub record Shared (W : Type 0) : Type 0 where
  pub zeros : Zeros W
  pub heap : List (Object W)
  pub statics : List (List (Slot W))
  pub texts : List (List ℕ × ℕ)
  pub later : List (Frame W)

-- a state, with where the parts beside the words of scalars stand
pub record State (P W : Type 0) : Type 0 where
  pub pool : P
  pub shared : Shared W
  pub frames : List (Frame W)

-- where a step is: the innermost frame, those that wait for it, and the offset behind its instruction
pub record Here (W : Type 0) : Type 0 where
  pub program : Program
  pub bounds : Bounds
  pub shared : Shared W
  pub frame : Frame W
  pub callers : List (Frame W)
  pub next : ℕ

-- What an instruction does: it goes on to a state, comes to a site and then does what its side asks for, or ends the run. A run that is stuck has found what
-- no typed method holds.
pub data Step (P W : Type 0) : Type 0 where
  Goes : State P W → Step P W
  Sees : Choice W → Step P W → Step P W
  Ends : End → P → Step P W
  Stuck : P → Step P W

-- what a run came to: its choices in order, its end (none where it is stuck), and the last pool
pub record Outcome (P W : Type 0) : Type 0 where
  pub choices : List (Choice W)
  pub end : Option End
  pub pool : P
