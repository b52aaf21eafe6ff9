-- Rows of exceptions and blocks (Partition III, 3 and 4).
use Rattle.std.specs.Prelude.{ℕ, suc, List, [], ◌∷◌, Option, Some, None, slice_get}
use Rattle.px_cells.specs.Algebra.{Algebra}
use Rattle.px_program.specs.Formed.{method_at}
use Rattle.px_program.specs.declared.record.End.TheVariants as ends
use Rattle.px_unwind.specs.Clauses.{exit_in}
use Rattle.px_machine.specs.declared.entry.Cause.{Cause}
use Rattle.px_machine.specs.declared.entry.Cause.TheVariants as causes
use Rattle.px_machine.specs.declared.entry.Entry.{Entry}
use Rattle.px_machine.specs.declared.entry.Entry.TheVariants as entry
use Rattle.px_machine.specs.State.{Here, Step, Goes, Ends, Stuck}
use Rattle.px_machine.specs.Parts.{null_reference, innermost_block, blocks_at, without, cause_of}
use Rattle.px_machine.specs.Steps.{clauses_at, begins, unwinds, throws, on_entry, on_option}

module _ {P W : Type 0} (a : Algebra P W) where
  -- `throw`
  abbrev pub throw_row : Here W → List (Entry W) → P → Step P W
  throw_row here stack pool = on_entry a stack pool (λ x rest. throw_entry x)
    where
      throw_entry : Entry W → Step P W
      throw_entry entry.Null = throws a here null_reference pool
      throw_entry (entry.Cell cell) = unwinds a here cell here.frame.offset 0 pool
      throw_entry (entry.Number kind x) = Stuck pool

  abbrev pub outside_here : Here W → P → Step P W
  outside_here here pool = Ends (ends.Outside here.frame.method here.frame.offset) pool

  -- what began the innermost block, with its clause's number; where nothing did, the run is outside
  abbrev pub on_cause : Here W → P → (ℕ → Cause → Step P W) → Step P W
  on_cause here pool next = by_block (innermost_block here.frame.offset (clauses_at a here here.frame))
    where
      by_cause : ℕ → Option Cause → Step P W
      by_cause number None = outside_here here pool
      by_cause number (Some cause) = next number cause

      by_block : Option (ℕ × ℕ) → Step P W
      by_block None = outside_here here pool
      by_block (Some block) = by_cause block.0 (cause_of block.0 here.frame.blocks)

  -- `rethrow`: the exception that began the block, thrown here
  abbrev pub rethrow_row : Here W → P → Step P W
  rethrow_row here pool = on_cause here pool (λ number cause. again cause)
    where
      again : Cause → Step P W
      again (causes.Exception cell at) = unwinds a here cell here.frame.offset 0 pool
      again (causes.Leave from to) = Stuck pool

  -- a `leave` runs the finally blocks out of whose ranges it leads, from a clause on, and then comes to its target
  abbrev pub leaves : Here W → ℕ → ℕ → ℕ → P → Step P W
  leaves here from to after pool = on_option a (method_at here.program here.frame.method) pool (λ method. by_exit (exit_in method from to after))
    where
      by_exit : Option ℕ → Step P W
      by_exit None = Goes (record { pool = pool; shared = here.shared; frames = record here.frame { offset = to; stack = []; blocks = blocks_at (clauses_at a here here.frame) to here.frame.blocks } ∷ here.callers })
      by_exit (Some number) = begins a here here.frame here.callers number (slice_get (clauses_at a here here.frame) number) (causes.Leave from to) [] pool

  -- `endfinally` goes on with what began the block
  abbrev pub end_row : Here W → P → Step P W
  end_row here pool = on_cause here pool (λ number cause. ends_block number (record here { frame = record here.frame { blocks = without number here.frame.blocks } }) cause)
    where
      ends_block : ℕ → Here W → Cause → Step P W
      ends_block number now (causes.Leave from to) = leaves now from to (suc number) pool
      ends_block number now (causes.Exception cell at) = unwinds a now cell at (suc number) pool
