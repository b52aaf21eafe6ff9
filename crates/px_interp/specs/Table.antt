-- The table of instructions and a whole run, read in any algebra of scalars: Partition III.
-- A row computes the side of an event from a word, and all that comes next from the side alone.
use Rattle.std.specs.Prelude.{ℕ, zero, suc, ◌==◌, Bool, true, false, if◌then◌else◌, List, [], ◌∷◌, Option, Some, None, slice_get}
use Rattle.px_words.specs.declared.Op.{Op}
use Rattle.px_words.specs.declared.Op.TheVariants as op
use Rattle.px_cells.specs.Algebra.{Algebra, Made}
use Rattle.px_program.specs.declared.instr.Arithmetic.{Arithmetic}
use Rattle.px_program.specs.declared.instr.Arithmetic.TheVariants as arithmetic
use Rattle.px_program.specs.declared.instr.Code.{Code}
use Rattle.px_program.specs.declared.instr.Code.TheVariants as codes
use Rattle.px_program.specs.declared.instr.Compare.{Compare}
use Rattle.px_program.specs.declared.instr.Instr.{Instr}
use Rattle.px_program.specs.declared.instr.Move.{Move}
use Rattle.px_program.specs.declared.instr.Move.TheVariants as moves
use Rattle.px_program.specs.declared.instr.Test.{Test}
use Rattle.px_program.specs.declared.instr.Test.TheVariants as tests
use Rattle.px_program.specs.declared.program.Method.{Method}
use Rattle.px_program.specs.declared.record.End.{End}
use Rattle.px_program.specs.declared.record.End.TheVariants as ends
use Rattle.px_program.specs.declared.record.Event.{Event}
use Rattle.px_program.specs.declared.record.SiteKind.TheVariants.{Branch}
use Rattle.px_program.specs.declared.record.Value.TheVariants as values
use Rattle.px_program.specs.Formed.{instr_at}
use Rattle.px_rank.specs.Distance.{gap_of}
use Rattle.px_interp.specs.declared.machine.Seen.{Seen}

-- where a run is: the offset, the stack with its top first, and the pool
pub record State (P W : Type 0) : Type 0 where
  pub at : ℕ
  pub stack : List W
  pub pool : P

-- what a step gives: the next state, perhaps behind an event, or an end; or there is no row, and the run is stuck
pub data Step (P W : Type 0) : Type 0 where
  Goes : State P W → Step P W
  Chooses : Seen W → State P W → Step P W
  Ends : End → P → Step P W
  Stuck : P → Step P W

-- the events in order, the end (none where the run got stuck) and the last pool
pub record Outcome (P W : Type 0) : Type 0 where
  pub seen : List (Seen W)
  pub end : Option End
  pub pool : P

-- goes on with a scalar more on the stack
abbrev pub pushed : {P W : Type 0} → ℕ → List W → Made P W → Step P W
pushed next stack made = Goes (record { at = next; stack = made.scalar ∷ stack; pool = made.pool })

-- the operators on 32 bits; the other operations have no row yet
abbrev pub operator_of : Arithmetic → Option Op
operator_of arithmetic.Add = Some (op.Add false)
operator_of arithmetic.Sub = Some (op.Sub false)
operator_of _ = None

abbrev pub less : Compare → Op
less compare = if compare.signed then op.LtS compare.wide else op.LtU compare.wide

-- side 1 jumps, and side 0 falls through
abbrev pub landing : ℕ → ℕ → ℕ → ℕ
landing side next target = if side == 0 then next else target

-- the side of a branch of a method
abbrev pub branch_event : ℕ → ℕ → ℕ → Event
branch_event method offset side = record { site = record { method = method; offset = offset; kind = Branch; arity = 2 }; side = side }

-- `beq` to `blt.un` on int32
abbrev pub compare_of : Test → Bool → Compare
compare_of test signed = record { test = test; signed = signed; wide = false }

-- `brtrue` jumps where its operand isn't 0, and `brfalse` where it is
abbrev pub truth_compare : Bool → Compare
truth_compare true = compare_of tests.Ne true
truth_compare false = compare_of tests.Eq true

module _ {P W : Type 0} (a : Algebra P W) where
  abbrev pub constant : P → ℕ → Made P W
  constant pool pattern = a.applied pool (op.Const false pattern) []

  abbrev pub on_two : Op → W → W → P → Made P W
  on_two o x y pool = a.applied pool o (x ∷ y ∷ [])

  -- 1 where the scalar is 0, and else 0
  abbrev pub is_zero : Made P W → Made P W
  is_zero made = let z = constant made.pool 0 in on_two (op.Eq false) made.scalar z.scalar z.pool

  -- 1 where the comparison holds, and else 0
  abbrev pub condition_by : Test → Compare → W → W → P → Made P W
  condition_by tests.Eq compare x y pool = on_two (op.Eq compare.wide) x y pool
  condition_by tests.Ne compare x y pool = is_zero (on_two (op.Eq compare.wide) x y pool)
  condition_by tests.Gt compare x y pool = on_two (less compare) y x pool
  condition_by tests.Ge compare x y pool = is_zero (on_two (less compare) x y pool)
  condition_by tests.Lt compare x y pool = on_two (less compare) x y pool
  condition_by tests.Le compare x y pool = is_zero (on_two (less compare) y x pool)

  abbrev pub condition : Compare → W → W → P → Made P W
  condition compare x y pool = condition_by compare.test compare x y pool

  -- chooses the side that the condition's word is
  abbrev pub chosen : ℕ → ℕ → ℕ → ℕ → List W → ℕ → Made P W → Step P W
  chosen method offset next target stack gap made =
      let side = a.word made.scalar in
      Chooses (record { event = branch_event method offset side; gap = gap; side = made.scalar }) (record { at = landing side next target; stack = stack; pool = made.pool })

  -- a branch on a comparison, with the distance from its other side
  abbrev pub branched : ℕ → ℕ → ℕ → ℕ → List W → Compare → W → W → P → Step P W
  branched method offset next target stack compare x y pool =
      chosen method offset next target stack (gap_of compare (a.word x) (a.word y)) (condition compare x y pool)

  abbrev pub on_argument : Option W → ℕ → List W → P → Step P W
  on_argument None next stack pool = Stuck pool
  on_argument (Some x) next stack pool = Goes (record { at = next; stack = x ∷ stack; pool = pool })

  abbrev pub on_move : Move → List W → ℕ → List W → P → Step P W
  on_move (moves.Argument n) args next stack pool = on_argument (slice_get args n) next stack pool
  on_move (moves.Constant32 pattern) args next stack pool = pushed next stack (a.applied pool (op.Const false pattern) [])
  on_move (moves.Constant64 pattern) args next stack pool = pushed next stack (a.applied pool (op.Const true pattern) [])
  on_move _ args next stack pool = Stuck pool

  abbrev pub on_arithmetic : Option Op → ℕ → List W → P → Step P W
  on_arithmetic (Some o) next (y ∷ x ∷ stack) pool = pushed next stack (on_two o x y pool)
  on_arithmetic _ next stack pool = Stuck pool

  abbrev pub on_truth : ℕ → ℕ → ℕ → ℕ → Compare → List W → P → Step P W
  on_truth method offset next target compare [] pool = Stuck pool
  on_truth method offset next target compare (x ∷ stack) pool =
      let z = constant pool 0 in branched method offset next target stack compare x z.scalar z.pool

  abbrev pub on_compare : ℕ → ℕ → ℕ → ℕ → Compare → List W → P → Step P W
  on_compare method offset next target compare [] pool = Stuck pool
  on_compare method offset next target compare (y ∷ []) pool = Stuck pool
  on_compare method offset next target compare (y ∷ x ∷ stack) pool = branched method offset next target stack compare x y pool

  abbrev pub on_return : List W → P → Step P W
  on_return [] pool = Stuck pool
  on_return (x ∷ stack) pool = Ends (ends.Returned (values.Number (a.word x))) pool

  -- THE TABLE: a row for each instruction that is run so far, of the method of a number, at an offset, before the next offset
  abbrev pub row : Code → ℕ → ℕ → ℕ → List W → List W → P → Step P W
  row (codes.Nop is_break) method offset next args stack pool = Goes (record { at = next; stack = stack; pool = pool })
  row (codes.Move move) method offset next args stack pool = on_move move args next stack pool
  row (codes.Arithmetic operation) method offset next args stack pool = on_arithmetic (operator_of operation) next stack pool
  row (codes.Branch target) method offset next args stack pool = Goes (record { at = target; stack = stack; pool = pool })
  row (codes.BranchTruth when target) method offset next args stack pool = on_truth method offset next target (truth_compare when) stack pool
  row (codes.BranchCompare test signed target) method offset next args stack pool = on_compare method offset next target (compare_of test signed) stack pool
  row codes.Return method offset next args stack pool = on_return stack pool
  row (codes.Outside name opcode) method offset next args stack pool = Ends (ends.Outside method offset) pool
  row _ method offset next args stack pool = Stuck pool

  abbrev pub row_at : Option Instr → ℕ → List W → State P W → Step P W
  row_at None method args s = Stuck s.pool
  row_at (Some i) method args s = row i.code method i.offset i.next args s.stack s.pool

  -- one step of a method of a number on its arguments
  abbrev pub step : Method → ℕ → List W → State P W → Step P W
  step body method args s = row_at (instr_at body.code s.at) method args s

  abbrev pub behind : Step P W → (State P W → Outcome P W) → Outcome P W
  behind (Goes s) go = go s
  behind (Chooses e s) go = record { seen = e ∷ (go s).seen; end = (go s).end; pool = (go s).pool }
  behind (Ends end pool) go = record { seen = []; end = Some end; pool = pool }
  behind (Stuck pool) go = record { seen = []; end = None; pool = pool }

  -- at most so many steps, and the bound where they don't come to an end
  unfoldable pub run : ℕ → Method → ℕ → List W → State P W → Outcome P W
  run zero body method args s = record { seen = []; end = Some ends.StepBound; pool = s.pool }
  run (suc n) body method args s = behind (step body method args s) (run n body method args)

-- before the first instruction
abbrev pub first : {P W : Type 0} → P → State P W
first pool = record { at = 0; stack = []; pool = pool }
