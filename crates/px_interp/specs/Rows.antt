-- What the answer of a row stands for, and what a row needs.
use Rattle.std.specs.Prelude.{ℕ, ◌<◌, ◌≤◌, ◌^◌, List, IsSome}
use Rattle.px_cells.specs.Algebra.{Made}
use Rattle.px_program.specs.declared.instr.Code.{Code}
use Rattle.px_program.specs.declared.instr.Code.TheVariants as codes
use Rattle.px_program.specs.declared.instr.Move.{Move}
use Rattle.px_program.specs.declared.instr.Move.TheVariants as moves
use Rattle.px_interp.specs.declared.rows.Next.{Next}
use Rattle.px_interp.specs.declared.rows.Next.TheVariants as nexts
use Rattle.px_interp.specs.Table.{Step, Goes, Chooses, Ends, operator_of}

abbrev pub made : {P W : Type 0} → W → P → Made P W
made x pool = record { scalar = x; pool = pool }

-- the step that an answer stands for, with the stack and the pool behind it
abbrev pub step_of : {P W : Type 0} → Next W → List W → P → Step P W
step_of (nexts.Goes at) stack pool = Goes (record { at = at; stack = stack; pool = pool })
step_of (nexts.Chooses seen at) stack pool = Chooses seen (record { at = at; stack = stack; pool = pool })
step_of (nexts.Ends end) stack pool = Ends end pool

-- a value that is put on the stack is there, of so many arguments
abbrev pub HasScalar : ℕ → Move → Type 0
HasScalar count (moves.Argument n) = n < count
HasScalar count (moves.Constant32 pattern) = pattern < 2 ^ 32
HasScalar count (moves.Constant64 pattern) = pattern < 2 ^ 64
HasScalar count _ = ⊥

-- what an instruction needs, of so many arguments and with so many operands on the stack
abbrev pub Needs : ℕ → ℕ → Code → Type 0
Needs count depth (codes.Nop is_break) = Unit {0}
Needs count depth (codes.Move move) = HasScalar count move
Needs count depth (codes.Arithmetic operation) = IsSome (operator_of operation) × (2 ≤ depth)
Needs count depth (codes.Branch target) = Unit {0}
Needs count depth (codes.BranchTruth when target) = 1 ≤ depth
Needs count depth (codes.BranchCompare test signed target) = 2 ≤ depth
Needs count depth codes.Return = 1 ≤ depth
Needs count depth (codes.Outside name opcode) = Unit {0}
Needs count depth _ = ⊥
