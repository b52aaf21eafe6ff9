-- What each instruction of an accepted method finds on the stack, and where it leads.
use Rattle.std.specs.Prelude.{◌≡◌, ℕ, ◌+◌, ◌-◌, ◌<◌, ◌≤◌, ◌^◌, List, [], ◌∷◌, ◌==◌, true, if◌then◌else◌, Option, Some, None, slice_get, IsSome}
use Rattle.px_program.specs.declared.instr.Instr.{Instr}
use Rattle.px_program.specs.declared.instr.Code.{Code}
use Rattle.px_program.specs.declared.instr.Code.TheVariants as codes
use Rattle.px_program.specs.declared.instr.Move.{Move}
use Rattle.px_program.specs.declared.instr.Move.TheVariants as moves
use Rattle.px_program.specs.declared.program.Method.{Method}
use Rattle.px_program.specs.declared.program.Place.TheVariants.{I4}
use Rattle.px_program.specs.Formed.{all_params, instr_at}
use Rattle.px_simple.specs.Simple.{after, is_sum}

-- the operands before the instruction at an offset, by a walk from a place with so many
abbrev pub depth_from : ℕ → List Instr → ℕ → Option ℕ
depth_from depth [] at = None
depth_from depth (i ∷ rest) at = if i.offset == at then Some depth else depth_from (after depth i.code) rest at

-- there is an instruction at the offset, with so many operands on the stack before it
abbrev pub At : Method → ℕ → ℕ → Type 0
At method at depth = depth_from 0 method.code at ≡ Some depth

-- a value that is put on the stack is there
abbrev pub HasValue : Method → Move → Type 0
HasValue method (moves.Argument n) = slice_get (all_params method) n ≡ Some I4
HasValue method (moves.Constant32 pattern) = pattern < 2 ^ 32
HasValue method _ = ⊥

-- what an instruction with so many operands needs, and where it leads
abbrev pub Fits : Method → ℕ → ℕ → Code → Type 0
Fits method next depth (codes.Nop is_break) = At method next depth
Fits method next depth (codes.Move move) = HasValue method move × At method next (depth + 1)
Fits method next depth (codes.Arithmetic operation) = (is_sum operation ≡ true) × (2 ≤ depth) × At method next (depth - 1)
Fits method next depth (codes.Branch target) = At method target depth
Fits method next depth (codes.BranchTruth when target) = (1 ≤ depth) × At method next (depth - 1) × At method target (depth - 1)
Fits method next depth (codes.BranchCompare test signed target) = (2 ≤ depth) × At method next (depth - 2) × At method target (depth - 2)
Fits method next depth codes.Return = 1 ≤ depth
Fits method next depth _ = ⊥

-- every instruction that a run can come to finds what it needs
pub record IsTyped (method : Method) : Type 0 where
  pub start : At method 0 0
  pub there : (at depth : ℕ) → At method at depth → IsSome (instr_at method.code at)
  pub each : (at depth : ℕ) (i : Instr) → At method at depth → instr_at method.code at ≡ Some i → Fits method i.next depth i.code
