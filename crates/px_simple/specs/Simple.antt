-- Simple methods: int32 constants and arguments, sums, branches with nothing left on the stack, and returns.
-- The code is walked in order, with the number of operands on the stack.
use Rattle.std.specs.Prelude.{◌≡◌, ℕ, ◌+◌, ◌-◌, ◌^◌, List, [], ◌∷◌, ◌==◌, ◌&&◌, ◌||◌, not, nat_lt, nat_le, Bool, true, false, if◌then◌else◌, Option, Some, None, slice_get}
use Rattle.std.specs.List.{list_any}
use Rattle.px_program.specs.declared.instr.Arithmetic.{Arithmetic}
use Rattle.px_program.specs.declared.instr.Arithmetic.TheVariants as arithmetic
use Rattle.px_program.specs.declared.instr.Instr.{Instr}
use Rattle.px_program.specs.declared.instr.Code.{Code}
use Rattle.px_program.specs.declared.instr.Code.TheVariants as codes
use Rattle.px_program.specs.declared.instr.Move.{Move}
use Rattle.px_program.specs.declared.instr.Move.TheVariants as moves
use Rattle.px_program.specs.declared.program.Method.{Method}
use Rattle.px_program.specs.declared.program.Place.{Place}
use Rattle.px_program.specs.declared.program.Place.TheVariants as places
use Rattle.px_program.specs.declared.program.Program.{Program}
use Rattle.px_simple.specs.declared.simple_methods.SimpleFault.{SimpleFault}
use Rattle.px_simple.specs.declared.simple_methods.SimpleFault.TheVariants as faults
use Rattle.px_program.specs.Formed.{IsWellFormed, all_params, entry_of, targets_of}

-- how many operands an instruction takes, where it is one that may stand
abbrev pub taken : Code → ℕ
taken (codes.Arithmetic operation) = 2
taken (codes.BranchTruth when target) = 1
taken (codes.BranchCompare test signed target) = 2
taken codes.Return = 1
taken _ = 0

-- how many it leaves
abbrev pub left : Code → ℕ
left (codes.Move move) = 1
left (codes.Arithmetic operation) = 1
left _ = 0

-- a branch or a return, behind which the stack is empty
abbrev pub is_turn : Code → Bool
is_turn (codes.Branch target) = true
is_turn (codes.BranchTruth when target) = true
is_turn (codes.BranchCompare test signed target) = true
is_turn codes.Return = true
is_turn _ = false

-- it never goes on to the next instruction
abbrev pub is_last : Code → Bool
is_last (codes.Branch target) = true
is_last codes.Return = true
is_last _ = false

abbrev pub is_int32 : Option Place → Bool
is_int32 None = false
is_int32 (Some places.I4) = true
is_int32 (Some _) = false

-- an argument is that of an int32 parameter, and a constant is one of 32 bits
abbrev pub has_value : Method → Move → Bool
has_value method (moves.Argument n) = is_int32 (slice_get (all_params method) n)
has_value method (moves.Constant32 pattern) = nat_lt pattern (2 ^ 32)
has_value method _ = false

-- `add` or `sub`
abbrev pub is_sum : Arithmetic → Bool
is_sum arithmetic.Add = true
is_sum arithmetic.Sub = true
is_sum _ = false

-- the instruction is one that may stand, and names only what is there
abbrev pub is_known : Method → Code → Bool
is_known method (codes.Nop is_break) = not is_break
is_known method (codes.Move move) = has_value method move
is_known method (codes.Arithmetic operation) = is_sum operation
is_known method (codes.Branch target) = true
is_known method (codes.BranchTruth when target) = true
is_known method (codes.BranchCompare test signed target) = true
is_known method codes.Return = true
is_known method _ = false

-- some branch leads to the offset
abbrev pub is_target : List Instr → ℕ → Bool
is_target code at = list_any (λ i. list_any (λ target. target == at) (targets_of i.code)) code

-- how many operands there are behind an instruction
abbrev pub after : ℕ → Code → ℕ
after depth code = depth - taken code + left code

-- the instruction may stand where so many operands are, with more instructions behind it or not
unfoldable pub is_fine : Method → Instr → ℕ → Bool → Bool
is_fine method i depth more =
    is_known method i.code && nat_le (taken i.code) depth && nat_le (after depth i.code) 8
    && (not (is_turn i.code) || (after depth i.code == 0))
    && (more || is_last i.code)
    && ((depth == 0) || not (is_target method.code i.offset))

abbrev pub has_more : List Instr → Bool
has_more [] = false
has_more (i ∷ rest) = true

-- the first offset from here on at which an instruction may not stand
abbrev pub fault_from : Method → ℕ → List Instr → Option ℕ
fault_from method depth [] = None
fault_from method depth (i ∷ rest) =
    if is_fine method i depth (has_more rest) then fault_from method (after depth i.code) rest else Some i.offset

abbrev pub fault_in : Option Method → Option ℕ
fault_in None = Some 0
fault_in (Some method) = fault_from method 0 method.code

-- the first offset of the entry at which an instruction may not stand
abbrev pub fault_of : Program → Option ℕ
fault_of program = fault_in (entry_of program)

-- why a program isn't accepted
abbrev pub Blames : Program → SimpleFault → Type 0
Blames program faults.Memory = Unit {0}
Blames program (faults.At at) = fault_of program ≡ Some at

-- a well-formed program whose entry is simple
pub record IsSimple (program : Program) : Type 0 where
  pub formed : IsWellFormed program
  pub fine : fault_of program ≡ None
