-- How instructions may go into protected ranges and handler blocks, and out of them (Partition III, 1.7.5, 3.35, 3.46, 3.57 and 4.24; Partition I, 12.4.2.8).
use Rattle.std.specs.Prelude.{ℕ, ◌-◌, ◌&&◌, ◌||◌, not, nat_le, nat_lt, Bool, true, false, if◌then◌else◌, List, [], ◌∷◌, ◌++◌, Option, Some, None}
use Rattle.std.specs.List.{list_any}
use Rattle.px_program.specs.Formed.{targets_of}
use Rattle.px_program.specs.declared.instr.Code.{Code}
use Rattle.px_program.specs.declared.instr.Code.TheVariants as codes
use Rattle.px_program.specs.declared.instr.Instr.{Instr}
use Rattle.px_program.specs.declared.program.Clause.{Clause}
use Rattle.px_program.specs.declared.program.ClauseKind.{ClauseKind}
use Rattle.px_program.specs.declared.program.ClauseKind.TheVariants as clauses

-- WHERE INSTRUCTIONS LEAD

-- it may go on with the next instruction
abbrev pub goes_on : Code → Bool
goes_on (codes.Branch target) = false
goes_on codes.Return = false
goes_on (codes.Throw again) = false
goes_on (codes.Leave target) = false
goes_on codes.EndFinally = false
goes_on (codes.Outside name opcode) = false
goes_on _ = true

abbrev pub next_of : Instr → List ℕ
next_of i = if goes_on i.code then i.next ∷ [] else []

-- the offsets to which it may lead, in order
abbrev pub successors : Instr → List ℕ
successors i = next_of i ++ targets_of i.code

-- RANGES

abbrev pub lies_in : ℕ → ℕ → ℕ → Bool
lies_in from to at = nat_le from at && nat_lt at to

abbrev pub in_range : ℕ → Clause → Bool
in_range at clause = lies_in clause.from clause.to at

abbrev pub in_block : ℕ → Clause → Bool
in_block at clause = lies_in clause.start clause.stop at

abbrev pub is_around : ℕ → Clause → Bool
is_around at clause = in_range at clause || in_block at clause

abbrev pub differ : Bool → Bool → Bool
differ true there = not there
differ false there = there

-- a flow exits the range, or goes into the block or out of it
abbrev pub strays : ℕ → ℕ → Clause → Bool
strays at to clause = (in_range at clause && not (in_range to clause)) || differ (in_block at clause) (in_block to clause)

abbrev pub is_catch : ClauseKind → Bool
is_catch clauses.Catch = true
is_catch _ = false

-- its block ends by `endfinally`
abbrev pub ends_finally : ClauseKind → Bool
ends_finally clauses.Finally = true
ends_finally clauses.Fault = true
ends_finally _ = false

-- a `leave` goes into a finally or fault block or out of it, or into a catch block
abbrev pub leave_strays : ℕ → ℕ → Clause → Bool
leave_strays at to clause =
    (ends_finally clause.kind && differ (in_block at clause) (in_block to clause)) || (is_catch clause.kind && (in_block to clause && not (in_block at clause)))

-- INNERMOST BLOCKS

abbrev pub block_width : Clause → ℕ
block_width clause = clause.stop - clause.start

-- the one with the shorter block, the first where they are alike
abbrev pub shorter : Clause → Option Clause → Clause
shorter clause None = clause
shorter clause (Some other) = if nat_lt (block_width other) (block_width clause) then other else clause

-- the clause with the shortest block around an offset, the first of those alike
abbrev pub innermost : ℕ → List Clause → Option Clause
innermost at [] = None
innermost at (clause ∷ more) = if in_block at clause then Some (shorter clause (innermost at more)) else innermost at more

abbrev pub has_kind : (ClauseKind → Bool) → Option Clause → Bool
has_kind is None = false
has_kind is (Some clause) = is clause.kind

-- WHAT MUST NOT BE

abbrev pub any_strays : ℕ → List ℕ → List Clause → Bool
any_strays at targets clauses = list_any (λ to. list_any (strays at to) clauses) targets

abbrev pub is_bad_leave : Instr → List Clause → Bool
is_bad_leave i clauses = by_code i.offset (successors i) clauses i.code
  where
    by_code : ℕ → List ℕ → List Clause → Code → Bool
    by_code at targets clauses (codes.Leave target) = list_any (leave_strays at target) clauses
    by_code at targets clauses codes.EndFinally = not (has_kind ends_finally (innermost at clauses))
    by_code at targets clauses (codes.Throw true) = not (has_kind is_catch (innermost at clauses))
    by_code at targets clauses code = any_strays at targets clauses
