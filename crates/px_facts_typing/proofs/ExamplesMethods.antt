-- Typings of small methods: the tables that the rounds give, and the first faults.
use Rattle.std.proofs.Common.{◌≡◌, ℕ, ◌+◌, List, [], ◌∷◌, Option, Some, None, true, refl}
use Rattle.px_program.specs.Alone.{alone}
use Rattle.px_program.specs.declared.instr.Arithmetic.TheVariants as arithmetic
use Rattle.px_program.specs.declared.instr.Code.{Code}
use Rattle.px_program.specs.declared.instr.Code.TheVariants as codes
use Rattle.px_program.specs.declared.instr.Instr.{Instr}
use Rattle.px_program.specs.declared.instr.Move.TheVariants as moves
use Rattle.px_program.specs.declared.program.Clause.{Clause}
use Rattle.px_program.specs.declared.program.ClauseKind.TheVariants as clauses
use Rattle.px_program.specs.declared.program.Method.{Method}
use Rattle.px_program.specs.declared.program.Program.{Program}
use Rattle.px_verify_kinds.specs.declared.kind.Kind.TheVariants as kinds
use Rattle.px_verify_flow.specs.declared.fault.VerifyKind.{VerifyKind}
use Rattle.px_verify_flow.specs.declared.fault.VerifyKind.TheVariants as faults
use Rattle.px_verify_rounds.specs.Table.{Table, begun, rounds, stack_at}
use Rattle.px_verify.specs.Verdict.{first_fault}

-- instructions of one byte each
laid_from : ℕ → List Code → List Instr
laid_from at [] = []
laid_from at (code ∷ more) = record { offset = at; next = at + 1; code = code } ∷ laid_from (at + 1) more

-- a static method without parameters that returns nothing
method_of : List Code → List Clause → Method
method_of code clauses = record { name = []; owner = 0; is_static = true; params = []; ret = None; locals = []; max_stack = 8; code = laid_from 0 code; clauses = clauses }

program_of : List Code → List Clause → Program
program_of code clauses = alone [] (method_of code clauses)

-- the table after so many rounds
table_after : ℕ → List Code → List Clause → Table
table_after count code clauses = rounds (program_of code clauses) (method_of code clauses) count (begun (program_of code clauses) (method_of code clauses))

fault_in : Option (Instr × VerifyKind) → Option (ℕ × VerifyKind)
fault_in None = None
fault_in (Some found) = Some (found.0.offset, found.1)

-- the offset and the kind of the first fault, judged on that table
fault_after : ℕ → List Code → List Clause → Option (ℕ × VerifyKind)
fault_after count code clauses = fault_in (first_fault (program_of code clauses) (method_of code clauses) (table_after count code clauses) (method_of code clauses).code)

constant : Code
constant = codes.Move (moves.Constant32 0)

-- `ldc.i4.0`, `pop`, `ret`
straight : table_after 1 (constant ∷ codes.Move moves.Pop ∷ codes.Return ∷ []) [] ≡ Some [] ∷ Some (kinds.I ∷ []) ∷ Some [] ∷ []
unfolding table_after program_of method_of laid_from constant
straight = refl

-- code that nothing leads to has no stack and no fault
unreached : fault_after 1 (codes.Return ∷ codes.Arithmetic arithmetic.Add ∷ []) [] ≡ None
unfolding fault_after fault_in table_after program_of method_of laid_from
unreached = refl

-- `br 2`, `br 1`, `br 0`: each leads to one before it, and takes rounds of its own
backwards : table_after 3 (codes.Branch 2 ∷ codes.Return ∷ codes.Branch 1 ∷ []) [] ≡ Some [] ∷ Some [] ∷ Some [] ∷ []
unfolding table_after program_of method_of laid_from
backwards = refl

-- a loop that leaves one value more each time: the merge at its head fails
growing : fault_after 2 (constant ∷ codes.Branch 0 ∷ []) [] ≡ Some (0, faults.BadMerge)
unfolding fault_after fault_in table_after program_of method_of laid_from constant
growing = refl

-- a finally block starts with nothing
finally_starts : stack_at (table_after 1 (codes.Leave 2 ∷ codes.EndFinally ∷ codes.Return ∷ []) (record { kind = clauses.Finally; from = 0; to = 1; start = 1; stop = 2; class = None } ∷ [])) 1 ≡ Some []
unfolding table_after program_of method_of laid_from
finally_starts = refl

-- a catch block starts with what it catches
catch_starts : stack_at (table_after 1 (codes.Leave 3 ∷ codes.Move moves.Pop ∷ codes.Leave 3 ∷ codes.Return ∷ []) (record { kind = clauses.Catch; from = 0; to = 1; start = 1; stop = 3; class = Some 5 } ∷ [])) 1 ≡ Some (kinds.Ref 5 ∷ [])
unfolding table_after program_of method_of laid_from
catch_starts = refl

-- such a method has no fault
catches : fault_after 1 (codes.Leave 3 ∷ codes.Move moves.Pop ∷ codes.Leave 3 ∷ codes.Return ∷ []) (record { kind = clauses.Catch; from = 0; to = 1; start = 1; stop = 3; class = Some 5 } ∷ []) ≡ None
unfolding fault_after fault_in table_after program_of method_of laid_from
catches = refl

-- two clauses that share a block: it starts with the common base of what both catch
shared_block : stack_at (table_after 1 (codes.Leave 3 ∷ codes.Move moves.Pop ∷ codes.Leave 3 ∷ codes.Return ∷ [])
    (record { kind = clauses.Catch; from = 0; to = 1; start = 1; stop = 3; class = Some 5 } ∷ record { kind = clauses.Catch; from = 0; to = 1; start = 1; stop = 3; class = Some 4 } ∷ [])) 1 ≡ Some (kinds.Ref 3 ∷ [])
unfolding table_after program_of method_of laid_from
shared_block = refl

-- the block of a filter, and that of a class that nothing is of, has no stack, so that wrong code there is no fault
filter_untyped : fault_after 1 (codes.Leave 2 ∷ codes.Arithmetic arithmetic.Add ∷ codes.Return ∷ []) (record { kind = clauses.Filter; from = 0; to = 1; start = 1; stop = 2; class = None } ∷ []) ≡ None
unfolding fault_after fault_in table_after program_of method_of laid_from
filter_untyped = refl

no_class_untyped : fault_after 1 (codes.Leave 2 ∷ codes.Arithmetic arithmetic.Add ∷ codes.Return ∷ []) (record { kind = clauses.Catch; from = 0; to = 1; start = 1; stop = 2; class = None } ∷ []) ≡ None
unfolding fault_after fault_in table_after program_of method_of laid_from
no_class_untyped = refl

-- the first offset is a catch block too: what is caught doesn't merge with the empty stack
first_offset_caught : fault_after 1 (codes.Return ∷ codes.Return ∷ []) (record { kind = clauses.Catch; from = 1; to = 2; start = 0; stop = 1; class = Some 1 } ∷ []) ≡ Some (0, faults.BadRet)
unfolding fault_after fault_in table_after program_of method_of laid_from
first_offset_caught = refl
