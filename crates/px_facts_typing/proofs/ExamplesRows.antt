-- What instructions make of a stack, whose top stands first.
use Rattle.std.proofs.Common.{◌≡◌, ℕ, List, [], ◌∷◌, Some, None, true, false, Ok, Err, refl}
use Rattle.px_program.specs.Alone.{alone}
use Rattle.px_program.specs.declared.instr.Arithmetic.TheVariants as arithmetic
use Rattle.px_program.specs.declared.instr.Callee.TheVariants as callees
use Rattle.px_program.specs.declared.instr.Code.{Code}
use Rattle.px_program.specs.declared.instr.Code.TheVariants as codes
use Rattle.px_program.specs.declared.instr.ElementForm.TheVariants as forms
use Rattle.px_program.specs.declared.instr.IntegerType.TheVariants as integers
use Rattle.px_program.specs.declared.instr.Move.TheVariants as moves
use Rattle.px_program.specs.declared.instr.Shift.TheVariants as shifts
use Rattle.px_program.specs.declared.instr.Test.TheVariants as tests
use Rattle.px_program.specs.declared.program.ClauseKind.TheVariants as clauses
use Rattle.px_program.specs.declared.program.Method.{Method}
use Rattle.px_program.specs.declared.program.Place.TheVariants as places
use Rattle.px_program.specs.declared.program.Program.{Program}
use Rattle.px_verify_kinds.specs.declared.kind.Kind.{Kind}
use Rattle.px_verify_kinds.specs.declared.kind.Kind.TheVariants as kinds
use Rattle.px_verify_flow.specs.Flow.{flow}
use Rattle.px_verify_flow.specs.Outcome.{Outcome}
use Rattle.px_verify_flow.specs.Rows.{effect}
use Rattle.px_verify_flow.specs.declared.fault.VerifyKind.TheVariants as faults

-- a static method of an int32 and a reference to an Exception, with an int64 local, that returns an int32; at most two values are on its stack; it has
-- offsets 0 to 9; a finally block from 4 to 6 handles 1 to 4, and a catch block from 6 to 9 handles 0 to 6
method : Method
method = record {
  name = [];
  owner = 0;
  is_static = true;
  params = places.I4 ∷ places.Ref 1 ∷ [];
  ret = Some places.I4;
  locals = places.I8 ∷ [];
  max_stack = 2;
  code = record { offset = 0; next = 9; code = codes.Return } ∷ [];
  clauses =
      record { kind = clauses.Finally; from = 1; to = 4; start = 4; stop = 6; class = None }
      ∷ record { kind = clauses.Catch; from = 0; to = 6; start = 6; stop = 9; class = Some 1 }
      ∷ [];
}

-- 18 and 19 are arrays of int16 and of DivideByZeroException
program : Program
program = alone (places.I2 ∷ places.Ref 4 ∷ []) method

-- the effect of an instruction
of : Code → List Kind → Outcome
of code stack = effect program method code stack

-- what an instruction from one offset to the next gives
at : ℕ → ℕ → Code → List Kind → Outcome
at offset next code stack = flow program method (record { offset = offset; next = next; code = code }) stack

-- NUMBERS

adds : of (codes.Arithmetic arithmetic.Add) (kinds.I ∷ kinds.N ∷ []) ≡ Ok (kinds.N ∷ [])
unfolding of program method
adds = refl

adds_one_kind : of (codes.Arithmetic arithmetic.Add) (kinds.I ∷ kinds.L ∷ []) ≡ Err faults.Mismatch
unfolding of program method
adds_one_kind = refl

adds_two : of (codes.Arithmetic arithmetic.Add) (kinds.Null ∷ []) ≡ Err faults.Underflow
unfolding of program method
adds_two = refl

shifts_by_a_count : of (codes.Shift shifts.Left) (kinds.I ∷ kinds.L ∷ []) ≡ Ok (kinds.L ∷ [])
unfolding of program method
shifts_by_a_count = refl

shifts_by_no_int64 : of (codes.Shift shifts.Left) (kinds.L ∷ kinds.L ∷ []) ≡ Err faults.Mismatch
unfolding of program method
shifts_by_no_int64 = refl

converts : of (codes.Convert integers.U8) (kinds.I ∷ []) ≡ Ok (kinds.L ∷ [])
unfolding of program method
converts = refl

-- COMPARISONS

equal_references : of (codes.Compare tests.Eq true) (kinds.Null ∷ kinds.Ref 1 ∷ []) ≡ Ok (kinds.I ∷ [])
unfolding of program method
equal_references = refl

references_above_unsigned : of (codes.Compare tests.Gt false) (kinds.Null ∷ kinds.Ref 1 ∷ []) ≡ Ok (kinds.I ∷ [])
unfolding of program method
references_above_unsigned = refl

references_not_above_signed : of (codes.Compare tests.Gt true) (kinds.Null ∷ kinds.Ref 1 ∷ []) ≡ Err faults.Mismatch
unfolding of program method
references_not_above_signed = refl

branch_not_below : of (codes.BranchCompare tests.Lt true 0) (kinds.Null ∷ kinds.Null ∷ []) ≡ Err faults.Mismatch
unfolding of program method
branch_not_below = refl

-- MOVES

no_such_argument : of (codes.Move (moves.Argument 2)) [] ≡ Err faults.Mismatch
unfolding of program method
no_such_argument = refl

stores_what_fits : of (codes.Move (moves.SetArgument 1)) (kinds.Ref 5 ∷ []) ≡ Ok []
unfolding of program method
stores_what_fits = refl

stores_no_base : of (codes.Move (moves.SetArgument 1)) (kinds.Ref 0 ∷ []) ≡ Err faults.Mismatch
unfolding of program method
stores_no_base = refl

takes_before_it_looks : of (codes.Move (moves.SetLocal 9)) [] ≡ Err faults.Underflow
unfolding of program method
takes_before_it_looks = refl

-- ARRAYS

loads_by_another_sign : of (codes.Element false (forms.Integer integers.U2)) (kinds.I ∷ kinds.Ref 18 ∷ []) ≡ Ok (kinds.I ∷ [])
unfolding of program method
loads_by_another_sign = refl

stores_by_no_other_width : of (codes.Element true (forms.Integer integers.I4)) (kinds.I ∷ kinds.I ∷ kinds.Ref 18 ∷ []) ≡ Err faults.Mismatch
unfolding of program method
stores_by_no_other_width = refl

stores_by_its_width : of (codes.Element true (forms.Integer integers.I2)) (kinds.I ∷ kinds.I ∷ kinds.Ref 18 ∷ []) ≡ Ok []
unfolding of program method
stores_by_its_width = refl

loads_of_null : of (codes.Element false forms.Reference) (kinds.I ∷ kinds.Null ∷ []) ≡ Ok (kinds.Null ∷ [])
unfolding of program method
loads_of_null = refl

loads_its_own_type : of (codes.Element false forms.Reference) (kinds.N ∷ kinds.Ref 19 ∷ []) ≡ Ok (kinds.Ref 4 ∷ [])
unfolding of program method
loads_its_own_type = refl

stores_what_fits_the_element : of (codes.Element true forms.Reference) (kinds.Ref 3 ∷ kinds.I ∷ kinds.Ref 19 ∷ []) ≡ Err faults.Mismatch
unfolding of program method
stores_what_fits_the_element = refl

length_of_null : of codes.Length (kinds.Null ∷ []) ≡ Ok (kinds.N ∷ [])
unfolding of program method
length_of_null = refl

length_of_no_array : of codes.Length (kinds.Ref 1 ∷ []) ≡ Err faults.Mismatch
unfolding of program method
length_of_no_array = refl

-- CALLS

calls : of (codes.Call (callees.Method 0)) (kinds.Null ∷ kinds.I ∷ kinds.L ∷ []) ≡ Ok (kinds.I ∷ kinds.L ∷ [])
unfolding of program method
calls = refl

calls_with_all : of (codes.Call (callees.Method 0)) (kinds.L ∷ []) ≡ Err faults.Underflow
unfolding of program method
calls_with_all = refl

calls_with_what_fits : of (codes.Call (callees.Method 0)) (kinds.I ∷ kinds.Null ∷ []) ≡ Err faults.Mismatch
unfolding of program method
calls_with_what_fits = refl

makes : of (codes.NewObject (callees.Constructor 10 (places.Ref 17 ∷ []))) (kinds.Null ∷ []) ≡ Ok (kinds.Ref 10 ∷ [])
unfolding of program method
makes = refl

throws_no_text : of (codes.Throw false) (kinds.Ref 17 ∷ []) ≡ Err faults.Mismatch
unfolding of program method
throws_no_text = refl

-- RETURNS

returns_its_kind_alone : at 9 10 codes.Return (kinds.I ∷ []) ≡ Ok (kinds.I ∷ [])
unfolding at program method
returns_its_kind_alone = refl

returns_no_more : at 9 10 codes.Return (kinds.I ∷ kinds.I ∷ []) ≡ Err faults.BadRet
unfolding at program method
returns_no_more = refl

returns_no_less : at 9 10 codes.Return [] ≡ Err faults.BadRet
unfolding at program method
returns_no_less = refl

returns_in_no_range : at 2 3 codes.Return (kinds.I ∷ []) ≡ Err faults.BadRet
unfolding at program method
returns_in_no_range = refl

-- LEAVING

falls_out_of_a_range : at 3 4 (codes.Nop false) [] ≡ Err faults.BadLeave
unfolding at program method
falls_out_of_a_range = refl

leaves_a_range : at 3 4 (codes.Leave 9) (kinds.I ∷ []) ≡ Ok []
unfolding at program method
leaves_a_range = refl

leaves_no_finally : at 4 5 (codes.Leave 9) [] ≡ Err faults.BadLeave
unfolding at program method
leaves_no_finally = refl

leaves_a_catch : at 6 7 (codes.Leave 0) [] ≡ Ok []
unfolding at program method
leaves_a_catch = refl

leaves_into_no_catch : at 0 1 (codes.Leave 7) [] ≡ Err faults.BadLeave
unfolding at program method
leaves_into_no_catch = refl

ends_its_finally : at 5 6 codes.EndFinally (kinds.I ∷ []) ≡ Ok []
unfolding at program method
ends_its_finally = refl

ends_no_catch : at 7 8 codes.EndFinally [] ≡ Err faults.BadLeave
unfolding at program method
ends_no_catch = refl

throws_again_in_a_catch : at 7 8 (codes.Throw true) [] ≡ Ok []
unfolding at program method
throws_again_in_a_catch = refl

throws_again_in_no_finally : at 5 6 (codes.Throw true) [] ≡ Err faults.BadLeave
unfolding at program method
throws_again_in_no_finally = refl

-- DEPTHS AND ENDS

deep_behind : at 9 10 (codes.Move moves.Null) (kinds.I ∷ kinds.I ∷ []) ≡ Err faults.Depth
unfolding at program method
deep_behind = refl

deep_before : at 9 10 (codes.Move moves.Pop) (kinds.I ∷ kinds.I ∷ kinds.I ∷ []) ≡ Err faults.Depth
unfolding at program method
deep_before = refl

falls_off_the_end : at 9 10 (codes.Nop false) [] ≡ Err faults.FallsOff
unfolding at program method
falls_off_the_end = refl

-- one that isn't run has no fault
outside : at 9 10 (codes.Outside [] 0) (kinds.I ∷ kinds.I ∷ kinds.I ∷ []) ≡ Ok (kinds.I ∷ kinds.I ∷ kinds.I ∷ [])
unfolding at program method
outside = refl
