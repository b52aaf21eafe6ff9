-- The kinds of instructions that aren't run yet: the check refuses each where it accepts a fine one of the same size.
use Rattle.std.proofs.Common.{◌≡◌, List, [], ◌∷◌, ◌++◌, false, true, Some, None, refl}
use Rattle.px_program.specs.declared.instr.Arithmetic.TheVariants.{Mul, And, Or, Xor}
use Rattle.px_program.specs.declared.instr.Callee.{Callee}
use Rattle.px_program.specs.declared.instr.Callee.TheVariants.{Constructor}
use Rattle.px_program.specs.declared.instr.Check.TheVariants.{Assume, Assert}
use Rattle.px_program.specs.declared.instr.Checked.TheVariants as checked
use Rattle.px_program.specs.declared.instr.Code.{Code}
use Rattle.px_program.specs.declared.instr.Code.TheVariants.{Nop, Move, Arithmetic, Divide, DivideUnsigned, Checked, Shift, Unary, Convert, ConvertChecked, Compare, Switch, NewArray, Length, Element, Field, Static, Call, CallVirtual, NewObject, Cast, Throw, Leave, EndFinally, Check, Outside}
use Rattle.px_program.specs.declared.instr.Division.TheVariants.{Quotient, Remainder}
use Rattle.px_program.specs.declared.instr.ElementForm.TheVariants.{Integer, Reference, Typed}
use Rattle.px_program.specs.declared.instr.IntegerType.TheVariants as integers
use Rattle.px_program.specs.declared.instr.Move.TheVariants.{SetArgument, Local, SetLocal, Null, Text, Duplicate, Pop}
use Rattle.px_program.specs.declared.instr.Shift.TheVariants.{Left}
use Rattle.px_program.specs.declared.instr.Test.TheVariants.{Eq}
use Rattle.px_program.specs.declared.instr.Unary.TheVariants.{Negate}
use Rattle.px_program.specs.declared.program.Method.{Method}
use Rattle.px_program.specs.declared.program.Place.TheVariants.{I4, I8}
use Rattle.px_program.specs.declared.program.Program.{Program}
use Rattle.px_program.specs.declared.program.TypeInfo.{TypeInfo}
use Rattle.px_program.specs.Alone.{alone, no_layout}
use Rattle.px_program.specs.Library.{library_types}
use Rattle.px_simple.specs.Simple.{fault_of, is_fine}
use Rattle.px_facts_run.proofs.Methods.{Sized, add, instance_of, laid_from, ldarg, ldc, method_of, nop, ret}

-- the method of these rows, with the parameters `int32`, `int32` and `int64`
abbrev method_from : List Sized → Method
method_from rows = method_of (I4 ∷ I4 ∷ I8 ∷ []) (laid_from 0 rows)

-- its program, beside arrays of `int32`
abbrev program_of : List Sized → Program
program_of rows = alone (I4 ∷ []) (method_from rows)

-- MOVES

-- `nop`, the instruction, and `ret`
abbrev returned : Code → Program
returned code = program_of ((1, nop) ∷ (2, code) ∷ (1, ret) ∷ [])

a_constant_returned : fault_of (returned (ldc 1)) ≡ None
unfolding is_fine
a_constant_returned = refl

starg : fault_of (returned (Move (SetArgument 0))) ≡ Some 1
unfolding is_fine
starg = refl

ldloc : fault_of (returned (Move (Local 0))) ≡ Some 1
unfolding is_fine
ldloc = refl

stloc : fault_of (returned (Move (SetLocal 0))) ≡ Some 1
unfolding is_fine
stloc = refl

ldnull : fault_of (returned (Move Null)) ≡ Some 1
unfolding is_fine
ldnull = refl

ldstr : fault_of (returned (Move (Text (0x48 ∷ 0x69 ∷ [])))) ≡ Some 1
unfolding is_fine
ldstr = refl

dup : fault_of (returned (Move Duplicate)) ≡ Some 1
unfolding is_fine
dup = refl

pop : fault_of (returned (Move Pop)) ≡ Some 1
unfolding is_fine
pop = refl

-- ARITHMETIC

-- the instruction on two arguments
abbrev on_arguments : Code → Program
on_arguments code = program_of ((1, ldarg 0) ∷ (1, ldarg 1) ∷ (2, code) ∷ (1, ret) ∷ [])

a_sum_of_arguments : fault_of (on_arguments add) ≡ None
unfolding is_fine
a_sum_of_arguments = refl

mul : fault_of (on_arguments (Arithmetic Mul)) ≡ Some 2
unfolding is_fine
mul = refl

bits_in_both : fault_of (on_arguments (Arithmetic And)) ≡ Some 2
unfolding is_fine
bits_in_both = refl

bits_in_either : fault_of (on_arguments (Arithmetic Or)) ≡ Some 2
unfolding is_fine
bits_in_either = refl

bits_in_one : fault_of (on_arguments (Arithmetic Xor)) ≡ Some 2
unfolding is_fine
bits_in_one = refl

-- OTHER OPERATIONS ON NUMBERS

-- `nop`, the instruction, and a constant that is returned
abbrev passed : Code → Program
passed code = program_of ((1, nop) ∷ (2, code) ∷ (1, ldc 1) ∷ (1, ret) ∷ [])

a_nop_passed : fault_of (passed nop) ≡ None
unfolding is_fine
a_nop_passed = refl

div : fault_of (passed (Divide Quotient)) ≡ Some 1
unfolding is_fine
div = refl

rem_unsigned : fault_of (passed (DivideUnsigned Remainder)) ≡ Some 1
unfolding is_fine
rem_unsigned = refl

add_checked : fault_of (passed (Checked checked.Add true)) ≡ Some 1
unfolding is_fine
add_checked = refl

shl : fault_of (passed (Shift Left)) ≡ Some 1
unfolding is_fine
shl = refl

neg : fault_of (passed (Unary Negate)) ≡ Some 1
unfolding is_fine
neg = refl

conv_int8 : fault_of (passed (Convert integers.I1)) ≡ Some 1
unfolding is_fine
conv_int8 = refl

conv_uint64_checked : fault_of (passed (ConvertChecked integers.U8 true)) ≡ Some 1
unfolding is_fine
conv_uint64_checked = refl

ceq : fault_of (passed (Compare Eq true)) ≡ Some 1
unfolding is_fine
ceq = refl

-- WHAT STOPS, CHOOSES, THROWS, LEAVES OR CHECKS

-- A body that takes it for a `nop` accepts it.
break : fault_of (passed (Nop true)) ≡ Some 1
unfolding is_fine
break = refl

switch : fault_of (passed (Switch (0 ∷ 3 ∷ []))) ≡ Some 1
unfolding is_fine
switch = refl

throw : fault_of (passed (Throw false)) ≡ Some 1
unfolding is_fine
throw = refl

rethrow : fault_of (passed (Throw true)) ≡ Some 1
unfolding is_fine
rethrow = refl

leave : fault_of (passed (Leave 3)) ≡ Some 1
unfolding is_fine
leave = refl

endfinally : fault_of (passed EndFinally) ≡ Some 1
unfolding is_fine
endfinally = refl

assume_is_true : fault_of (passed (Check Assume)) ≡ Some 1
unfolding is_fine
assume_is_true = refl

assert_is_true : fault_of (passed (Check Assert)) ≡ Some 1
unfolding is_fine
assert_is_true = refl

-- A body that accepts what isn't run accepts it.
what_is_not_run : fault_of (passed (Outside [] 0xfe00)) ≡ Some 1
unfolding is_fine
what_is_not_run = refl

-- OBJECTS

-- the constructor of `Exception` that takes nothing
abbrev constructor : Callee
constructor = Constructor 1 []

newarr : fault_of (passed (NewArray 18)) ≡ Some 1
unfolding is_fine
newarr = refl

ldlen : fault_of (passed Length) ≡ Some 1
unfolding is_fine
ldlen = refl

ldelem_int32 : fault_of (passed (Element false (Integer integers.I4))) ≡ Some 1
unfolding is_fine
ldelem_int32 = refl

ldelem : fault_of (passed (Element false (Typed I4))) ≡ Some 1
unfolding is_fine
ldelem = refl

stelem_ref : fault_of (passed (Element true Reference)) ≡ Some 1
unfolding is_fine
stelem_ref = refl

call : fault_of (passed (Call constructor)) ≡ Some 1
unfolding is_fine
call = refl

newobj : fault_of (passed (NewObject constructor)) ≡ Some 1
unfolding is_fine
newobj = refl

-- Casts to `String`.
castclass : fault_of (passed (Cast true 17)) ≡ Some 1
unfolding is_fine
castclass = refl

isinst : fault_of (passed (Cast false 17)) ≡ Some 1
unfolding is_fine
isinst = refl

-- MEMBERS

-- a class with a field and a static field, which has number 18
abbrev box : TypeInfo
box = record { name = []; base = Some 0; element = None; fields = I4 ∷ []; statics = I4 ∷ []; overrides = [] }

-- an instance method of the class
abbrev getter : Method
getter = instance_of 18 [] (laid_from 0 ((1, ldc 1) ∷ (1, ret) ∷ []))

-- the program of a method that passes the instruction, beside the class and its method
abbrev beside_box : Code → Program
beside_box code = record {
  types = library_types ++ box ∷ [];
  methods = method_from ((1, nop) ∷ (2, code) ∷ (1, ldc 1) ∷ (1, ret) ∷ []) ∷ getter ∷ [];
  entry = 0;
  maker = None;
  layout = no_layout;
}

stfld : fault_of (beside_box (Field true (record { owner = 18; index = 0 }))) ≡ Some 1
unfolding is_fine
stfld = refl

stsfld : fault_of (beside_box (Static true (record { owner = 18; index = 0 }))) ≡ Some 1
unfolding is_fine
stsfld = refl

callvirt : fault_of (beside_box (CallVirtual 1)) ≡ Some 1
unfolding is_fine
callvirt = refl
