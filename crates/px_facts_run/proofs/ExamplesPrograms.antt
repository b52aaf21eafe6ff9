-- The types of the library, and the program of one method.
use Rattle.std.proofs.Common.{◌≡◌, List, [], ◌∷◌, true, ℕ, Option, Some, None, codes, length, slice_get, refl}
use Rattle.px_program.specs.declared.instr.Code.TheVariants as codes_of
use Rattle.px_program.specs.declared.instr.Move.TheVariants.{Constant32, Pop}
use Rattle.px_program.specs.declared.program.Method.{Method}
use Rattle.px_program.specs.declared.program.Place.{Place}
use Rattle.px_program.specs.declared.program.Place.TheVariants.{I4, I8, Char, Ref}
use Rattle.px_program.specs.declared.program.Program.{Program}
use Rattle.px_program.specs.declared.program.TypeInfo.{TypeInfo}
use Rattle.px_program.specs.Alone.{alone}
use Rattle.px_program.specs.Arguments.{arguments_of}
use Rattle.px_program.specs.Formed.{all_params}
use Rattle.px_program.specs.Library.{library_types}
use Rattle.px_facts_run.proofs.Methods.{instance_of, laid_from, ldc, method_of, ret}

-- THE LIBRARY

-- a type with its whole name and the number of its base, and nothing else
abbrev named : List ℕ → Option ℕ → Option TypeInfo
named name base = Some (record { name = name; base = base; element = None; fields = []; statics = []; overrides = [] })

-- The library has eighteen types, each with its namespace and a dot before its name.
eighteen_types : length library_types ≡ 18
eighteen_types = refl

-- A body that leaves out the dot has "SystemObject" here.
type_0 : slice_get library_types 0 ≡ named (codes "System.Object") None
type_0 = refl

type_1 : slice_get library_types 1 ≡ named (codes "System.Exception") (Some 0)
type_1 = refl

type_2 : slice_get library_types 2 ≡ named (codes "System.SystemException") (Some 1)
type_2 = refl

type_3 : slice_get library_types 3 ≡ named (codes "System.ArithmeticException") (Some 2)
type_3 = refl

type_4 : slice_get library_types 4 ≡ named (codes "System.DivideByZeroException") (Some 3)
type_4 = refl

type_5 : slice_get library_types 5 ≡ named (codes "System.OverflowException") (Some 3)
type_5 = refl

type_6 : slice_get library_types 6 ≡ named (codes "System.NullReferenceException") (Some 2)
type_6 = refl

type_7 : slice_get library_types 7 ≡ named (codes "System.IndexOutOfRangeException") (Some 2)
type_7 = refl

type_8 : slice_get library_types 8 ≡ named (codes "System.InvalidCastException") (Some 2)
type_8 = refl

type_9 : slice_get library_types 9 ≡ named (codes "System.ArrayTypeMismatchException") (Some 2)
type_9 = refl

type_10 : slice_get library_types 10 ≡ named (codes "System.ArgumentException") (Some 2)
type_10 = refl

type_11 : slice_get library_types 11 ≡ named (codes "System.ArgumentNullException") (Some 10)
type_11 = refl

-- A body that gives it the base of its base has number 2 here.
type_12 : slice_get library_types 12 ≡ named (codes "System.ArgumentOutOfRangeException") (Some 10)
type_12 = refl

type_13 : slice_get library_types 13 ≡ named (codes "System.InvalidOperationException") (Some 2)
type_13 = refl

type_14 : slice_get library_types 14 ≡ named (codes "System.NotSupportedException") (Some 2)
type_14 = refl

type_15 : slice_get library_types 15 ≡ named (codes "System.NotImplementedException") (Some 2)
type_15 = refl

type_16 : slice_get library_types 16 ≡ named (codes "System.FormatException") (Some 2)
type_16 = refl

type_17 : slice_get library_types 17 ≡ named (codes "System.String") (Some 0)
type_17 = refl

-- A METHOD ALONE

-- makes an array of two characters and drops it: `ldc.i4.2`, `newarr`, `pop` and `ret`
abbrev maker_of_chars : Method
maker_of_chars = record {
  name = [];
  owner = 0;
  is_static = true;
  params = [];
  ret = None;
  locals = [];
  max_stack = 1;
  code = record { offset = 0; next = 1; code = codes_of.Move (Constant32 2) }
      ∷ record { offset = 1; next = 6; code = codes_of.NewArray 19 }
      ∷ record { offset = 6; next = 7; code = codes_of.Move Pop }
      ∷ record { offset = 7; next = 8; code = codes_of.Return }
      ∷ [];
  clauses = [];
}

-- its program, with arrays of `int32` and of characters
abbrev with_arrays : Program
with_arrays = alone (I4 ∷ Char ∷ []) maker_of_chars

-- an array of a place
abbrev array_of : Place → Option TypeInfo
array_of element = Some (record { name = []; base = Some 0; element = Some element; fields = []; statics = []; overrides = [] })

-- The arrays come after the library's types, in order.
types_of_program : length with_arrays.types ≡ 20
types_of_program = refl

-- A body that drops the last type of the library has an array here.
string_before_arrays : slice_get with_arrays.types 17 ≡ named (codes "System.String") (Some 0)
string_before_arrays = refl

-- A body that gives each array bytes for elements has `uint8` here, and in the next.
first_array : slice_get with_arrays.types 18 ≡ array_of I4
first_array = refl

second_array : slice_get with_arrays.types 19 ≡ array_of Char
second_array = refl

-- The method is the only one, and the entry.
methods_of_program : with_arrays.methods ≡ maker_of_chars ∷ []
methods_of_program = refl

entry_of_program : with_arrays.entry ≡ 0
entry_of_program = refl

no_maker : with_arrays.maker ≡ None
no_maker = refl

-- PARAMETERS

-- a static method of these parameters, and an instance method of `String`
abbrev static_method : Method
static_method = method_of (I4 ∷ I8 ∷ []) (laid_from 0 ((1, ldc 0) ∷ (1, ret) ∷ []))

abbrev instance_method : Method
instance_method = instance_of 17 (I4 ∷ I8 ∷ []) (laid_from 0 ((1, ldc 0) ∷ (1, ret) ∷ []))

params_of_static : all_params static_method ≡ I4 ∷ I8 ∷ []
params_of_static = refl

-- The receiver comes first, as a reference to the method's type.
params_of_instance : all_params instance_method ≡ Ref 17 ∷ I4 ∷ I8 ∷ []
params_of_instance = refl

-- A body that counts from the receiver on in a static method too has no parameter here.
first_of_static : slice_get (all_params static_method) 0 ≡ Some I4
first_of_static = refl

-- A body that leaves out the receiver has `int32` here, and nothing for the last.
first_of_instance : slice_get (all_params instance_method) 0 ≡ Some (Ref 17)
first_of_instance = refl

last_of_instance : slice_get (all_params instance_method) 2 ≡ Some I8
last_of_instance = refl

past_the_last : slice_get (all_params instance_method) 3 ≡ None
past_the_last = refl

-- A run is given no receiver.
arguments_of_static : arguments_of (alone [] static_method) ≡ I4 ∷ I8 ∷ []
arguments_of_static = refl

-- A body that gives all parameters has a reference first.
arguments_of_instance : arguments_of (alone [] instance_method) ≡ I4 ∷ I8 ∷ []
arguments_of_instance = refl

arguments_of_none : arguments_of with_arrays ≡ []
arguments_of_none = refl
