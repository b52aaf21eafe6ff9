-- Runs of whole methods with arrays, objects and exceptions, by the table of instructions over plain words.
use Rattle.std.proofs.Common.{◌≡◌, List, [], ◌∷◌, ◌++◌, ℕ, true, false, Option, Some, None, map, refl}
use Rattle.px_words.specs.Word.{word}
use Rattle.px_cells.specs.Plain.{plain, plain_algebra}
use Rattle.px_cells.specs.declared.plain.NoPool.{NoPool}
use Rattle.px_cells.specs.declared.plain.Plain.{Plain}
use Rattle.px_program.specs.Alone.{array_of, no_layout}
use Rattle.px_program.specs.Library.{library_types}
use Rattle.px_program.specs.declared.instr.Arithmetic.TheVariants.{Add}
use Rattle.px_program.specs.declared.instr.Callee.TheVariants as callees
use Rattle.px_program.specs.declared.instr.Code.{Code}
use Rattle.px_program.specs.declared.instr.Code.TheVariants.{Arithmetic, Call, CallVirtual, Cast, Compare, Divide, Element, EndFinally, Field, Leave, Length, Move, NewArray, NewObject, Return, Static, Throw}
use Rattle.px_program.specs.declared.instr.Division.TheVariants.{Quotient}
use Rattle.px_program.specs.declared.instr.ElementForm.TheVariants.{Integer, Reference}
use Rattle.px_program.specs.declared.instr.Field.{Field as FieldAt}
use Rattle.px_program.specs.declared.instr.IntegerType.TheVariants as integers
use Rattle.px_program.specs.declared.instr.Move.TheVariants as moves
use Rattle.px_program.specs.declared.instr.Test.TheVariants.{Eq}
use Rattle.px_program.specs.declared.program.Clause.{Clause}
use Rattle.px_program.specs.declared.program.ClauseKind.{ClauseKind}
use Rattle.px_program.specs.declared.program.ClauseKind.TheVariants.{Catch, Fault, Filter, Finally}
use Rattle.px_program.specs.declared.program.Method.{Method}
use Rattle.px_program.specs.declared.program.Place.{Place}
use Rattle.px_program.specs.declared.program.Place.TheVariants as places
use Rattle.px_program.specs.declared.program.Program.{Program}
use Rattle.px_program.specs.declared.program.TypeInfo.{TypeInfo}
use Rattle.px_program.specs.declared.record.Bounds.{Bounds}
use Rattle.px_program.specs.declared.record.End.{End}
use Rattle.px_program.specs.declared.record.End.TheVariants as ends
use Rattle.px_program.specs.declared.record.Value.TheVariants as values
use Rattle.px_machine.specs.Run.{run, run_of}
use Rattle.px_machine.specs.State.{Outcome}
use Rattle.px_facts_run.proofs.Methods.{Sized, laid_from}

-- PROGRAMS

abbrev pool : NoPool
pool = record {}

abbrev bounds : Bounds
bounds = record { steps = 200; depth = 128; length = 16 }

abbrev class : Option ℕ → List Place → List Place → List (ℕ × ℕ) → TypeInfo
class base fields statics overrides = record { name = []; base = base; element = None; fields = fields; statics = statics; overrides = overrides }

-- Behind the library's: arrays of int32 (18), of objects of the first class (19) and of the second (20); a class with an int32 and two static fields (21), and one
-- that derives from it with an int64, in which the method 2 takes the place of the method 1 (22).
abbrev types : List TypeInfo
types = library_types
    ++ array_of places.I4 ∷ array_of (places.Ref 21) ∷ array_of (places.Ref 22)
    ∷ class (Some 0) (places.I4 ∷ []) (places.I8 ∷ places.Ref 0 ∷ []) []
    ∷ class (Some 21) (places.I8 ∷ []) [] ((1, 2) ∷ [])
    ∷ []

-- instructions of one byte each
abbrev each : Code → Sized
each code = (1, code)

abbrev method_with : ℕ → Option Place → List Place → List Code → List Clause → Method
method_with owner ret locals code clauses = record { name = []; owner = owner; is_static = true; params = []; ret = ret; locals = locals; max_stack = 8; code = laid_from 0 (map each code); clauses = clauses }

abbrev instance : Method → Method
instance method = record method { is_static = false }

abbrev program_of : List Method → Program
program_of methods = record { types = types; methods = methods; entry = 0; maker = None; layout = no_layout }

abbrev ended : Outcome NoPool Plain → Option End
ended outcome = outcome.end

-- how the first method ends
abbrev runs : List Method → Option End
runs methods = ended (run_of plain_algebra (program_of methods) bounds 0 [] pool)

abbrev sides : List Method → List ℕ
sides methods = map (λ choice. choice.event.side) (run_of plain_algebra (program_of methods) bounds 0 [] pool).choices

abbrev returned : ℕ → Option End
returned n = Some (ends.Returned (values.Number n))

abbrev threw : ℕ → Option End
threw class = Some (ends.Threw class)

-- a method that returns an int32, with two locals: an array of int32 and an int32
abbrev arrays : List Code → Method
arrays code = method_with 0 (Some places.I4) (places.Ref 18 ∷ places.I4 ∷ []) code []

abbrev ldc : ℕ → Code
ldc n = Move (moves.Constant32 n)

abbrev ldloc : ℕ → Code
ldloc n = Move (moves.Local n)

abbrev stloc : ℕ → Code
stloc n = Move (moves.SetLocal n)

abbrev ldelem : Code
ldelem = Element false (Integer integers.I4)

abbrev stelem : Code
stelem = Element true (Integer integers.I4)

abbrev newobj : ℕ → Code
newobj n = NewObject (callees.Method n)

-- ARRAYS

abbrev third : Method
third = arrays (ldc 3 ∷ NewArray 18 ∷ stloc 0 ∷ ldloc 0 ∷ ldc 2 ∷ ldc 7 ∷ stelem ∷ ldloc 0 ∷ ldc 2 ∷ ldelem ∷ Return ∷ [])

element_kept : runs (third ∷ []) ≡ returned 7
unfolding run word
element_kept = refl

-- The length, and a check of each index.
element_sides : sides (third ∷ []) ≡ 3 ∷ 0 ∷ 0 ∷ []
unfolding run word
element_sides = refl

others_are_0 : runs (arrays (ldc 3 ∷ NewArray 18 ∷ stloc 0 ∷ ldloc 0 ∷ ldc 2 ∷ ldc 7 ∷ stelem ∷ ldloc 0 ∷ ldc 1 ∷ ldelem ∷ Return ∷ []) ∷ []) ≡ returned 0
unfolding run word
others_are_0 = refl

past_the_last : runs (arrays (ldc 3 ∷ NewArray 18 ∷ ldc 3 ∷ ldelem ∷ Return ∷ []) ∷ []) ≡ threw 7
unfolding run word
past_the_last = refl

before_the_first : runs (arrays (ldc 3 ∷ NewArray 18 ∷ ldc 0xffff_ffff ∷ ldelem ∷ Return ∷ []) ∷ []) ≡ threw 7
unfolding run word
before_the_first = refl

negative_length : runs (arrays (ldc 0xffff_ffff ∷ NewArray 18 ∷ Return ∷ []) ∷ []) ≡ threw 5
unfolding run word
negative_length = refl

longest : runs (arrays (ldc 16 ∷ NewArray 18 ∷ Length ∷ Move moves.Pop ∷ ldc 1 ∷ Return ∷ []) ∷ []) ≡ returned 1
unfolding run word
longest = refl

too_long : runs (arrays (ldc 17 ∷ NewArray 18 ∷ Return ∷ []) ∷ []) ≡ Some ends.HeapBound
unfolding run word
too_long = refl

no_array : runs (arrays (ldloc 0 ∷ Length ∷ Move moves.Pop ∷ ldc 1 ∷ Return ∷ []) ∷ []) ≡ threw 6
unfolding run word
no_array = refl

-- OBJECTS

-- a constructor that does nothing
abbrev constructor : ℕ → Method
constructor owner = instance (method_with owner None [] (Return ∷ []) [])

abbrev objects : List Code → Method
objects code = method_with 0 (Some places.I4) (places.Ref 21 ∷ []) code []

abbrev number : FieldAt
number = record { owner = 21; index = 0 }

field_kept : runs (objects (newobj 1 ∷ stloc 0 ∷ ldloc 0 ∷ ldc 5 ∷ Field true number ∷ ldloc 0 ∷ Field false number ∷ Return ∷ []) ∷ constructor 21 ∷ []) ≡ returned 5
unfolding run word
field_kept = refl

-- The fields of a base come first: the other field is another slot.
abbrev wide : FieldAt
wide = record { owner = 22; index = 0 }

fields_apart : runs (objects (newobj 1 ∷ Move moves.Duplicate ∷ stloc 0 ∷ Move (moves.Constant64 9) ∷ Field true wide ∷ ldloc 0 ∷ Field false number ∷ Return ∷ []) ∷ constructor 22 ∷ []) ≡ returned 0
unfolding run word
fields_apart = refl

field_of_null : runs (objects (ldloc 0 ∷ Field false number ∷ Return ∷ []) ∷ []) ≡ threw 6
unfolding run word
field_of_null = refl

abbrev shared : FieldAt
shared = record { owner = 21; index = 1 }

-- A static field of references starts as null, and keeps what is stored.
static_starts_null : runs (objects (Static false shared ∷ Move moves.Null ∷ Compare Eq true ∷ Return ∷ []) ∷ []) ≡ returned 1
unfolding run word
static_starts_null = refl

static_kept : runs (objects (newobj 1 ∷ Static true shared ∷ Static false shared ∷ Move moves.Null ∷ Compare Eq true ∷ Return ∷ []) ∷ constructor 21 ∷ []) ≡ returned 0
unfolding run word
static_kept = refl

derived_passes : runs (objects (newobj 1 ∷ Cast true 21 ∷ Move moves.Pop ∷ ldc 1 ∷ Return ∷ []) ∷ constructor 22 ∷ []) ≡ returned 1
unfolding run word
derived_passes = refl

base_fails : runs (objects (newobj 1 ∷ Cast true 22 ∷ Move moves.Pop ∷ ldc 1 ∷ Return ∷ []) ∷ constructor 21 ∷ []) ≡ threw 8
unfolding run word
base_fails = refl

base_is_no_instance : runs (objects (newobj 1 ∷ Cast false 22 ∷ Move moves.Null ∷ Compare Eq true ∷ Return ∷ []) ∷ constructor 21 ∷ []) ≡ returned 1
unfolding run word
base_is_no_instance = refl

-- An array of a derived class holds none of its base.
abbrev derived : Method
derived = method_with 0 (Some places.I4) [] (ldc 1 ∷ NewArray 20 ∷ ldc 0 ∷ newobj 1 ∷ Element true Reference ∷ ldc 1 ∷ Return ∷ []) []

wrong_element : runs (derived ∷ constructor 21 ∷ []) ≡ threw 9
unfolding run word
wrong_element = refl

right_element : runs (derived ∷ constructor 22 ∷ []) ≡ returned 1
unfolding run word
right_element = refl

-- Equal texts are one object.
abbrev text : Code
text = Move (moves.Text (104 ∷ 105 ∷ []))

one_text : runs (objects (text ∷ text ∷ Compare Eq true ∷ Return ∷ []) ∷ []) ≡ returned 1
unfolding run word
one_text = refl

two_texts : runs (objects (text ∷ Move (moves.Text (104 ∷ [])) ∷ Compare Eq true ∷ Return ∷ []) ∷ []) ≡ returned 0
unfolding run word
two_texts = refl

-- CALLS OF VIRTUAL METHODS

abbrev gives : ℕ → ℕ → Method
gives owner n = instance (method_with owner (Some places.I4) [] (ldc n ∷ Return ∷ []) [])

abbrev calls_virtually : Method
calls_virtually = objects (newobj 3 ∷ CallVirtual 1 ∷ Return ∷ [])

of_the_base : runs (calls_virtually ∷ gives 21 10 ∷ gives 22 20 ∷ constructor 21 ∷ []) ≡ returned 10
unfolding run word
of_the_base = refl

of_the_derived : runs (calls_virtually ∷ gives 21 10 ∷ gives 22 20 ∷ constructor 22 ∷ []) ≡ returned 20
unfolding run word
of_the_derived = refl

-- A plain call doesn't look at the class, nor at null.
not_virtually : runs (objects (newobj 3 ∷ Call (callees.Method 1) ∷ Return ∷ []) ∷ gives 21 10 ∷ gives 22 20 ∷ constructor 22 ∷ []) ≡ returned 10
unfolding run word
not_virtually = refl

on_null : runs (objects (ldloc 0 ∷ Call (callees.Method 1) ∷ Return ∷ []) ∷ gives 21 10 ∷ []) ≡ returned 10
unfolding run word
on_null = refl

virtually_on_null : runs (objects (ldloc 0 ∷ CallVirtual 1 ∷ Return ∷ []) ∷ gives 21 10 ∷ []) ≡ threw 6
unfolding run word
virtually_on_null = refl

-- A method without instructions isn't run: the run ends at the call.
without_instructions : runs (calls_virtually ∷ gives 21 10 ∷ instance (method_with 22 (Some places.I4) [] [] []) ∷ constructor 22 ∷ []) ≡ Some (ends.Outside 0 1)
unfolding run word
without_instructions = refl

-- EXCEPTIONS

abbrev clause : ClauseKind → ℕ → ℕ → ℕ → ℕ → Option ℕ → Clause
clause kind from to start stop class = record { kind = kind; from = from; to = to; start = start; stop = stop; class = class }

-- divides 1 by 0 in a range, and leaves with 2; the block gives the local 40
abbrev guarded : Option ℕ → Method
guarded class = method_with 0 (Some places.I4) (places.I4 ∷ [])
    (ldc 1 ∷ ldc 0 ∷ Divide Quotient ∷ stloc 0 ∷ Leave 9 ∷ Move moves.Pop ∷ ldc 40 ∷ stloc 0 ∷ Leave 9 ∷ ldloc 0 ∷ Return ∷ [])
    (clause Catch 0 5 5 9 class ∷ [])

caught : runs (guarded (Some 4) ∷ []) ≡ returned 40
unfolding run word
caught = refl

caught_by_a_base : runs (guarded (Some 1) ∷ []) ≡ returned 40
unfolding run word
caught_by_a_base = refl

not_caught : runs (guarded (Some 5) ∷ []) ≡ threw 4
unfolding run word
not_caught = refl

caught_by_none : runs (guarded None ∷ []) ≡ threw 4
unfolding run word
caught_by_none = refl

-- An exception of a callee is met at the call.
abbrev calls_thrower : Method
calls_thrower = method_with 0 (Some places.I4) (places.I4 ∷ [])
    (Call (callees.Method 1) ∷ stloc 0 ∷ Leave 7 ∷ Move moves.Pop ∷ ldc 41 ∷ stloc 0 ∷ Leave 7 ∷ ldloc 0 ∷ Return ∷ [])
    (clause Catch 0 3 3 7 (Some 1) ∷ [])

further_out : runs (calls_thrower ∷ method_with 0 (Some places.I4) [] (ldc 1 ∷ ldc 0 ∷ Divide Quotient ∷ Return ∷ []) [] ∷ []) ≡ returned 41
unfolding run word
further_out = refl

-- A finally block runs where a `leave` leads out of its range, and where an exception does.
abbrev left : Method
left = method_with 0 (Some places.I4) (places.I4 ∷ [])
    (Leave 6 ∷ ldloc 0 ∷ ldc 3 ∷ Arithmetic Add ∷ stloc 0 ∷ EndFinally ∷ ldloc 0 ∷ Return ∷ [])
    (clause Finally 0 1 1 6 None ∷ [])

finally_on_leave : runs (left ∷ []) ≡ returned 3
unfolding run word
finally_on_leave = refl

abbrev thrown_through : Method
thrown_through = method_with 0 (Some places.I4) (places.I4 ∷ [])
    (ldc 1 ∷ ldc 0 ∷ Divide Quotient ∷ Return ∷ ldloc 0 ∷ ldc 3 ∷ Arithmetic Add ∷ stloc 0 ∷ EndFinally ∷ Move moves.Pop ∷ ldloc 0 ∷ ldc 10 ∷ Arithmetic Add ∷ stloc 0 ∷ Leave 15 ∷ ldloc 0 ∷ Return ∷ [])
    (clause Finally 0 4 4 9 None ∷ clause Catch 0 9 9 15 (Some 1) ∷ [])

finally_on_exception : runs (thrown_through ∷ []) ≡ returned 13
unfolding run word
finally_on_exception = refl

-- A fault block runs for exceptions alone.
abbrev faulted : Method
faulted = method_with 0 (Some places.I4) (places.I4 ∷ [])
    (Leave 6 ∷ ldloc 0 ∷ ldc 3 ∷ Arithmetic Add ∷ stloc 0 ∷ EndFinally ∷ ldloc 0 ∷ Return ∷ [])
    (clause Fault 0 1 1 6 None ∷ [])

no_fault_on_leave : runs (faulted ∷ []) ≡ returned 0
unfolding run word
no_fault_on_leave = refl

-- A filter isn't run: the run ends where it was asked.
abbrev filtered : Method
filtered = method_with 0 (Some places.I4) [] (ldc 1 ∷ ldc 0 ∷ Divide Quotient ∷ Return ∷ Move moves.Pop ∷ Leave 0 ∷ []) (clause Filter 0 4 4 6 None ∷ [])

filter_is_outside : runs (filtered ∷ []) ≡ Some (ends.Outside 0 2)
unfolding run word
filter_is_outside = refl

-- A `throw` of null throws another exception; a `rethrow` throws what was caught.
throws_null : runs (method_with 0 (Some places.I4) [] (Move moves.Null ∷ Throw false ∷ []) [] ∷ []) ≡ threw 6
unfolding run word
throws_null = refl

abbrev again : Method
again = method_with 0 (Some places.I4) [] (ldc 1 ∷ ldc 0 ∷ Divide Quotient ∷ Return ∷ Throw true ∷ []) (clause Catch 0 4 4 5 (Some 1) ∷ [])

thrown_again : runs (again ∷ []) ≡ threw 4
unfolding run word
thrown_again = refl

-- A block that nothing began, as one that a branch leads to, has nothing to throw again.
nothing_to_throw : runs (method_with 0 (Some places.I4) [] (Throw true ∷ []) [] ∷ []) ≡ Some (ends.Outside 0 0)
unfolding run word
nothing_to_throw = refl

-- An exception that is thrown in a finally block takes the place of the one before.
abbrev replaced : Method
replaced = method_with 0 (Some places.I4) [] (ldc 1 ∷ ldc 0 ∷ Divide Quotient ∷ Return ∷ Move moves.Null ∷ Throw false ∷ []) (clause Finally 0 4 4 6 None ∷ [])

last_one_thrown : runs (replaced ∷ []) ≡ threw 6
unfolding run word
last_one_thrown = refl
