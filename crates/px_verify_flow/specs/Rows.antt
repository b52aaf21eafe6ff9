-- What instructions take from the stack, demand of it and leave on it: Partition III, 3 and 4.
use Rattle.std.specs.Prelude.{ℕ, ◌==◌, ◌&&◌, ◌||◌, not, nat_le, Bool, true, false, if◌then◌else◌, List, [], ◌∷◌, length, drop, reverse, Option, Some, None, Ok, slice_get}
use Rattle.px_program.specs.Fields.{own_fields}
use Rattle.px_program.specs.Formed.{all_params, method_at}
use Rattle.px_program.specs.declared.instr.Callee.{Callee}
use Rattle.px_program.specs.declared.instr.Callee.TheVariants as callees
use Rattle.px_program.specs.declared.instr.Code.{Code}
use Rattle.px_program.specs.declared.instr.Code.TheVariants as codes
use Rattle.px_program.specs.declared.instr.ElementForm.{ElementForm}
use Rattle.px_program.specs.declared.instr.ElementForm.TheVariants as forms
use Rattle.px_program.specs.declared.instr.Field.{Field}
use Rattle.px_program.specs.declared.instr.IntegerType.{IntegerType}
use Rattle.px_program.specs.declared.instr.IntegerType.TheVariants as integers
use Rattle.px_program.specs.declared.instr.Move.{Move}
use Rattle.px_program.specs.declared.instr.Move.TheVariants as moves
use Rattle.px_program.specs.declared.instr.Test.{Test}
use Rattle.px_program.specs.declared.instr.Test.TheVariants as tests
use Rattle.px_program.specs.declared.program.Method.{Method}
use Rattle.px_program.specs.declared.program.Place.{Place}
use Rattle.px_program.specs.declared.program.Place.TheVariants as places
use Rattle.px_program.specs.declared.program.Program.{Program}
use Rattle.px_program.specs.declared.program.TypeInfo.{TypeInfo}
use Rattle.px_verify_kinds.specs.Kinds.{fits_kind, kind_of}
use Rattle.px_verify_kinds.specs.declared.kind.Kind.{Kind}
use Rattle.px_verify_kinds.specs.declared.kind.Kind.TheVariants as kinds
use Rattle.px_verify_flow.specs.Outcome.{Outcome, need, on_pop, on_some}
use Rattle.px_verify_flow.specs.declared.fault.VerifyKind.TheVariants as faults

-- KINDS

abbrev pub is_number : Kind → Bool
is_number kinds.I = true
is_number kinds.L = true
is_number kinds.N = true
is_number _ = false

abbrev pub is_reference : Kind → Bool
is_reference kinds.Null = true
is_reference (kinds.Ref type) = true
is_reference _ = false

-- what counts: lengths, places in arrays and widths of shifts
abbrev pub is_count : Kind → Bool
is_count kinds.I = true
is_count kinds.N = true
is_count _ = false

abbrev pub is_int32 : Kind → Bool
is_int32 kinds.I = true
is_int32 _ = false

-- what a binary operation on two numbers gives (Partition III, 1.5, table 2)
abbrev pub binary_kind : Kind → Kind → Option Kind
binary_kind kinds.I kinds.I = Some kinds.I
binary_kind kinds.L kinds.L = Some kinds.L
binary_kind kinds.N kinds.N = Some kinds.N
binary_kind kinds.I kinds.N = Some kinds.N
binary_kind kinds.N kinds.I = Some kinds.N
binary_kind _ _ = None

abbrev pub is_some_kind : Option Kind → Bool
is_some_kind None = false
is_some_kind (Some kind) = true

-- the kind of an integer type
abbrev pub kind_of_integer : IntegerType → Kind
kind_of_integer integers.I8 = kinds.L
kind_of_integer integers.U8 = kinds.L
kind_of_integer integers.N = kinds.N
kind_of_integer integers.UN = kinds.N
kind_of_integer _ = kinds.I

-- NUMBERS

abbrev pub binary_row : List Kind → Outcome
binary_row stack = on_pop stack (λ second rest. on_pop rest (λ first below. on_some (binary_kind first second) (λ kind. Ok (kind ∷ below))))

abbrev pub shift_row : List Kind → Outcome
shift_row stack = on_pop stack (λ count rest. on_pop rest (λ value below. need (is_number value && is_count count) faults.Mismatch (Ok (value ∷ below))))

abbrev pub unary_row : List Kind → Outcome
unary_row stack = on_pop stack (λ value below. need (is_number value) faults.Mismatch (Ok (value ∷ below)))

abbrev pub convert_row : IntegerType → List Kind → Outcome
convert_row to stack = on_pop stack (λ value below. need (is_number value) faults.Mismatch (Ok (kind_of_integer to ∷ below)))

-- COMPARISONS

abbrev pub is_equality : Test → Bool
is_equality tests.Eq = true
is_equality tests.Ne = true
is_equality _ = false

abbrev pub is_above : Test → Bool
is_above tests.Gt = true
is_above _ = false

-- numbers of one kind, a native one with an int32, and where the test is one for them, references
abbrev pub can_compare : Bool → Kind → Kind → Bool
can_compare references first second = is_some_kind (binary_kind first second) || (references && (is_reference first && is_reference second))

-- `ceq` and `cgt.un` compare references too (Partition III, 1.5, table 4)
abbrev pub compare_row : Test → Bool → List Kind → Outcome
compare_row test signed stack =
    on_pop stack (λ second rest. on_pop rest (λ first below. need (can_compare (is_equality test || (is_above test && not signed)) first second) faults.Mismatch (Ok (kinds.I ∷ below))))

-- so do `beq` and `bne.un`
abbrev pub branch_compare_row : Test → List Kind → Outcome
branch_compare_row test stack = on_pop stack (λ second rest. on_pop rest (λ first below. need (can_compare (is_equality test) first second) faults.Mismatch (Ok below)))

-- a value of any kind is taken
abbrev pub drop_row : List Kind → Outcome
drop_row stack = on_pop stack (λ value below. Ok below)

-- `switch` and the calls that check a truth value
abbrev pub int32_row : List Kind → Outcome
int32_row stack = on_pop stack (λ value below. need (is_int32 value) faults.Mismatch (Ok below))

-- MOVES

-- the place is there, and what it holds is loaded
abbrev pub load_row : Option Place → List Kind → Outcome
load_row place stack = on_some place (λ there. Ok (kind_of there ∷ stack))

abbrev pub fits_place : List TypeInfo → Kind → Option Place → Bool
fits_place types kind None = false
fits_place types kind (Some place) = fits_kind types kind (kind_of place)

-- the place is there, and the value fits it
abbrev pub store_row : List TypeInfo → Option Place → List Kind → Outcome
store_row types place stack = on_pop stack (λ value below. need (fits_place types value place) faults.Mismatch (Ok below))

abbrev pub move_row : List TypeInfo → Method → Move → List Kind → Outcome
move_row types method (moves.Argument number) stack = load_row (slice_get (all_params method) number) stack
move_row types method (moves.SetArgument number) stack = store_row types (slice_get (all_params method) number) stack
move_row types method (moves.Local number) stack = load_row (slice_get method.locals number) stack
move_row types method (moves.SetLocal number) stack = store_row types (slice_get method.locals number) stack
move_row types method (moves.Constant32 pattern) stack = Ok (kinds.I ∷ stack)
move_row types method (moves.Constant64 pattern) stack = Ok (kinds.L ∷ stack)
move_row types method moves.Null stack = Ok (kinds.Null ∷ stack)
move_row types method (moves.Text text) stack = Ok (kinds.Ref 17 ∷ stack)
move_row types method moves.Duplicate stack = on_pop stack (λ value below. Ok (value ∷ value ∷ below))
move_row types method moves.Pop stack = drop_row stack

-- ARRAYS

abbrev pub place_in : Option TypeInfo → Option Place
place_in None = None
place_in (Some type) = type.element

-- what the elements of an array of a type are
abbrev pub element_place : List TypeInfo → ℕ → Option Place
element_place types type = place_in (slice_get types type)

-- how many bits an element of an integer place takes (Partition I, 12.1); none of a reference
abbrev pub element_bits : Place → Option ℕ
element_bits places.Bool = Some 8
element_bits places.I1 = Some 8
element_bits places.U1 = Some 8
element_bits places.Char = Some 16
element_bits places.I2 = Some 16
element_bits places.U2 = Some 16
element_bits places.I4 = Some 32
element_bits places.U4 = Some 32
element_bits places.I8 = Some 64
element_bits places.U8 = Some 64
element_bits places.N = Some 64
element_bits places.UN = Some 64
element_bits (places.Ref type) = None

-- the integer place of a type that an instruction names
abbrev pub place_of_integer : IntegerType → Place
place_of_integer integers.I1 = places.I1
place_of_integer integers.U1 = places.U1
place_of_integer integers.I2 = places.I2
place_of_integer integers.U2 = places.U2
place_of_integer integers.I4 = places.I4
place_of_integer integers.U4 = places.U4
place_of_integer integers.I8 = places.I8
place_of_integer integers.U8 = places.U8
place_of_integer integers.N = places.N
place_of_integer integers.UN = places.UN

abbrev pub form_bits : ElementForm → Option ℕ
form_bits (forms.Integer type) = element_bits (place_of_integer type)
form_bits forms.Reference = None
form_bits (forms.Typed place) = element_bits place

abbrev pub same_bits : Option ℕ → Option ℕ → Bool
same_bits None None = true
same_bits (Some bits) (Some others) = bits == others
same_bits _ _ = false

-- the form's width is the element's, or both are references
abbrev pub has_form : ElementForm → Place → Bool
has_form form place = same_bits (form_bits form) (element_bits place)

-- what is loaded from an array that is null, as far as its instruction tells
abbrev pub kind_of_form : ElementForm → Kind
kind_of_form (forms.Integer type) = kind_of_integer type
kind_of_form forms.Reference = kinds.Null
kind_of_form (forms.Typed place) = kind_of place

abbrev pub new_array_row : ℕ → List Kind → Outcome
new_array_row type stack = on_pop stack (λ count below. need (is_count count) faults.Mismatch (Ok (kinds.Ref type ∷ below)))

abbrev pub is_array : List TypeInfo → Kind → Bool
is_array types kinds.Null = true
is_array types (kinds.Ref type) = is_there (element_place types type)
  where
    is_there : Option Place → Bool
    is_there None = false
    is_there (Some place) = true
is_array types _ = false

abbrev pub length_row : List TypeInfo → List Kind → Outcome
length_row types stack = on_pop stack (λ array below. need (is_array types array) faults.Mismatch (Ok (kinds.N ∷ below)))

-- the kind of an element of an array of this kind, where the instruction's form is right for it
abbrev pub element_kind : List TypeInfo → ElementForm → Kind → Option Kind
element_kind types form kinds.Null = Some (kind_of_form form)
element_kind types form (kinds.Ref type) = of_place form (element_place types type)
  where
    of_place : ElementForm → Option Place → Option Kind
    of_place form None = None
    of_place form (Some place) = if has_form form place then Some (kind_of place) else None
element_kind types form _ = None

abbrev pub load_element_row : List TypeInfo → ElementForm → List Kind → Outcome
load_element_row types form stack =
    on_pop stack (λ index rest. on_pop rest (λ array below. need (is_count index) faults.Mismatch (on_some (element_kind types form array) (λ kind. Ok (kind ∷ below)))))

-- what may be stored into an array that is null: a value of the form's kind
abbrev pub fits_form : ElementForm → Kind → Bool
fits_form forms.Reference value = is_reference value
fits_form (forms.Typed (places.Ref type)) value = is_reference value
fits_form form value = fits_kind [] value (kind_of_form form)

abbrev pub fits_element : List TypeInfo → ElementForm → Kind → Kind → Bool
fits_element types form kinds.Null value = fits_form form value
fits_element types form (kinds.Ref type) value = of_place types form value (element_place types type)
  where
    of_place : List TypeInfo → ElementForm → Kind → Option Place → Bool
    of_place types form value None = false
    of_place types form value (Some place) = has_form form place && fits_kind types value (kind_of place)
fits_element types form _ value = false

abbrev pub store_element_row : List TypeInfo → ElementForm → List Kind → Outcome
store_element_row types form stack =
    on_pop stack (λ value rest. on_pop rest (λ index others. on_pop others (λ array below. need (is_count index && fits_element types form array value) faults.Mismatch (Ok below))))

abbrev pub element_row : List TypeInfo → Bool → ElementForm → List Kind → Outcome
element_row types false form stack = load_element_row types form stack
element_row types true form stack = store_element_row types form stack

-- FIELDS

abbrev pub field_place : List TypeInfo → Field → Option Place
field_place types field = slice_get (own_fields (slice_get types field.owner)) field.index

abbrev pub statics_in : Option TypeInfo → List Place
statics_in None = []
statics_in (Some type) = type.statics

abbrev pub static_place : List TypeInfo → Field → Option Place
static_place types field = slice_get (statics_in (slice_get types field.owner)) field.index

abbrev pub field_row : List TypeInfo → Bool → Field → List Kind → Outcome
field_row types false field stack =
    on_pop stack (λ object below. need (fits_kind types object (kinds.Ref field.owner)) faults.Mismatch (load_row (field_place types field) below))
field_row types true field stack =
    on_pop stack (λ value rest. on_pop rest (λ object below. need (fits_kind types object (kinds.Ref field.owner) && fits_place types value (field_place types field)) faults.Mismatch (Ok below)))

abbrev pub static_row : List TypeInfo → Bool → Field → List Kind → Outcome
static_row types false field stack = load_row (static_place types field) stack
static_row types true field stack = store_row types (static_place types field) stack

-- CALLS

-- each of the uppermost values fits its parameter, the last one first
abbrev pub fit_places : List TypeInfo → List Place → List Kind → Bool
fit_places types [] stack = true
fit_places types (place ∷ places) [] = false
fit_places types (place ∷ places) (kind ∷ below) = fits_kind types kind (kind_of place) && fit_places types places below

-- the arguments go, and what comes back is pushed
abbrev pub call_row : List TypeInfo → List Place → List Kind → List Kind → Outcome
call_row types params back stack =
    need (nat_le (length params) (length stack)) faults.Underflow (need (fit_places types (reverse params) stack) faults.Mismatch (Ok (push_all back (drop (length params) stack))))
  where
    push_all : List Kind → List Kind → List Kind
    push_all [] stack = stack
    push_all (kind ∷ more) stack = kind ∷ stack

-- what a return pushes
abbrev pub return_kinds : Option Place → List Kind
return_kinds None = []
return_kinds (Some place) = kind_of place ∷ []

-- a method's receiver is its first parameter
abbrev pub call_method_row : List TypeInfo → Option Method → List Kind → Outcome
call_method_row types method stack = on_some method (λ called. call_row types (all_params called) (return_kinds called.ret) stack)

abbrev pub callee_row : Program → Callee → List Kind → Outcome
callee_row program (callees.Method number) stack = call_method_row program.types (method_at program number) stack
callee_row program (callees.Constructor class params) stack = call_row program.types (places.Ref class ∷ params) [] stack

-- a constructor is given the new object, which isn't on the stack
abbrev pub make_row : Program → Callee → List Kind → Outcome
make_row program (callees.Method number) stack = on_some (method_at program number) (λ called. call_row program.types called.params (kinds.Ref called.owner ∷ []) stack)
make_row program (callees.Constructor class params) stack = call_row program.types params (kinds.Ref class ∷ []) stack

-- REFERENCES

abbrev pub cast_row : ℕ → List Kind → Outcome
cast_row class stack = on_pop stack (λ object below. need (is_reference object) faults.Mismatch (Ok (kinds.Ref class ∷ below)))

-- what is thrown is an exception, the type 1
abbrev pub throw_row : List TypeInfo → List Kind → Outcome
throw_row types stack = on_pop stack (λ thrown below. need (fits_kind types thrown (kinds.Ref 1)) faults.Mismatch (Ok below))

-- ALL ROWS

-- the stack behind an instruction, or that it finds too little or something else than it takes
abbrev pub effect : Program → Method → Code → List Kind → Outcome
effect program method (codes.Nop is_break) stack = Ok stack
effect program method (codes.Move move) stack = move_row program.types method move stack
effect program method (codes.Arithmetic operation) stack = binary_row stack
effect program method (codes.Divide division) stack = binary_row stack
effect program method (codes.DivideUnsigned division) stack = binary_row stack
effect program method (codes.Checked operation signed) stack = binary_row stack
effect program method (codes.Shift shift) stack = shift_row stack
effect program method (codes.Unary unary) stack = unary_row stack
effect program method (codes.Convert to) stack = convert_row to stack
effect program method (codes.ConvertChecked to signed) stack = convert_row to stack
effect program method (codes.Compare test signed) stack = compare_row test signed stack
effect program method (codes.Branch target) stack = Ok stack
effect program method (codes.BranchTruth when target) stack = drop_row stack
effect program method (codes.BranchCompare test signed target) stack = branch_compare_row test stack
effect program method (codes.Switch targets) stack = int32_row stack
effect program method (codes.NewArray type) stack = new_array_row type stack
effect program method codes.Length stack = length_row program.types stack
effect program method (codes.Element store form) stack = element_row program.types store form stack
effect program method (codes.Field store field) stack = field_row program.types store field stack
effect program method (codes.Static store field) stack = static_row program.types store field stack
effect program method (codes.Call callee) stack = callee_row program callee stack
effect program method (codes.CallVirtual number) stack = call_method_row program.types (method_at program number) stack
effect program method (codes.NewObject callee) stack = make_row program callee stack
effect program method (codes.Cast throws class) stack = cast_row class stack
effect program method codes.Return stack = Ok stack
effect program method (codes.Throw again) stack = if again then Ok stack else throw_row program.types stack
effect program method (codes.Leave target) stack = Ok []
effect program method codes.EndFinally stack = Ok []
effect program method (codes.Check check) stack = int32_row stack
effect program method (codes.Outside name opcode) stack = Ok stack
