-- Well-formed programs: their numbers name what is there, their chains of types end, and their instructions lead to instructions.
use Rattle.std.specs.Prelude.{◌≡◌, ◌≢◌, ◌⊎◌, ℕ, ◌<◌, ◌^◌, List, [], ◌∷◌, ◌==◌, ◌&&◌, ◌||◌, Bool, true, false, if◌then◌else◌, Option, Some, None, IsSome, IfSome, length, map, take, slice_get, find}
use Rattle.std.specs.List.{AllByRecursion, list_all, list_any}
use Rattle.px_program.specs.Library.{library_types}
pub use Rattle.px_program.specs.Lines.{DerivesFrom, HasEnd, IsBehind, IsChain, IsKindOf, base_in, base_of}
use Rattle.px_program.specs.Overriding.{AreByFirst}
use Rattle.px_program.specs.declared.instr.Instr.{Instr}
use Rattle.px_program.specs.declared.instr.Callee.{Callee}
use Rattle.px_program.specs.declared.instr.Callee.TheVariants as callees
use Rattle.px_program.specs.declared.instr.Code.{Code}
use Rattle.px_program.specs.declared.instr.Code.TheVariants as codes
use Rattle.px_program.specs.declared.instr.ElementForm.{ElementForm}
use Rattle.px_program.specs.declared.instr.ElementForm.TheVariants as forms
use Rattle.px_program.specs.declared.instr.Field.{Field}
use Rattle.px_program.specs.declared.program.Clause.{Clause}
use Rattle.px_program.specs.declared.program.Method.{Method}
use Rattle.px_program.specs.declared.program.Place.{Place}
use Rattle.px_program.specs.declared.program.Place.TheVariants as places
use Rattle.px_program.specs.declared.program.Program.{Program}
use Rattle.px_program.specs.declared.program.TypeInfo.{TypeInfo}

-- INSTRUCTIONS

-- the instruction at an offset
abbrev pub instr_at : List Instr → ℕ → Option Instr
instr_at code at = find (λ i. i.offset == at) code

-- instructions that follow each other from an offset
abbrev pub Follow : ℕ → List Instr → Type 0
Follow at [] = Unit {0}
Follow at (i ∷ rest) = (i.offset ≡ at) × (at < i.next) × Follow i.next rest

-- the offsets that an instruction may lead to beside the next one
abbrev pub targets_of : Code → List ℕ
targets_of (codes.Branch target) = target ∷ []
targets_of (codes.BranchTruth when target) = target ∷ []
targets_of (codes.BranchCompare test signed target) = target ∷ []
targets_of (codes.Switch targets) = targets
targets_of (codes.Leave target) = target ∷ []
targets_of _ = []

-- some instruction starts there
abbrev pub is_start : List Instr → ℕ → Bool
is_start code at = list_any (λ i. i.offset == at) code

-- the offset behind the last instruction
abbrev pub end_of : List Instr → ℕ
end_of [] = 0
end_of (i ∷ []) = i.next
end_of (i ∷ j ∷ rest) = end_of (j ∷ rest)

-- a range of offsets begins at an instruction, and ends at one or with the code
abbrev pub is_range : List Instr → ℕ → ℕ → Bool
is_range code from to = is_start code from && (is_start code to || (to == end_of code))

abbrev pub is_placed : List Instr → Clause → Bool
is_placed code clause = is_range code clause.from clause.to && is_range code clause.start clause.stop

-- the instructions follow each other and lead to each other, and so do the ranges of clauses
pub record IsFormed (method : Method) : Type 0 where
  pub follow : Follow 0 method.code
  pub lead : list_all (λ i. list_all (is_start method.code) (targets_of i.code)) method.code ≡ true
  pub ranges : list_all (is_placed method.code) method.clauses ≡ true

-- TYPES

abbrev pub type_in : Option Place → Option ℕ
type_in (Some (places.Ref type)) = Some type
type_in _ = None

abbrev pub element_in : Option TypeInfo → Option ℕ
element_in None = None
element_in (Some type) = type_in type.element

-- the type of an array's elements, where these are references
abbrev pub element_of : List TypeInfo → ℕ → Option ℕ
element_of types type = element_in (slice_get types type)

-- a place that holds no reference to a type that isn't there
abbrev pub FitsPlace : List TypeInfo → Place → Type 0
FitsPlace types (places.Ref type) = type < length types
FitsPlace types _ = Unit {0}

-- a place that holds no reference
abbrev pub IsInteger : Place → Type 0
IsInteger (places.Ref type) = ⊥
IsInteger _ = Unit {0}

-- a type of elements, which is no base of others
abbrev pub has_element : Option TypeInfo → Bool
has_element None = false
has_element (Some type) = is_some_place type.element
  where
    is_some_place : Option Place → Bool
    is_some_place None = false
    is_some_place (Some place) = true

-- a type that others may have as their base: it is there, and neither `String` nor an array
pub record IsBase (types : List TypeInfo) (type : ℕ) : Type 0 where
  pub there : type < length types
  pub other : type ≢ 17
  pub no_array : has_element (slice_get types type) ≡ false

-- an array has no fields, and no base but `Object`
pub record IsArray (type : TypeInfo) : Type 0 where
  pub no_fields : type.fields ≡ []
  pub no_statics : type.statics ≡ []
  pub base : (type.base ≡ None) ⊎ (type.base ≡ Some 0)

pub record IsFormedType (types : List TypeInfo) (type : TypeInfo) : Type 0 where
  pub base : IfSome type.base (IsBase types)
  pub element : IfSome type.element (FitsPlace types)
  pub array : IsSome type.element → IsArray type
  pub fields : AllByRecursion (FitsPlace types) type.fields
  pub statics : AllByRecursion (FitsPlace types) type.statics

-- a type of the library has no fields
pub record IsBare (type : TypeInfo) : Type 0 where
  pub no_fields : type.fields ≡ []
  pub no_statics : type.statics ≡ []

-- the types of the library come first, and all chains of types end
pub record AreTypes (types : List TypeInfo) : Type 0 where
  pub library : map (λ t. t.base) (take 18 types) ≡ map (λ t. t.base) library_types
  pub bare : AllByRecursion IsBare (take 18 types)
  pub no_arrays : AllByRecursion (λ t. t.element ≡ None) (take 17 types)
  pub each : AllByRecursion (IsFormedType types) types
  pub bases : (type : ℕ) → HasEnd (base_of types) type
  pub elements : (type : ℕ) → HasEnd (element_of types) type

-- METHODS

-- the parameters with the receiver first, where there is one (Partition I, 8.6.1.5)
abbrev pub all_params : Method → List Place
all_params method = if method.is_static then method.params else places.Ref method.owner ∷ method.params

abbrev pub method_at : Program → ℕ → Option Method
method_at program number = slice_get program.methods number

abbrev pub entry_of : Program → Option Method
entry_of program = method_at program program.entry

-- a method of this number that has what is asked of it
pub record HasMethod (Is : Method → Type 0) (program : Program) (number : ℕ) : Type 0 where
  pub method : Method
  pub at : method_at program number ≡ Some method
  pub is : Is method

abbrev pub HasCode : Method → Type 0
HasCode method = method.code ≢ []

abbrev pub IsInstance : Method → Type 0
IsInstance method = method.is_static ≡ false

-- an instance method that returns nothing and has instructions
pub record IsConstructor (method : Method) : Type 0 where
  pub instance : IsInstance method
  pub no_return : method.ret ≡ None
  pub code : HasCode method

abbrev pub CanCall : Program → Callee → Type 0
CanCall program (callees.Method number) = HasMethod HasCode program number
CanCall program (callees.Constructor class params) = (class < 17) × AllByRecursion (FitsPlace program.types) params

abbrev pub CanMake : Program → Callee → Type 0
CanMake program (callees.Method number) = HasMethod IsConstructor program number
CanMake program (callees.Constructor class params) = (class < 17) × AllByRecursion (FitsPlace program.types) params

-- the element of some list of the type of this number
pub record HasField (list : TypeInfo → List Place) (types : List TypeInfo) (field : Field) : Type 0 where
  pub type : TypeInfo
  pub at : slice_get types field.owner ≡ Some type
  pub there : field.index < length (list type)

abbrev pub FitsForm : List TypeInfo → ElementForm → Type 0
FitsForm types (forms.Typed place) = FitsPlace types place
FitsForm types _ = Unit {0}

-- what an instruction names by a number is there
abbrev pub HasOperands : Program → Code → Type 0
HasOperands program (codes.NewArray type) = has_element (slice_get program.types type) ≡ true
HasOperands program (codes.Element store form) = FitsForm program.types form
HasOperands program (codes.Field store field) = HasField (λ t. t.fields) program.types field
HasOperands program (codes.Static store field) = HasField (λ t. t.statics) program.types field
HasOperands program (codes.Call callee) = CanCall program callee
HasOperands program (codes.CallVirtual number) = HasMethod IsInstance program number
HasOperands program (codes.NewObject callee) = CanMake program callee
HasOperands program (codes.Cast throws class) = class < length program.types
HasOperands program _ = Unit {0}

pub record IsFormedIn (program : Program) (method : Method) : Type 0 where
  pub formed : IsFormed method
  pub few_clauses : length method.clauses < 2 ^ 32
  pub owner : method.owner < length program.types
  pub params : AllByRecursion (FitsPlace program.types) method.params
  pub ret : IfSome method.ret (FitsPlace program.types)
  pub locals : AllByRecursion (FitsPlace program.types) method.locals
  pub operands : AllByRecursion (λ i. HasOperands program i.code) method.code
  pub classes : AllByRecursion (λ c. IfSome c.class (λ class. class < length program.types)) method.clauses

-- in a type, the second method takes the place of the first
pub record Overrides (program : Program) (type : ℕ) (pair : ℕ × ℕ) : Type 0 where
  pub first : Method
  pub second : Method
  pub first_at : method_at program pair.0 ≡ Some first
  pub second_at : method_at program pair.1 ≡ Some second
  pub instance : IsInstance second
  pub returns : second.ret ≡ first.ret
  pub params : second.params ≡ first.params
  pub owned : IsKindOf program.types type second.owner
  pub derives : DerivesFrom program.types second.owner first.owner

-- the constructor that makes the receiver of an entry: it takes nothing else
pub record IsMaker (entry maker : Method) : Type 0 where
  pub instance : IsInstance maker
  pub owner : maker.owner ≡ entry.owner
  pub no_return : maker.ret ≡ None
  pub no_params : maker.params ≡ []
  pub code : HasCode maker

abbrev pub MadeBy : Program → Method → Option ℕ → Type 0
MadeBy program entry None = entry.is_static ≡ true
MadeBy program entry (Some maker) = IsInstance entry × HasMethod (IsMaker entry) program maker

-- the entry has instructions, and a maker exactly where it isn't static
pub record CanBegin (program : Program) (entry : Method) : Type 0 where
  pub code : HasCode entry
  pub maker : MadeBy program entry program.maker

pub record IsWellFormed (program : Program) : Type 0 where
  pub types : AreTypes program.types
  pub few_methods : length program.methods < 2 ^ 32
  pub entry : HasMethod (CanBegin program) program program.entry
  pub methods : AllByRecursion (IsFormedIn program) program.methods
  pub overrides : (type : ℕ) (info : TypeInfo) → slice_get program.types type ≡ Some info → AllByRecursion (Overrides program type) info.overrides
  pub by_first : AllByRecursion (λ info. AreByFirst info.overrides) program.types
