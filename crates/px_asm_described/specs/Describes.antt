-- An assembly that says all that a program has, in its terms (Partition II, 22, 23.2 and 25.4). The types of the assembly stand behind the row of `<Module>`,
-- and the methods from row 1 on, both in the order of the program's layout. The reference of a number below 18 is that to the type of the library.
use Rattle.std.specs.Prelude.{◌≡◌, ◌≢◌, ℕ, ◌+◌, ◌*◌, ◌<◌, ◌^◌, nat_lt, not, true, false, if◌then◌else◌, List, [], ◌∷◌, ◌++◌, codes, length, Option, Some, None, Ok, slice_get}
use Rattle.std.specs.List.{AllZip}
use Rattle.px_code.specs.Body.{IsFormed}
use Rattle.px_code.specs.declared.body.RawClause.{RawClause}
use Rattle.px_code.specs.declared.body.RawInstr.{RawInstr}
use Rattle.px_meta.specs.Chains.{outer_of}
use Rattle.px_meta.specs.Faults.{IsFaultless}
use Rattle.px_meta.specs.FullNames.{own_name}
use Rattle.px_meta.specs.Members.{field_sig_at, method_sig_at, owner_of, type_sig_at}
use Rattle.px_meta.specs.Overriding.{is_new_slot, is_virtual}
use Rattle.px_meta.specs.Rows.{IsRow, cell, count_of, fields, member_refs, method_impls, methods, row_by, text_at, type_defs, type_refs, type_specs}
use Rattle.px_meta.specs.Tokens.{row_in, table_in}
use Rattle.px_link_methods.specs.Codes.{place_of}
use Rattle.px_link_methods.specs.Methods.{sig_at}
use Rattle.px_link_tokens.specs.Operands.{check_in, member_name, parent_ref, text_at_token}
use Rattle.px_link_tokens.specs.declared.operand.Operand.TheVariants as operand
use Rattle.px_pe.specs.Image as pe
use Rattle.px_program.specs.declared.instr.Callee.{Callee}
use Rattle.px_program.specs.declared.instr.Callee.TheVariants as callees
use Rattle.px_program.specs.declared.instr.Check.{Check}
use Rattle.px_program.specs.declared.instr.Code.{Code}
use Rattle.px_program.specs.declared.instr.Code.TheVariants as code
use Rattle.px_program.specs.declared.instr.ElementForm.TheVariants as form
use Rattle.px_program.specs.declared.instr.Field.{Field}
use Rattle.px_program.specs.declared.instr.Instr.{Instr}
use Rattle.px_program.specs.declared.instr.Move.TheVariants as move
use Rattle.px_program.specs.declared.program.Clause.{Clause}
use Rattle.px_program.specs.declared.program.ClauseKind.{ClauseKind}
use Rattle.px_program.specs.declared.program.ClauseKind.TheVariants as kinds
use Rattle.px_program.specs.declared.program.Method.{Method}
use Rattle.px_program.specs.declared.program.Place.{Place}
use Rattle.px_program.specs.declared.program.Place.TheVariants as places
use Rattle.px_program.specs.declared.program.Program.{Program}
use Rattle.px_program.specs.declared.program.Slot.{Slot}
use Rattle.px_program.specs.declared.program.TypeInfo.{TypeInfo}
use Rattle.px_link_reach.specs.Bodies.{whole_at}
use Rattle.px_link_reach.specs.declared.body.Whole.{Whole}
use Rattle.px_asm_opcodes.specs.Recoding.{IsRawOf}
use Rattle.px_sig.specs.declared.sig.Integer.{Integer}
use Rattle.px_sig.specs.declared.sig.Integer.TheVariants as integers
use Rattle.px_sig.specs.declared.sig.MethodSig.{MethodSig}
use Rattle.px_sig.specs.Grammar.{array_of, plain_type}
use Rattle.px_sig.specs.declared.sig.SigLeaf.TheVariants.{Void, Int, Str, Object, Class}
use Rattle.px_sig.specs.declared.sig.SigType.{SigType}
use Rattle.px_tables.specs.Metadata.{View}
use Rattle.px_link_types.specs.Keys.{base_index, is_class, library_ref}
use Rattle.px_link_types.specs.Numbers.{instance_fields, integer_place, static_fields}

-- ROWS

-- the row of a type of the assembly
abbrev pub type_row : Program → ℕ → ℕ
type_row p type = place_of p.layout.types type + 2

abbrev pub method_row : Program → ℕ → ℕ
method_row p method = place_of p.layout.methods method + 1

-- the token of a class: of the library or of the assembly
abbrev pub class_token : Program → ℕ → ℕ
class_token p class = if nat_lt class 18 then type_refs * 2 ^ 24 + (class + 1) else type_defs * 2 ^ 24 + type_row p class

-- the coded index of a base
abbrev pub extends_of : Program → Option ℕ → ℕ
extends_of p None = 0
extends_of p (Some base) = if nat_lt base 18 then 4 * (base + 1) + 1 else 4 * type_row p base

-- SIGNATURES

-- the elements of the type of a number have this place
pub record HasElement (p : Program) (type : ℕ) (element : Place) : Type 0 where
  pub info : TypeInfo
  pub at : slice_get p.types type ≡ Some info
  pub is : info.element ≡ Some element

-- the type of a number is no array
pub record IsClass (p : Program) (type : ℕ) : Type 0 where
  pub info : TypeInfo
  pub at : slice_get p.types type ≡ Some info
  pub no_element : info.element ≡ None

-- the type in a signature says what the place holds
pub data IsTypeOf (p : Program) : Place → SigType → Type 0 where
  IsNumber : (integer : Integer) (place : Place) (type : SigType) → place ≡ integer_place integer → type ≡ plain_type (Int integer) → IsTypeOf p place type
  IsObject : (place : Place) (type : SigType) → place ≡ places.Ref 0 → type ≡ plain_type Object → IsTypeOf p place type
  IsText : (place : Place) (type : SigType) → place ≡ places.Ref 17 → type ≡ plain_type Str → IsTypeOf p place type
  IsOther : (class : ℕ) (place : Place) (type : SigType) → class ≢ 0 → class ≢ 17 → IsClass p class → place ≡ places.Ref class → type ≡ plain_type (Class (class_token p class)) → IsTypeOf p place type
  IsArray : (array : ℕ) (element place : Place) (inner type : SigType) → HasElement p array element → IsTypeOf p element inner → place ≡ places.Ref array → type ≡ array_of inner → IsTypeOf p place type

abbrev pub IsReturnOf : Program → Option Place → SigType → Type 0
IsReturnOf p None type = type ≡ plain_type Void
IsReturnOf p (Some place) type = IsTypeOf p place type

pub record IsSigOf (p : Program) (method : Method) (sig : MethodSig) : Type 0 where
  pub has_this : sig.has_this ≡ not method.is_static
  pub plain : sig.plain ≡ true
  pub params : AllZip (IsTypeOf p) method.params sig.params
  pub ret : IsReturnOf p method.ret sig.ret

-- TYPES

-- the reference to a type of the library
pub record IsLibraryRow (v : View) (n : ℕ) : Type 0 where
  pub row : IsRow v type_refs (n + 1)
  pub names : library_ref v (n + 1) ≡ Some n

pub record IsFieldRow (p : Program) (v : View) (place : Place) (field : ℕ) : Type 0 where
  pub type : SigType
  pub has_sig : field_sig_at v (cell v fields field 2) ≡ Some type
  pub is : IsTypeOf p place type

-- the row says what a type of the assembly is
pub record IsTypeRow (p : Program) (v : View) (row : ℕ) (info : TypeInfo) : Type 0 where
  pub name : own_name v row ≡ info.name
  pub not_nested : outer_of v row ≡ None
  pub class : is_class v row ≡ true
  pub base : base_index v row ≡ extends_of p info.base
  pub fields : AllZip (IsFieldRow p v) info.fields (instance_fields v row)
  pub statics : AllZip (IsFieldRow p v) info.statics (static_fields v row)

-- TOKENS

-- the token of a row of TypeSpec that spells what a place holds
pub record Spells (p : Program) (v : View) (at : ℕ) (place : Place) : Type 0 where
  pub table : table_in at ≡ type_specs
  pub row : IsRow v type_specs (row_in at)
  pub type : SigType
  pub has_sig : type_sig_at v (cell v type_specs (row_in at) 0) ≡ Some type
  pub is : IsTypeOf p place type

-- the token of a field, by its place among those of its owner
pub record NamesField (p : Program) (list : ℕ → List ℕ) (field : Field) (at : ℕ) : Type 0 where
  pub table : table_in at ≡ fields
  pub among : slice_get (list (type_row p field.owner)) field.index ≡ Some (row_in at)

pub record NamesMethod (p : Program) (method at : ℕ) : Type 0 where
  pub table : table_in at ≡ methods
  pub row : row_in at ≡ method_row p method

-- the token of a reference to a member, with its signature
pub record NamesReference (v : View) (at : ℕ) (name : List ℕ) (sig : MethodSig) : Type 0 where
  pub table : table_in at ≡ member_refs
  pub row : IsRow v member_refs (row_in at)
  pub name_is : member_name v (row_in at) ≡ name
  pub has_sig : method_sig_at v (cell v member_refs (row_in at) 2) ≡ Some sig
  pub plain : sig.plain ≡ true
  pub no_return : sig.ret ≡ plain_type Void

-- the token of a constructor of a type of the library
pub record NamesConstructor (p : Program) (v : View) (class : ℕ) (params : List Place) (at : ℕ) : Type 0 where
  pub sig : MethodSig
  pub reference : NamesReference v at (codes ".ctor") sig
  pub parent : parent_ref v (row_in at) ≡ Some (class + 1)
  pub instance : sig.has_this ≡ true
  pub takes : AllZip (IsTypeOf p) params sig.params

pub record NamesCheck (v : View) (check : Check) (at : ℕ) : Type 0 where
  pub sig : MethodSig
  pub reference : NamesReference v at (codes "IsTrue") sig
  pub parent : check_in v (parent_ref v (row_in at)) ≡ Some check
  pub static : sig.has_this ≡ false
  pub takes : sig.params ≡ plain_type (Int integers.Bool) ∷ []

abbrev pub NamesCallee : Program → View → Callee → ℕ → Type 0
NamesCallee p v (callees.Method method) at = NamesMethod p method at
NamesCallee p v (callees.Constructor class params) at = NamesConstructor p v class params at

-- the elements of the array type of a number are spelled
pub record SpellsElement (p : Program) (v : View) (array at : ℕ) : Type 0 where
  pub element : Place
  pub has : HasElement p array element
  pub spells : Spells p v at element

-- the token of an instruction names what the instruction names
abbrev pub Names : Program → View → Code → ℕ → Type 0
Names p v (code.Move (move.Text units)) at = text_at_token v at ≡ Some (operand.Text units)
Names p v (code.NewArray array) at = SpellsElement p v array at
Names p v (code.Element store (form.Typed place)) at = Spells p v at place
Names p v (code.Cast throws class) at = Spells p v at (places.Ref class)
Names p v (code.Field store field) at = NamesField p (instance_fields v) field at
Names p v (code.Static store field) at = NamesField p (static_fields v) field at
Names p v (code.Call callee) at = NamesCallee p v callee at
Names p v (code.NewObject callee) at = NamesCallee p v callee at
Names p v (code.CallVirtual method) at = NamesMethod p method at
Names p v (code.Check check) at = NamesCheck v check at
Names p v _ at = Unit {0}

-- BODIES

pub record IsInstrOf (p : Program) (v : View) (instr : Instr) (raw : RawInstr) : Type 0 where
  pub token : ℕ
  pub fits : token < 2 ^ 32
  pub is : IsRawOf instr token raw
  pub names : Names p v instr.code token

abbrev pub flags_of : ClauseKind → ℕ
flags_of kinds.Catch = 0
flags_of kinds.Filter = 1
flags_of kinds.Finally = 2
flags_of kinds.Fault = 4

-- a clause that matches nothing has no class
abbrev pub caught_token : Program → Option ℕ → ℕ
caught_token p None = 0
caught_token p (Some class) = class_token p class

abbrev pub raw_clause : Program → Clause → RawClause
raw_clause p clause = record { flags = flags_of clause.kind; from = clause.from; to = clause.to; start = clause.start; stop = clause.stop; class = caught_token p clause.class }

pub record IsBodyOf (p : Program) (v : View) (method : Method) (whole : Whole) : Type 0 where
  pub formed : IsFormed whole.body
  pub max_stack : whole.body.max_stack ≡ method.max_stack
  pub locals : AllZip (IsTypeOf p) method.locals whole.locals
  pub code : AllZip (IsInstrOf p v) method.code whole.body.code
  pub clauses : AllZip (λ clause raw. raw ≡ raw_clause p clause) method.clauses whole.body.clauses

-- METHODS

pub record HasBody (p : Program) (v : View) (image : pe.View) (row : ℕ) (method : Method) : Type 0 where
  pub there : cell v methods row 0 ≢ 0
  pub whole : Whole
  pub read : whole_at v image row ≡ Ok whole
  pub is : IsBodyOf p v method whole

abbrev pub IsCodeRow : Program → View → pe.View → ℕ → Method → List Instr → Type 0
IsCodeRow p v image row method [] = cell v methods row 0 ≡ 0
IsCodeRow p v image row method (instr ∷ instrs) = HasBody p v image row method

-- the row has the method's own name, behind the full name of its owner
pub record HasMethodName (p : Program) (v : View) (row : ℕ) (method : Method) : Type 0 where
  pub owner : TypeInfo
  pub at : slice_get p.types method.owner ≡ Some owner
  pub is : method.name ≡ owner.name ++ codes "::" ++ text_at v (cell v methods row 3)

-- the row says what a method is
pub record IsMethodRow (p : Program) (v : View) (image : pe.View) (row : ℕ) (method : Method) : Type 0 where
  pub owner : owner_of v methods row ≡ type_row p method.owner
  pub name : HasMethodName p v row method
  pub sig : MethodSig
  pub has_sig : sig_at v row ≡ Some sig
  pub sig_is : IsSigOf p method sig
  pub code : IsCodeRow p v image row method method.code

-- no method takes a slot by its name
pub record IsSlotRow (v : View) (row : ℕ) (slot : Slot) : Type 0 where
  pub virtual_is : is_virtual v row ≡ slot.is_virtual
  pub new_slot : slot.is_virtual ≡ true → is_new_slot v row ≡ true

-- a row of MethodImpl, whatever may override what
pub record IsImpl (v : View) (row method other : ℕ) : Type 0 where
  pub there : IsRow v method_impls row
  pub body : row_by v methods 1 (cell v method_impls row 1) ≡ Some method
  pub declaration : row_by v methods 1 (cell v method_impls row 2) ≡ Some other

pub record IsSaid (p : Program) (method other : ℕ) : Type 0 where
  pub number : ℕ
  pub over : ℕ
  pub slot : Slot
  pub at : slice_get p.layout.slots number ≡ Some slot
  pub overrides : slot.overridden ≡ Some over
  pub method_is : method ≡ method_row p number
  pub other_is : other ≡ method_row p over

pub record SaysSlot (p : Program) (v : View) (number over : ℕ) : Type 0 where
  pub row : ℕ
  pub is : IsImpl v row (method_row p number) (method_row p over)

-- for each method that overrides one there is a row that says so, and no other row
pub record AreImpls (p : Program) (v : View) : Type 0 where
  pub said : (row method other : ℕ) → IsImpl v row method other → IsSaid p method other
  pub says : (number over : ℕ) (slot : Slot) → slice_get p.layout.slots number ≡ Some slot → slot.overridden ≡ Some over → SaysSlot p v number over
  pub once : (row later method one other : ℕ) → IsImpl v row method one → IsImpl v later method other → row ≡ later

-- THE ASSEMBLY

pub record Describes (p : Program) (v : View) (image : pe.View) : Type 0 where
  pub faultless : IsFaultless v
  pub library : (n : ℕ) → n < 18 → IsLibraryRow v n
  pub types_count : count_of v type_defs ≡ length p.layout.types + 1
  pub few_types : count_of v type_defs < 2 ^ 24  -- a token has room for no more
  pub types : (i type : ℕ) (info : TypeInfo) → slice_get p.layout.types i ≡ Some type → slice_get p.types type ≡ Some info → IsTypeRow p v (i + 2) info
  pub methods_count : count_of v methods ≡ length p.layout.methods
  pub methods : (i number : ℕ) (method : Method) → slice_get p.layout.methods i ≡ Some number → slice_get p.methods number ≡ Some method → IsMethodRow p v image (i + 1) method
  pub slots : (i number : ℕ) (slot : Slot) → slice_get p.layout.methods i ≡ Some number → slice_get p.layout.slots number ≡ Some slot → IsSlotRow v (i + 1) slot
  pub impls : AreImpls p v
