-- The tokens that instructions have where a program is written: each type, field and method of the program has one row, which its number tells.
use Rattle.std.specs.Prelude.{◌≡◌, ℕ, ◌+◌, ◌*◌, ◌^◌, Bool, true, false, List, [], ◌++◌, length, map, take, Option, Some, None, slice_get}
use Rattle.std.specs.List.{flat_map}
use Rattle.px_asm_heaps.specs.Heaps.{HasText}
use Rattle.px_meta.specs.Rows.{fields, member_refs, methods, type_specs}
use Rattle.px_meta.specs.Tokens.{row_in, table_in}
use Rattle.px_link_methods.specs.Codes.{place_of}
use Rattle.px_program.specs.declared.instr.Callee.{Callee}
use Rattle.px_program.specs.declared.instr.Callee.TheVariants as callees
use Rattle.px_program.specs.declared.instr.Check.{Check}
use Rattle.px_program.specs.declared.instr.Check.TheVariants.{Assert, Assume}
use Rattle.px_program.specs.declared.instr.Code.{Code}
use Rattle.px_program.specs.declared.instr.Code.TheVariants as code
use Rattle.px_program.specs.declared.instr.ElementForm.TheVariants as form
use Rattle.px_program.specs.declared.instr.Field.{Field}
use Rattle.px_program.specs.declared.instr.Move.TheVariants as move
use Rattle.px_program.specs.declared.program.Place.{Place}
use Rattle.px_program.specs.declared.program.Place.TheVariants as places
use Rattle.px_program.specs.declared.program.Program.{Program}
use Rattle.px_program.specs.declared.program.TypeInfo.{TypeInfo}
use Rattle.px_asm_described.specs.Describes.{HasElement, method_row}
use Rattle.px_tables.specs.declared.tables.Row.{Row}
use Rattle.px_asm_law_written.specs.Store.{IsConstructorRow, Store}

abbrev pub token : ℕ → ℕ → ℕ
token table row = table * 2 ^ 24 + row

-- each place has its row of TypeSpec: the integers first, and then the types by their numbers
abbrev pub spec_row : Place → ℕ
spec_row places.Bool = 1
spec_row places.Char = 2
spec_row places.I1 = 3
spec_row places.U1 = 4
spec_row places.I2 = 5
spec_row places.U2 = 6
spec_row places.I4 = 7
spec_row places.U4 = 8
spec_row places.I8 = 9
spec_row places.U8 = 10
spec_row places.N = 11
spec_row places.UN = 12
spec_row (places.Ref type) = 13 + type

-- the fields of a type in the order of their rows: those of instances, and then the static ones
abbrev pub fields_in : Option TypeInfo → List (Bool × Place)
fields_in None = []
fields_in (Some info) = map (λ place. (false, place)) info.fields ++ map (λ place. (true, place)) info.statics

-- the fields of some types, one type after the other
abbrev pub fields_of : Program → List ℕ → List (Bool × Place)
fields_of p types = flat_map (λ type. fields_in (slice_get p.types type)) types

-- the row of the first field of the type that has a place in the layout
abbrev pub first_field : Program → ℕ → ℕ
first_field p i = length (fields_of p (take i p.layout.types)) + 1

abbrev pub instance_count : Option TypeInfo → ℕ
instance_count None = 0
instance_count (Some info) = length info.fields

abbrev pub field_row : Program → Field → ℕ
field_row p field = first_field p (place_of p.layout.types field.owner) + field.index

abbrev pub static_row : Program → Field → ℕ
static_row p field = field_row p field + instance_count (slice_get p.types field.owner)

-- the row of a constructor, by its token
pub record HasConstructor (p : Program) (s : Store) (class : ℕ) (params : List Place) (at : ℕ) : Type 0 where
  pub table : table_in at ≡ member_refs
  pub n : ℕ
  pub row_is : row_in at ≡ n + 1
  pub row : Row
  pub there : slice_get s.references n ≡ Some row
  pub is : IsConstructorRow p s class params row

pub record HasTextAt (s : Store) (units : List ℕ) (at : ℕ) : Type 0 where
  pub table : table_in at ≡ 0x70
  pub stands : HasText s.texts (row_in at) units

pub record HasElementAt (p : Program) (array at : ℕ) : Type 0 where
  pub element : Place
  pub has : HasElement p array element
  pub is : at ≡ token type_specs (spec_row element)

abbrev pub CalleeHas : Program → Store → Callee → ℕ → Type 0
CalleeHas p s (callees.Method method) at = at ≡ token methods (method_row p method)
CalleeHas p s (callees.Constructor class params) at = HasConstructor p s class params at

abbrev pub check_row : Check → ℕ
check_row Assume = 1
check_row Assert = 2

-- the token that an instruction has
abbrev pub HasTokenIn : Program → Store → Code → ℕ → Type 0
HasTokenIn p s (code.Move (move.Text units)) at = HasTextAt s units at
HasTokenIn p s (code.NewArray array) at = HasElementAt p array at
HasTokenIn p s (code.Element store (form.Typed place)) at = at ≡ token type_specs (spec_row place)
HasTokenIn p s (code.Cast throws class) at = at ≡ token type_specs (spec_row (places.Ref class))
HasTokenIn p s (code.Field store field) at = at ≡ token fields (field_row p field)
HasTokenIn p s (code.Static store field) at = at ≡ token fields (static_row p field)
HasTokenIn p s (code.Call callee) at = CalleeHas p s callee at
HasTokenIn p s (code.NewObject callee) at = CalleeHas p s callee at
HasTokenIn p s (code.CallVirtual method) at = at ≡ token methods (method_row p method)
HasTokenIn p s (code.Check check) at = at ≡ token member_refs (check_row check)
HasTokenIn p s _ at = Unit {0}
