-- What the tables, heaps and bodies of a written program hold (Partition II, 22).
use Rattle.std.specs.Prelude.{◌≡◌, ℕ, ◌+◌, ◌*◌, ◌%◌, ◌<◌, ◌^◌, nat_lt, Bool, false, List, [], ◌∷◌, ◌++◌, codes, drop, length, map, Option, Some, None, Ok, slice_get, slice_index, slice_index_or, filter}
use Rattle.std.specs.List.{AllZip, flat_map, range_with_len}
use Rattle.px_code.specs.Body.{IsFormed, body_of}
use Rattle.px_code.specs.declared.body.Body.{Body}
use Rattle.px_code.specs.declared.body.RawInstr.{RawInstr}
use Rattle.px_asm_heaps.specs.Heaps.{HasString}
use Rattle.px_asm_image.specs.Image.{first_body}
use Rattle.px_meta.specs.FullNames.{with_namespace}
use Rattle.px_program.specs.Library.{library_types}
use Rattle.px_program.specs.declared.instr.Instr.{Instr}
use Rattle.px_program.specs.declared.program.Method.{Method}
use Rattle.px_program.specs.declared.program.Place.{Place}
use Rattle.px_program.specs.declared.program.Place.TheVariants as places
use Rattle.px_program.specs.declared.program.Program.{Program}
use Rattle.px_program.specs.declared.program.Slot.{Slot}
use Rattle.px_program.specs.declared.program.TypeInfo.{TypeInfo}
use Rattle.px_asm_opcodes.specs.Recoding.{IsRawOf}
use Rattle.px_asm_described.specs.Describes.{IsSigOf, IsTypeOf, extends_of, method_row, raw_clause, type_row}
use Rattle.px_asm_described.specs.Writable.{owner_in, owner_place}
use Rattle.px_sig.specs.Grammar.{field_sig, locals_sig, method_sig, type_sig}
use Rattle.px_sig.specs.declared.sig.MethodSig.{MethodSig}
use Rattle.px_sig.specs.declared.sig.SigType.{SigType}
use Rattle.px_tables.specs.Counts.{has_bit}
use Rattle.px_tables.specs.declared.tables.Row.{Row}
use Rattle.px_asm_law_written.specs.Store.{AreReferences, HasSig, Store}
use Rattle.px_asm_law_written.specs.Tokens.{HasTokenIn, fields_of, first_field}

-- REFERENCES TO TYPES

-- a type of another assembly: the row of AssemblyRef, its namespace and its name
pub record Referred : Type 0 where
  pub assembly : ℕ
  pub namespace : List ℕ
  pub name : List ℕ

-- the types of the library, all of the namespace `System`, by the name behind `System.`
abbrev pub system : TypeInfo → Referred
system info = record { assembly = 1; namespace = codes "System"; name = drop 7 info.name }

abbrev pub checker : List ℕ → Referred
checker name = record { assembly = 2; namespace = codes "Microsoft.Pex.Framework"; name = name }

-- the types of the library by number, and those of the two checks
abbrev pub all_referred : List Referred
all_referred = map system library_types ++ checker (codes "PexAssume") ∷ checker (codes "PexAssert") ∷ []

pub record IsTypeRef (s : Store) (referred : Referred) (row : Row) : Type 0 where
  pub scope : slice_index row.cells 0 ≡ 4 * referred.assembly + 2
  pub name : HasString s.strings (slice_index row.cells 1) referred.name
  pub namespace : HasString s.strings (slice_index row.cells 2) referred.namespace

-- TYPES AND FIELDS

-- how many methods types before a place in the layout have
abbrev pub methods_before : Program → ℕ → ℕ
methods_before p i = length (filter (λ number. nat_lt (owner_place p number) i) p.layout.methods)

pub record IsTypeDef (p : Program) (s : Store) (i : ℕ) (info : TypeInfo) (row : Row) : Type 0 where
  pub class : has_bit (slice_index row.cells 0) 5 ≡ false
  pub name : List ℕ
  pub namespace : List ℕ
  pub name_is : HasString s.strings (slice_index row.cells 1) name
  pub namespace_is : HasString s.strings (slice_index row.cells 2) namespace
  pub full : with_namespace namespace name ≡ info.name
  pub base : slice_index row.cells 3 ≡ extends_of p info.base
  pub fields : slice_index row.cells 4 ≡ first_field p i
  pub methods : slice_index row.cells 5 ≡ methods_before p i + 1

-- the row of `<Module>`, which has no members
pub record IsModule (s : Store) (row : Row) : Type 0 where
  pub name : HasString s.strings (slice_index row.cells 1) (codes "<Module>")
  pub namespace : HasString s.strings (slice_index row.cells 2) []
  pub no_base : slice_index row.cells 3 ≡ 0
  pub fields : slice_index row.cells 4 ≡ 1
  pub methods : slice_index row.cells 5 ≡ 1

pub record AreTypeDefs (p : Program) (s : Store) (rows : List Row) : Type 0 where
  pub count : length rows ≡ length p.layout.types + 1
  pub head : (row : Row) → slice_get rows 0 ≡ Some row → IsModule s row
  pub each : (i type : ℕ) (info : TypeInfo) (row : Row) → slice_get p.layout.types i ≡ Some type → slice_get p.types type ≡ Some info → slice_get rows (i + 1) ≡ Some row → IsTypeDef p s i info row

-- a field that is static or not, and what it holds
pub record IsFieldDef (p : Program) (s : Store) (field : Bool × Place) (row : Row) : Type 0 where
  pub static : has_bit (slice_index row.cells 0 % 2 ^ 16) 4 ≡ field.0
  pub some_name : List ℕ
  pub name : HasString s.strings (slice_index row.cells 1) some_name
  pub type : SigType
  pub sig : HasSig field_sig s.blob (slice_index row.cells 2) type
  pub is : IsTypeOf p field.1 type

-- BODIES

pub record IsInstrIn (p : Program) (s : Store) (instr : Instr) (raw : RawInstr) : Type 0 where
  pub token : ℕ
  pub fits : token < 2 ^ 32
  pub is : IsRawOf instr token raw
  pub has : HasTokenIn p s instr.code token

-- the body of a method; its locals have a signature of their own, whose row is that of the method
pub record IsBodyIn (p : Program) (s : Store) (row : ℕ) (method : Method) (body : Body) : Type 0 where
  pub formed : IsFormed body
  pub max_stack : body.max_stack ≡ method.max_stack
  pub locals : body.locals_token ≡ 0x11 * 2 ^ 24 + row
  pub code : AllZip (IsInstrIn p s) method.code body.code
  pub clauses : AllZip (λ clause raw. raw ≡ raw_clause p clause) method.clauses body.clauses

-- the bodies from a place on begin with that of the method
pub record HasBodyAt (p : Program) (s : Store) (bodies : List ℕ) (row : ℕ) (method : Method) (at : ℕ) : Type 0 where
  pub within : at < length bodies
  pub body : Body
  pub read : (rest : List ℕ) → body_of (drop at bodies ++ rest) ≡ Ok body
  pub is : IsBodyIn p s row method body

pub record HasCode (p : Program) (s : Store) (bodies : List ℕ) (row : ℕ) (method : Method) (address : ℕ) : Type 0 where
  pub at : ℕ
  pub is : address ≡ first_body + at
  pub body : HasBodyAt p s bodies row method at

-- METHODS

-- a method without code has no address
abbrev pub IsAddress : Program → Store → List ℕ → ℕ → Method → List Instr → ℕ → Type 0
IsAddress p s bodies row method [] address = address ≡ 0
IsAddress p s bodies row method (instr ∷ instrs) address = HasCode p s bodies row method address

pub record IsMethodDef (p : Program) (s : Store) (bodies : List ℕ) (number : ℕ) (row : Row) : Type 0 where
  pub method : Method
  pub at : slice_get p.methods number ≡ Some method
  pub slot : Slot
  pub slot_at : slice_get p.layout.slots number ≡ Some slot
  pub address : IsAddress p s bodies (method_row p number) method method.code (slice_index row.cells 0)
  pub virtual : has_bit (slice_index row.cells 2 % 2 ^ 16) 6 ≡ slot.is_virtual
  pub new_slot : has_bit (slice_index row.cells 2 % 2 ^ 16) 8 ≡ slot.is_virtual
  pub owner : TypeInfo
  pub owner_at : slice_get p.types method.owner ≡ Some owner
  pub own : List ℕ
  pub name : HasString s.strings (slice_index row.cells 3) own
  pub full : method.name ≡ owner.name ++ codes "::" ++ own
  pub sig : MethodSig
  pub has_sig : HasSig method_sig s.blob (slice_index row.cells 4) sig
  pub sig_is : IsSigOf p method sig

-- the row of the signature of a method's locals
pub record IsLocals (p : Program) (s : Store) (number : ℕ) (row : Row) : Type 0 where
  pub method : Method
  pub at : slice_get p.methods number ≡ Some method
  pub types : List SigType
  pub sig : HasSig locals_sig s.blob (slice_index row.cells 0) types
  pub are : AllZip (IsTypeOf p) method.locals types

-- OVERRIDING

-- the methods that override one of the program, with what they override
abbrev pub pair_of : ℕ → Option Slot → List (ℕ × ℕ)
pair_of number None = []
pair_of number (Some slot) = with slot.overridden
  where
    with : Option ℕ → List (ℕ × ℕ)
    with None = []
    with (Some over) = (number, over) ∷ []

abbrev pub overriding_pairs : Program → List (ℕ × ℕ)
overriding_pairs p = flat_map (λ number. pair_of number (slice_get p.layout.slots number)) p.layout.methods

pub record IsImplRow (p : Program) (pair : ℕ × ℕ) (row : Row) : Type 0 where
  pub class : slice_index row.cells 0 ≡ type_row p (owner_in (slice_get p.methods pair.0))
  pub body : slice_index row.cells 1 ≡ 2 * method_row p pair.0
  pub declaration : slice_index row.cells 2 ≡ 2 * method_row p pair.1

-- TYPES THAT ARE SPELLED

abbrev pub integer_places : List Place
integer_places = places.Bool ∷ places.Char ∷ places.I1 ∷ places.U1 ∷ places.I2 ∷ places.U2 ∷ places.I4 ∷ places.U4 ∷ places.I8 ∷ places.U8 ∷ places.N ∷ places.UN ∷ []

-- all places in the order of their rows
abbrev pub all_places : Program → List Place
all_places p = integer_places ++ map places.Ref (range_with_len 0 (length p.types))

pub record IsSpecRow (p : Program) (s : Store) (place : Place) (row : Row) : Type 0 where
  pub type : SigType
  pub sig : HasSig type_sig s.blob (slice_index row.cells 0) type
  pub is : IsTypeOf p place type

-- ALL

abbrev pub table_in : List (List Row) → ℕ → List Row
table_in rows table = slice_index_or rows table []

-- what tables, heaps and bodies hold of a program
pub record Holds (p : Program) (s : Store) (rows : List (List Row)) (bodies : List ℕ) : Type 0 where
  pub type_refs : AllZip (IsTypeRef s) all_referred (table_in rows 0x01)
  pub type_defs : AreTypeDefs p s (table_in rows 0x02)
  pub fields : AllZip (IsFieldDef p s) (fields_of p p.layout.types) (table_in rows 0x04)
  pub methods : AllZip (IsMethodDef p s bodies) p.layout.methods (table_in rows 0x06)
  pub references : AreReferences p s
  pub references_are : table_in rows 0x0A ≡ s.references
  pub locals : AllZip (IsLocals p s) p.layout.methods (table_in rows 0x11)
  pub impls : AllZip (IsImplRow p) (overriding_pairs p) (table_in rows 0x19)
  pub specs : AllZip (IsSpecRow p s) (all_places p) (table_in rows 0x1B)
  pub no_nested : table_in rows 0x29 ≡ []
