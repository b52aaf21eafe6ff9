-- What is so of a program that was linked and runs whole, in its own terms: what it takes to write it.
use Rattle.std.specs.Prelude.{◌≡◌, ◌≢◌, ℕ, ◌≤◌, ◌<◌, List, ◌++◌, codes, length, All, IsUtf8, IfSome, Option, Some, None, true, slice_get}
use Rattle.std.specs.List.{AllByRecursion, AllPairs, IsDistinct}
use Rattle.std.specs.Prelude.{◌==◌, ◌⊎◌}
use Rattle.px_meta.specs.Rows.{is_in}
use Rattle.px_link_methods.specs.Codes.{place_of}
use Rattle.px_program.specs.Formed.{IsWellFormed}
use Rattle.px_program.specs.declared.instr.Instr.{Instr}
use Rattle.px_program.specs.declared.program.Clause.{Clause}
use Rattle.px_program.specs.declared.program.Method.{Method}
use Rattle.px_program.specs.declared.program.Program.{Program}
use Rattle.px_program.specs.declared.program.Slot.{Slot}
use Rattle.px_program.specs.declared.program.TypeInfo.{TypeInfo}
use Rattle.px_asm_opcodes.specs.Recoding.{HasRaw, token_opcode}

-- a text that a heap of strings can have
pub record IsText (text : List ℕ) : Type 0 where
  pub no_zero : All (λ byte. byte ≢ 0) text
  pub utf8 : IsUtf8 text

-- the type of a number is one of the assembly: behind those of the library, and no array
pub record IsAssemblyType (p : Program) (type : ℕ) : Type 0 where
  pub behind : 18 ≤ type
  pub info : TypeInfo
  pub at : slice_get p.types type ≡ Some info
  pub no_array : info.element ≡ None
  pub name : IsText info.name
  pub base : IfSome info.base (λ base. (base < 17) ⊎ ((18 ≤ base) × (is_in p.layout.types base ≡ true)))

-- a method of a type of the assembly, with its own name behind the owner's
pub record HasOwner (p : Program) (method : Method) : Type 0 where
  pub among : is_in p.layout.types method.owner ≡ true
  pub owner : TypeInfo
  pub at : slice_get p.types method.owner ≡ Some owner
  pub own : List ℕ
  pub text : IsText own
  pub name : method.name ≡ owner.name ++ codes "::" ++ own

-- a clause whose ranges aren't empty, for a class of the library or of the assembly
pub record IsWritableClause (p : Program) (clause : Clause) : Type 0 where
  pub tried : clause.from < clause.to
  pub handled : clause.start < clause.stop
  pub class : IfSome clause.class (λ class. (class < 18) ⊎ (is_in p.layout.types class ≡ true))

abbrev pub owner_in : Option Method → ℕ
owner_in None = 0
owner_in (Some method) = method.owner

-- where the owner of a method stands among the types of the assembly
abbrev pub owner_place : Program → ℕ → ℕ
owner_place p number = place_of p.layout.types (owner_in (slice_get p.methods number))

pub record IsWritable (p : Program) : Type 0 where
  pub formed : IsWellFormed p
  pub types : AllByRecursion (IsAssemblyType p) p.layout.types
  pub all_types : (type : ℕ) (info : TypeInfo) → 18 ≤ type → slice_get p.types type ≡ Some info → info.element ≡ None → is_in p.layout.types type ≡ true
  pub types_once : IsDistinct (λ type other. type == other) p.layout.types
  pub methods_count : length p.layout.methods ≡ length p.methods
  pub methods : AllByRecursion (λ number. number < length p.methods) p.layout.methods
  pub methods_once : IsDistinct (λ number other. number == other) p.layout.methods
  pub owners : AllByRecursion (HasOwner p) p.methods
  pub by_owner : AllPairs (λ number later. owner_place p number ≤ owner_place p later) p.layout.methods
  pub slots_count : length p.layout.slots ≡ length p.methods
  pub slots : AllByRecursion (λ (slot : Slot). IfSome slot.overridden (λ over. over < length p.methods)) p.layout.slots
  pub raws : AllByRecursion (λ (method : Method). AllByRecursion (λ (instr : Instr). HasRaw (token_opcode instr.code) instr) method.code) p.methods
  pub clauses : AllByRecursion (λ (method : Method). AllByRecursion (IsWritableClause p) method.clauses) p.methods
