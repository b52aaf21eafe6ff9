-- A small program: a class with fields and two methods, one that derives from it and overrides a method, and arrays in each other.
use Rattle.std.specs.Prelude.{ℕ, List, [], ◌∷◌, ◌++◌, codes, true, false, Bool, Option, Some, None}
use Rattle.px_program.specs.Library.{library_types}
use Rattle.px_program.specs.declared.instr.Code.{Code}
use Rattle.px_program.specs.declared.instr.Code.TheVariants.{Outside, Return}
use Rattle.px_program.specs.declared.instr.Instr.{Instr}
use Rattle.px_program.specs.declared.program.Layout.{Layout}
use Rattle.px_program.specs.declared.program.Method.{Method}
use Rattle.px_program.specs.declared.program.Place.{Place}
use Rattle.px_program.specs.declared.program.Place.TheVariants as places
use Rattle.px_program.specs.declared.program.Place.TheVariants.{Ref}
use Rattle.px_program.specs.declared.program.Program.{Program}
use Rattle.px_program.specs.declared.program.Slot.{Slot}
use Rattle.px_program.specs.declared.program.TypeInfo.{TypeInfo}

-- TYPES, from number 18 on: C, arrays of int32, arrays of these, and D on C

-- C has a field of instances and two static ones
abbrev class : TypeInfo
class = record { name = codes "C"; base = Some 0; element = None; fields = places.I4 ∷ []; statics = places.I4 ∷ places.I8 ∷ []; overrides = [] }

abbrev array : Place → TypeInfo
array element = record { name = []; base = Some 0; element = Some element; fields = []; statics = []; overrides = [] }

abbrev derived : TypeInfo
derived = record { name = codes "D"; base = Some 18; element = None; fields = Ref 18 ∷ []; statics = []; overrides = (1, 2) ∷ [] }

abbrev types : List TypeInfo
types = library_types ++ class ∷ array places.I4 ∷ array (Ref 19) ∷ derived ∷ []

-- METHODS

abbrev alone : Code → List Instr
alone made = record { offset = 0; next = 1; code = made } ∷ []

-- static string C::m(int32[][], int32, C)
abbrev pub static_method : Method
static_method = record {
  name = codes "C::m";
  owner = 18;
  is_static = true;
  params = Ref 20 ∷ places.I4 ∷ Ref 18 ∷ [];
  ret = Some (Ref 17);
  locals = [];
  max_stack = 1;
  code = alone Return;
  clauses = [];
}

-- abstract void C::n(bool)
abbrev pub abstract_method : Method
abstract_method = record {
  name = codes "C::n";
  owner = 18;
  is_static = false;
  params = places.Bool ∷ [];
  ret = None;
  locals = [];
  max_stack = 1;
  code = [];
  clauses = [];
}

-- void D::n(bool), which overrides it, and does this
abbrev pub overriding_method : Code → Method
overriding_method made = record {
  name = codes "D::n";
  owner = 21;
  is_static = false;
  params = places.Bool ∷ [];
  ret = None;
  locals = places.I4 ∷ [];
  max_stack = 1;
  code = alone made;
  clauses = [];
}

-- THE PROGRAM

abbrev slot : Bool → Option ℕ → Slot
slot is_virtual overridden = record { is_virtual = is_virtual; overridden = overridden }

abbrev layout : Layout
layout = record { types = 18 ∷ 21 ∷ []; methods = 0 ∷ 1 ∷ 2 ∷ []; slots = slot false None ∷ slot true None ∷ slot true (Some 1) ∷ [] }

abbrev pub program_with : Code → Program
program_with made = record {
  types = types;
  methods = static_method ∷ abstract_method ∷ overriding_method made ∷ [];
  entry = 0;
  maker = None;
  layout = layout;
}

abbrev pub example : Program
example = program_with Return

-- one of whose instructions isn't run
abbrev pub half_run : Program
half_run = program_with (Outside (codes "opcode-0F") 0x0F)
