-- The program of a raw body: one static method whose body the bytes begin with. No token of it names anything.
use Rattle.std.specs.Prelude.{◌≡◌, ℕ, ◌+◌, List, [], ◌∷◌, ◌++◌, ◌==◌, Bool, true, false, if◌then◌else◌, codes, Some, None, Ok, map}
use Rattle.px_code.specs.declared.body.RawInstr.{RawInstr}
use Rattle.px_code.specs.declared.body.Body.{Body}
use Rattle.px_code.specs.Body.{body_of}
use Rattle.px_program.specs.Alone.{alone}
use Rattle.px_program.specs.declared.instr.Instr.{Instr}
use Rattle.px_link_methods.specs.Methods.{clause_of}
use Rattle.px_program.specs.declared.program.Place.{Place}
use Rattle.px_program.specs.declared.program.Place.TheVariants as places
use Rattle.px_program.specs.declared.program.Method.{Method}
use Rattle.px_program.specs.declared.program.Program.{Program}
use Rattle.px_link_opcodes.specs.Opcodes.{known_or_outside, plain_code}

abbrev pub instr_of : RawInstr → Instr
instr_of raw = record { offset = raw.offset; next = raw.next; code = known_or_outside raw.opcode (plain_code raw) }

-- the number of a place among others, in their order
abbrev pub number_of : Place → ℕ
number_of places.Bool = 0
number_of places.Char = 1
number_of places.I1 = 2
number_of places.U1 = 3
number_of places.I2 = 4
number_of places.U2 = 5
number_of places.I4 = 6
number_of places.U4 = 7
number_of places.I8 = 8
number_of places.U8 = 9
number_of places.N = 10
number_of places.UN = 11
number_of (places.Ref type) = 12 + type

-- where a place stands in a list, and the list's length where it doesn't
abbrev pub position : List Place → Place → ℕ
position [] place = 0
position (other ∷ others) place = if number_of other == number_of place then 0 else 1 + position others place

abbrev pub has_place : List Place → Place → Bool
has_place [] place = false
has_place (other ∷ others) place = if number_of other == number_of place then true else has_place others place

abbrev pub with_place : List Place → Bool → Place → List Place
with_place found false place = found
with_place found true place = if has_place found place then found else found ++ place ∷ []

-- the places of elements behind some that were found, each once, as they are met
abbrev pub elements_from : List Place → List Place → List Bool → List Place
elements_from found (place ∷ places) (is_array ∷ arrays) = elements_from (with_place found is_array place) places arrays
elements_from found _ _ = found

-- the places of elements of the parameters that are arrays, each once, as they are met
abbrev pub elements_of : List Place → List Bool → List Place
elements_of places arrays = elements_from [] places arrays

-- an array's type has a number behind those of the library, in the order of the elements
abbrev pub param_of : List Place → Bool → Place → Place
param_of elements false place = place
param_of elements true place = places.Ref (18 + position elements place)

abbrev pub params_of : List Place → List Place → List Bool → List Place
params_of elements (place ∷ places) (is_array ∷ arrays) = param_of elements is_array place ∷ params_of elements places arrays
params_of elements _ _ = []

-- the static method of this name with these parameters that returns an int32
abbrev pub method_of : List ℕ → Body → List Place → Method
method_of name body params = record {
  name = name;
  owner = 0;
  is_static = true;
  params = params;
  ret = Some places.I4;
  locals = [];
  max_stack = body.max_stack;
  code = map instr_of body.code;
  clauses = map (clause_of None) body.clauses;
}

-- the program of a raw body; a parameter with `true` is an array of its place
abbrev pub program_of : Body → List Place → List Bool → Program
program_of body places arrays = let elements = elements_of places arrays in alone elements (method_of (codes "raw") body (params_of elements places arrays))

-- the program is that of the body which the bytes begin with
pub record ReadsRaw (bytes : List ℕ) (places : List Place) (arrays : List Bool) (program : Program) : Type 0 where
  pub body : Body
  pub read : body_of bytes ≡ Ok body
  pub no_locals : body.locals_token ≡ 0
  pub same : program_of body places arrays ≡ program
