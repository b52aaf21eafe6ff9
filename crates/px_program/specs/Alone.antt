-- The program of one static method over the types of the library and arrays of integers.
use Rattle.std.specs.Prelude.{List, [], ◌∷◌, ◌++◌, Some, None, map}
use Rattle.px_program.specs.Library.{library_types}
use Rattle.px_program.specs.declared.program.Layout.{Layout}
use Rattle.px_program.specs.declared.program.Method.{Method}
use Rattle.px_program.specs.declared.program.Place.{Place}
use Rattle.px_program.specs.declared.program.Program.{Program}
use Rattle.px_program.specs.declared.program.TypeInfo.{TypeInfo}

-- the array type of elements of a place; it has no name
abbrev pub array_of : Place → TypeInfo
array_of element = record { name = []; base = Some 0; element = Some element; fields = []; statics = []; overrides = [] }

-- the types of the library, and from number 18 on an array type of each place
abbrev pub types_with : List Place → List TypeInfo
types_with elements = library_types ++ map array_of elements

-- nothing that an assembly has
abbrev pub no_layout : Layout
no_layout = record { types = []; methods = []; slots = [] }

-- the program of this method alone
abbrev pub alone : List Place → Method → Program
alone elements method = record { types = types_with elements; methods = method ∷ []; entry = 0; maker = None; layout = no_layout }
