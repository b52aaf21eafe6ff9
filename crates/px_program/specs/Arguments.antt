-- What a run is given: the parameters of a program's entry, its receiver not among them.
use Rattle.std.specs.Prelude.{◌≡◌, ◌≤◌, List, [], Bool, true, false, Option, Some, None, length, slice_get}
use Rattle.std.specs.List.{list_all}
use Rattle.px_program.specs.Formed.{entry_of}
use Rattle.px_program.specs.declared.program.Method.{Method}
use Rattle.px_program.specs.declared.program.Place.{Place}
use Rattle.px_program.specs.declared.program.Place.TheVariants as places
use Rattle.px_program.specs.declared.program.Program.{Program}
use Rattle.px_program.specs.declared.program.TypeInfo.{TypeInfo}

abbrev pub params_in : Option Method → List Place
params_in None = []
params_in (Some method) = method.params

abbrev pub arguments_of : Program → List Place
arguments_of program = params_in (entry_of program)

abbrev pub is_integer : Place → Bool
is_integer (places.Ref type) = false
is_integer _ = true

abbrev pub is_integer_element : Option Place → Bool
is_integer_element None = false
is_integer_element (Some place) = is_integer place

abbrev pub has_integers : Option TypeInfo → Bool
has_integers None = false
has_integers (Some type) = is_integer_element type.element

-- an integer, or an array of integers
abbrev pub can_be_given : List TypeInfo → Place → Bool
can_be_given types (places.Ref type) = has_integers (slice_get types type)
can_be_given types _ = true

-- what domains are given for: at most sixteen, each an integer or an array of integers
pub record AreGiven (types : List TypeInfo) (params : List Place) : Type 0 where
  pub few : length params ≤ 16
  pub each : list_all (can_be_given types) params ≡ true
