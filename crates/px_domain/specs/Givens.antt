-- What a program's parameters are for domains.
use Rattle.std.specs.Prelude.{◌≡◌, List, Option, Some, None, map, slice_get, true}
use Rattle.px_program.specs.Arguments.{arguments_of}
use Rattle.px_program.specs.Formed.{IsInteger}
use Rattle.px_program.specs.declared.program.Place.{Place}
use Rattle.px_program.specs.declared.program.Place.TheVariants as places
use Rattle.px_program.specs.declared.program.Program.{Program}
use Rattle.px_program.specs.declared.program.TypeInfo.{TypeInfo}
use Rattle.px_domain.specs.declared.domain.Part.{Part}
use Rattle.px_domain.specs.declared.domain.Part.TheVariants.{Scalar, Array}
use Rattle.px_domain.specs.declared.given.Given.{Given}
use Rattle.px_domain.specs.declared.given.Given.TheVariants as givens
use Rattle.px_domain.specs.Place.{low_end, high_end}

-- what an array of the type holds
abbrev pub element_in : Option TypeInfo → Option Place
element_in None = None
element_in (Some type) = type.element

-- a reference to an array is given by its elements
abbrev pub given_by : Place → Option Place → Given
given_by place None = givens.Integer place
given_by place (Some element) = givens.Array element

abbrev pub given_of : List TypeInfo → Place → Given
given_of types (places.Ref type) = given_by (places.Ref type) (element_in (slice_get types type))
given_of types place = givens.Integer place

abbrev pub givens_of : Program → List Given
givens_of program = map (given_of program.types) (arguments_of program)

-- an integer, or an array of integers
abbrev pub IsGiven : Given → Type 0
IsGiven (givens.Integer place) = IsInteger place
IsGiven (givens.Array element) = IsInteger element

-- what a part is for
abbrev pub given_in : Part → Given
given_in (Scalar place low high) = givens.Integer place
given_in (Array element null from to low high) = givens.Array element

-- there is one part for each parameter of the program's entry, in order
abbrev pub AreFor : Program → List Part → Type 0
AreFor program parts = map given_in parts ≡ givens_of program

-- the whole type of an integer, and an array that is null or has up to three of them
abbrev pub whole_part : Given → Part
whole_part (givens.Integer place) = Scalar place (low_end place) (high_end place)
whole_part (givens.Array element) = Array element true 0 3 (low_end element) (high_end element)

abbrev pub whole_domain : List Given → List Part
whole_domain params = map whole_part params
