-- What a program's parameters are given, and the default domain.
use Rattle.std.proofs.Common.{◌≡◌, ◌+◌, ◌*◌, ◌≤◌, List, [], ◌∷◌, ◌++◌, Bool, true, false, ◌&&◌, Option, Some, None, Result, Ok, Err, refl, ap, ◌∙◌, arith, length, map, length-append}
use Rattle.std.specs.Prelude.{IfOk, slice_get}
use Rattle.std.specs.List.{AllByRecursion, list_all}
use Rattle.px_program.specs.Arguments.{AreGiven, arguments_of, can_be_given, has_integers, is_integer, is_integer_element}
use Rattle.px_program.specs.Formed.{IsInteger}
use Rattle.px_program.specs.declared.program.Place.{Place}
use Rattle.px_program.specs.declared.program.Place.TheVariants as places
use Rattle.px_program.specs.declared.program.Program.{Program}
use Rattle.px_program.specs.declared.program.TypeInfo.{TypeInfo}
use Rattle.px_domain.specs.declared.domain.Part.{Part}
use Rattle.px_domain.specs.declared.given.Given.{Given}
use Rattle.px_domain.specs.declared.given.Given.TheVariants as givens
use Rattle.px_domain.specs.Domain.{AreParts, IsPart, ranges_of, ranges_of_part, word_count}
use Rattle.px_domain.specs.Givens.{AreFor, IsGiven, element_in, given_by, given_in, given_of, givens_of, whole_domain, whole_part}
use Rattle.px_domain.proofs.Ranges.{count_is, whole_is_range}

both : (a b : Bool) → a && b ≡ true → (a ≡ true) × (b ≡ true)
both true b is = (refl, is)
both false b is = absurd (cc)

integer_is : (place : Place) → is_integer place ≡ true → IsInteger place
integer_is places.Bool is = tt
integer_is places.Char is = tt
integer_is places.I1 is = tt
integer_is places.U1 is = tt
integer_is places.I2 is = tt
integer_is places.U2 is = tt
integer_is places.I4 is = tt
integer_is places.U4 is = tt
integer_is places.I8 is = tt
integer_is places.U8 is = tt
integer_is places.N is = tt
integer_is places.UN is = tt
integer_is (places.Ref type) is = absurd (cc)

element_is : (place : Place) (element : Option Place) → is_integer_element element ≡ true → IsGiven (given_by place element)
element_is place None is = absurd (cc)
element_is place (Some element) is = integer_is element is

array_is : (place : Place) (type : Option TypeInfo) → has_integers type ≡ true → IsGiven (given_by place (element_in type))
array_is place None is = absurd (cc)
array_is place (Some type) is = element_is place type.element is

given_is : (types : List TypeInfo) (place : Place) → can_be_given types place ≡ true → IsGiven (given_of types place)
given_is types places.Bool is = tt
given_is types places.Char is = tt
given_is types places.I1 is = tt
given_is types places.U1 is = tt
given_is types places.I2 is = tt
given_is types places.U2 is = tt
given_is types places.I4 is = tt
given_is types places.U4 is = tt
given_is types places.I8 is = tt
given_is types places.U8 is = tt
given_is types places.N is = tt
given_is types places.UN is = tt
given_is types (places.Ref type) is = array_is (places.Ref type) (slice_get types type) is

all_given : (types : List TypeInfo) (params : List Place) → list_all (can_be_given types) params ≡ true → AllByRecursion IsGiven (map (given_of types) params)
all_given types [] each = tt
all_given types (place ∷ params) each =
    let parts = both (can_be_given types place) (list_all (can_be_given types) params) each in
    (given_is types place parts.0, all_given types params parts.1)

pub givens_are : (program : Program) → AreGiven program.types (arguments_of program) → AllByRecursion IsGiven (givens_of program)
givens_are program are = all_given program.types (arguments_of program) are.each

whole_is : (given : Given) → IsGiven given → IsPart (whole_part given)
whole_is (givens.Integer place) is = (is, whole_is_range place)
whole_is (givens.Array element) is = (omega arith, omega arith, is, whole_is_range element)

wholes_are : (params : List Given) → AllByRecursion IsGiven params → AllByRecursion IsPart (whole_domain params)
wholes_are [] each = tt
wholes_are (given ∷ params) each = (whole_is given each.0, wholes_are params each.1)

whole_count : (given : Given) → word_count (whole_part given) ≤ 4
whole_count (givens.Integer place) = omega arith
whole_count (givens.Array element) = omega arith

whole_counts : (params : List Given) → length (ranges_of (whole_domain params)) ≤ 4 * length params
whole_counts [] = omega arith
whole_counts (given ∷ params) =
    let part : Part = whole_part given in
    let all : length (ranges_of_part part ++ ranges_of (whole_domain params)) ≡ length (ranges_of_part part) + length (ranges_of (whole_domain params)) = length-append (ranges_of_part part) (ranges_of (whole_domain params)) in
    let first : length (ranges_of_part part) ≡ word_count part = count_is part in
    let few : word_count part ≤ 4 = whole_count given in
    let more : length (ranges_of (whole_domain params)) ≤ 4 * length params = whole_counts params in
    omega (arith, all, first, few, more)

pub whole_are : (params : List Given) → length params ≤ 16 → AllByRecursion IsGiven params → AreParts (whole_domain params)
whole_are params few each = record { each = wholes_are params each; few = omega (arith, whole_counts params) }

given_in_whole : (given : Given) → given_in (whole_part given) ≡ given
given_in_whole (givens.Integer place) = refl
given_in_whole (givens.Array element) = refl

givens_in_whole : (params : List Given) → map given_in (whole_domain params) ≡ params
givens_in_whole [] = refl
givens_in_whole (given ∷ params) = ap (λ g. g ∷ map given_in (whole_domain params)) (given_in_whole given) ∙ ap (λ gs. given ∷ gs) (givens_in_whole params)

pub for_whole : {E : Type 0} (result : Result (List Part) E) (program : Program) (params : List Given) → params ≡ givens_of program → IfOk result (λ d. d ≡ whole_domain params) → IfOk result (AreFor program)
for_whole (Ok parts) program params same is = ap (map given_in) is ∙ givens_in_whole params ∙ same
for_whole (Err fault) program params same is = tt
