-- What kinds become where they meet, and which fit where.
use Rattle.std.proofs.Common.{◌≡◌, List, [], ◌∷◌, ◌++◌, Some, None, true, false, refl}
use Rattle.px_program.specs.Alone.{array_of}
use Rattle.px_program.specs.Library.{library_types, type_of}
use Rattle.px_program.specs.declared.program.Place.TheVariants as places
use Rattle.px_program.specs.declared.program.TypeInfo.{TypeInfo}
use Rattle.px_verify_kinds.specs.Heights.{met}
use Rattle.px_verify_kinds.specs.Kinds.{common, fits, fits_kind, line_of, merge, merge_kind}
use Rattle.px_verify_kinds.specs.declared.kind.Kind.TheVariants as kinds

-- the types of the library; 18 and 19 are arrays of int32 and of int64, 20 an array of DivideByZeroException, 21 one of Exception, and 22 a class on Exception
types : List TypeInfo
types = library_types ++ array_of places.I4 ∷ array_of places.I8 ∷ array_of (places.Ref 4) ∷ array_of (places.Ref 1) ∷ type_of [] (Some 1) ∷ []

-- LINES

bases_of_overflow : line_of types 5 ≡ 5 ∷ 3 ∷ 2 ∷ 1 ∷ 0 ∷ []
unfolding types
bases_of_overflow = refl

bases_of_array : line_of types 18 ≡ 18 ∷ 0 ∷ []
unfolding types
bases_of_array = refl

-- COMMON BASES

arithmetic : common types 4 5 ≡ 3
unfolding types
arithmetic = refl

class_and_its_base : common types 4 2 ≡ 2
unfolding types
class_and_its_base = refl

base_and_its_class : common types 2 4 ≡ 2
unfolding types
base_and_its_class = refl

class_of_the_program : common types 22 5 ≡ 1
unfolding types
class_of_the_program = refl

arrays_of_different_elements : common types 18 19 ≡ 0
unfolding types
arrays_of_different_elements = refl

arrays_of_a_base : common types 20 21 ≡ 0
unfolding types
arrays_of_a_base = refl

text_and_exception : common types 17 1 ≡ 0
unfolding types
text_and_exception = refl

-- FITS

fits_base : fits types 4 1 ≡ true
unfolding types
fits_base = refl

fits_no_class : fits types 1 4 ≡ false
unfolding types
fits_no_class = refl

array_fits_object : fits types 18 0 ≡ true
unfolding types
array_fits_object = refl

array_fits_array_of_a_base : fits types 20 21 ≡ true
unfolding types
array_fits_array_of_a_base = refl

array_fits_no_other : fits types 21 20 ≡ false
unfolding types
array_fits_no_other = refl

numbers_fit_their_own : fits types 18 19 ≡ false
unfolding types
numbers_fit_their_own = refl

null_fits_array : fits_kind types kinds.Null (kinds.Ref 18) ≡ true
unfolding types
null_fits_array = refl

null_fits_no_number : fits_kind types kinds.Null kinds.I ≡ false
unfolding types
null_fits_no_number = refl

int32_fits_no_native : fits_kind types kinds.I kinds.N ≡ false
unfolding types
int32_fits_no_native = refl

-- MERGES

two_classes : merge types (kinds.Ref 4 ∷ kinds.I ∷ []) (kinds.Ref 5 ∷ kinds.I ∷ []) ≡ Some (kinds.Ref 3 ∷ kinds.I ∷ [])
unfolding types
two_classes = refl

null_and_class : merge types (kinds.Null ∷ []) (kinds.Ref 5 ∷ []) ≡ Some (kinds.Ref 5 ∷ [])
unfolding types
null_and_class = refl

class_and_null : merge types (kinds.Ref 5 ∷ []) (kinds.Null ∷ []) ≡ Some (kinds.Ref 5 ∷ [])
unfolding types
class_and_null = refl

two_arrays : merge types (kinds.Ref 18 ∷ []) (kinds.Ref 19 ∷ []) ≡ Some (kinds.Ref 0 ∷ [])
unfolding types
two_arrays = refl

int32_and_native : merge types (kinds.I ∷ []) (kinds.N ∷ []) ≡ None
unfolding types
int32_and_native = refl

heights : merge types (kinds.I ∷ []) (kinds.I ∷ kinds.I ∷ []) ≡ None
unfolding types
heights = refl

number_and_null : merge_kind types kinds.I kinds.Null ≡ None
unfolding types
number_and_null = refl

-- what doesn't merge leaves what stands
stays : met types (kinds.I ∷ []) (kinds.L ∷ []) ≡ kinds.I ∷ []
unfolding types
stays = refl
