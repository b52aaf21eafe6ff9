-- The types of the library, with arrays or other types behind them, are well formed.
use Rattle.std.proofs.Common.{◌≡◌, inr, ℕ, zero, suc, ◌<◌, List, [], ◌∷◌, ◌++◌, false, Option, Some, None, refl, sym, subst, arith, rules, length, map}
use Rattle.std.specs.Prelude.{IfSome, IsSome, slice_get}
use Rattle.std.specs.List.{AllByRecursion}
use Rattle.px_program.specs.Alone.{array_of, types_with}
use Rattle.px_program.specs.Formed.{AreTypes, FitsPlace, HasEnd, IsArray, IsBare, IsBase, IsFormedType, IsInteger, base_in, base_of, element_in, element_of, has_element}
use Rattle.px_program.specs.Library.{library_types}
use Rattle.px_program.specs.declared.program.Place.{Place}
use Rattle.px_program.specs.declared.program.Place.TheVariants as places
use Rattle.px_program.specs.declared.program.TypeInfo.{TypeInfo}
use Rattle.px_program.proofs.Chains.{AreBelow, AreBelow-append, bases_end, elements_end}

-- EACH OF A LIST

pub each-append : {X : Type 0} (P : X → Type 0) (xs ys : List X) → AllByRecursion P xs → AllByRecursion P ys → AllByRecursion P (xs ++ ys)
each-append P [] ys first more = more
each-append P (x ∷ xs) ys first more = (first.0, each-append P xs ys first.1 more)

pub each-map : {X Y : Type 0} (P : X → Type 0) (Q : Y → Type 0) (f : X → Y) → ((x : X) → P x → Q (f x)) → (xs : List X) → AllByRecursion P xs → AllByRecursion Q (map f xs)
each-map P Q f goes [] each = tt
each-map P Q f goes (x ∷ xs) each = (goes x each.0, each-map P Q f goes xs each.1)

pub each-weaken : {X : Type 0} (P Q : X → Type 0) → ((x : X) → P x → Q x) → (xs : List X) → AllByRecursion P xs → AllByRecursion Q xs
each-weaken P Q goes [] each = tt
each-weaken P Q goes (x ∷ xs) each = (goes x each.0, each-weaken P Q goes xs each.1)

pub each_at : {X : Type 0} (P : X → Type 0) (xs : List X) → AllByRecursion P xs → (place : ℕ) (x : X) → slice_get xs place ≡ Some x → P x
each_at P [] each place x is = absurd (cc)
each_at P (y ∷ xs) each zero x is = let same : y ≡ x = cc in subst P same each.0
each_at P (y ∷ xs) each (suc place) x is = each_at P xs each.1 place x is

-- TYPES

-- a place without references fits any types
pub FitsPlace-integer : (types : List TypeInfo) (place : Place) → IsInteger place → FitsPlace types place
FitsPlace-integer types places.Bool is = tt
FitsPlace-integer types places.Char is = tt
FitsPlace-integer types places.I1 is = tt
FitsPlace-integer types places.U1 is = tt
FitsPlace-integer types places.I2 is = tt
FitsPlace-integer types places.U2 is = tt
FitsPlace-integer types places.I4 is = tt
FitsPlace-integer types places.U4 is = tt
FitsPlace-integer types places.I8 is = tt
FitsPlace-integer types places.U8 is = tt
FitsPlace-integer types places.N is = tt
FitsPlace-integer types places.UN is = tt
FitsPlace-integer types (places.Ref type) is = absurd is

-- an array is well formed where its element is
pub IsFormedType-array : (types : List TypeInfo) (element : Place) → IsBase types 0 → FitsPlace types element → IsFormedType types (array_of element)
IsFormedType-array types element object fits =
    record { base = object; element = fits; array = λ some. record { no_fields = refl; no_statics = refl; base = inr refl }; fields = tt; statics = tt }

-- BEHIND THE LIBRARY

-- a type on a base below 17, without element and fields
record IsPlain (type : TypeInfo) : Type 0 where
  pub base : IfSome type.base (λ base. base < 17)
  pub no_element : type.element ≡ None
  pub no_fields : type.fields ≡ []
  pub no_statics : type.statics ≡ []

library_plain : AllByRecursion IsPlain library_types
library_plain = search rules

no_array : (type : TypeInfo) → type.element ≡ None → has_element (Some type) ≡ false
no_array type none = rw none refl

no_array_at : (types more : List TypeInfo) → AllByRecursion IsPlain types → (type : ℕ) → type < length types → has_element (slice_get (types ++ more) type) ≡ false
no_array_at [] more plain type less = absurd (omega arith)
no_array_at (info ∷ types) more plain zero less = no_array info plain.0.no_element
no_array_at (info ∷ types) more plain (suc type) less = no_array_at types more plain.1 type (omega arith)

-- each type of the library but `String` may be a base
pub IsBase-library : (more : List TypeInfo) (type : ℕ) → type < 17 → IsBase (library_types ++ more) type
IsBase-library more type less =
    record { there = omega arith; other = λ same. absurd (omega arith); no_array = no_array_at library_types more library_plain type (omega arith) }

base_of_library : (more : List TypeInfo) (base : Option ℕ) → IfSome base (λ base. base < 17) → IfSome base (IsBase (library_types ++ more))
base_of_library more None less = tt
base_of_library more (Some base) less = IsBase-library more base less

plain_formed : (more : List TypeInfo) (type : TypeInfo) → IsPlain type → IsFormedType (library_types ++ more) type
plain_formed more type plain =
    record {
      base = base_of_library more type.base plain.base;
      element = subst (λ element. IfSome element (FitsPlace (library_types ++ more))) (sym plain.no_element) tt;
      array = subst (λ element. IsSome element → IsArray type) (sym plain.no_element) (λ some. absurd (cc));
      fields = subst (λ fields. AllByRecursion (FitsPlace (library_types ++ more)) fields) (sym plain.no_fields) tt;
      statics = subst (λ fields. AllByRecursion (FitsPlace (library_types ++ more)) fields) (sym plain.no_statics) tt;
    }

library_formed : (more : List TypeInfo) → AllByRecursion (IsFormedType (library_types ++ more)) library_types
library_formed more = each-weaken IsPlain (IsFormedType (library_types ++ more)) (plain_formed more) library_types library_plain

library_bare : AllByRecursion IsBare library_types
library_bare = each-weaken IsPlain IsBare (λ type plain. record { no_fields = plain.no_fields; no_statics = plain.no_statics }) library_types library_plain

library_bases : AreBelow base_in 0 library_types
library_bases = search rules

library_elements : AreBelow element_in 0 library_types
library_elements = search rules

-- behind the library, well-formed types whose chains end
pub AreTypes-more : (more : List TypeInfo) → AllByRecursion (IsFormedType (library_types ++ more)) more → ((type : ℕ) → HasEnd (base_of (library_types ++ more)) type) → ((type : ℕ) → HasEnd (element_of (library_types ++ more)) type) → AreTypes (library_types ++ more)
AreTypes-more more formed bases elements =
    record {
      library = refl;
      bare = library_bare;
      no_arrays = search rules;
      each = each-append (IsFormedType (library_types ++ more)) library_types more (library_formed more) formed;
      bases = bases;
      elements = elements;
    }

-- behind the library, bases and elements of lower numbers
pub bases_end_behind : (more : List TypeInfo) → AreBelow base_in 18 more → (type : ℕ) → HasEnd (base_of (library_types ++ more)) type
bases_end_behind more below = bases_end (library_types ++ more) (AreBelow-append base_in 0 library_types more library_bases below)

pub elements_end_behind : (more : List TypeInfo) → AreBelow element_in 18 more → (type : ℕ) → HasEnd (element_of (library_types ++ more)) type
elements_end_behind more below = elements_end (library_types ++ more) (AreBelow-append element_in 0 library_types more library_elements below)

-- ARRAYS OF INTEGERS

array_bases : (number : ℕ) (elements : List Place) → 0 < number → AreBelow base_in number (map array_of elements)
array_bases number [] some = tt
array_bases number (element ∷ elements) some = (some, array_bases (suc number) elements (omega arith))

no_type : (element : Place) → IsInteger element → element_in (Some (array_of element)) ≡ None
no_type places.Bool is = refl
no_type places.Char is = refl
no_type places.I1 is = refl
no_type places.U1 is = refl
no_type places.I2 is = refl
no_type places.U2 is = refl
no_type places.I4 is = refl
no_type places.U4 is = refl
no_type places.I8 is = refl
no_type places.U8 is = refl
no_type places.N is = refl
no_type places.UN is = refl
no_type (places.Ref type) is = absurd is

array_elements : (number : ℕ) (elements : List Place) → AllByRecursion IsInteger elements → AreBelow element_in number (map array_of elements)
array_elements number [] integers = tt
array_elements number (element ∷ elements) integers =
    (subst (λ o. IfSome o (λ other. other < number)) (sym (no_type element integers.0)) tt, array_elements (suc number) elements integers.1)

-- the library with arrays of integers
pub AreTypes-types_with : (elements : List Place) → AllByRecursion IsInteger elements → AreTypes (types_with elements)
AreTypes-types_with elements integers =
    let formed : AllByRecursion (IsFormedType (types_with elements)) (map array_of elements) =
    each-map IsInteger (IsFormedType (types_with elements)) array_of
    (λ element is. IsFormedType-array (types_with elements) element (IsBase-library (map array_of elements) 0 (omega arith)) (FitsPlace-integer (types_with elements) element is))
    elements integers in
    AreTypes-more (map array_of elements) formed
    (bases_end_behind (map array_of elements) (array_bases 18 elements (omega arith)))
    (elements_end_behind (map array_of elements) (array_elements 18 elements integers))
