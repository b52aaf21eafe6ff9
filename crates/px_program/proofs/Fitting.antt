-- Bases of types, and which references may stand for which.
use Rattle.std.proofs.Common.{◌≡◌, ◌≢◌, ◌⊎◌, inl, inr, ℕ, zero, suc, ◌+◌, ◌<◌, List, [], ◌∷◌, Option, Some, None, true, false, refl, sym, subst, arith, length}
use Rattle.std.specs.Prelude.{IfSome, IsSome, slice_get}
use Rattle.std.specs.List.{AllByRecursion}
use Rattle.px_program.specs.Formed.{AreTypes, IsBase, IsBehind, IsFormedType, IsKindOf, base_in, base_of, element_in, element_of, has_element, type_in}
use Rattle.px_program.specs.Kinds.{Fits, FitsWithin}
use Rattle.px_program.specs.declared.program.Place.{Place}
use Rattle.px_program.specs.declared.program.TypeInfo.{TypeInfo}
use Rattle.px_program.proofs.Types.{each_at}
use Rattle.px_program.proofs.Walks.{steps_fall, steps_left, way_through}

-- STEPS

within_types : (read : Option TypeInfo → Option ℕ) → read None ≡ None → (types : List TypeInfo) (n m : ℕ) → read (slice_get types n) ≡ Some m → n < length types
within_types read none [] n m is = absurd (cc)
within_types read none (type ∷ types) zero m is = omega arith
within_types read none (type ∷ types) (suc n) m is = let less : n < length types = within_types read none types n m is in omega arith

-- a step to a base leaves fewer
pub base_steps : (types : List TypeInfo) → AreTypes types → (at : ℕ) → steps_left (base_of types) (suc (length types)) (base_of types at) < steps_left (base_of types) (suc (length types)) (Some at)
base_steps types are at = steps_fall (base_of types) (length types) (within_types base_in refl types) are.bases at

pub base_step : (types : List TypeInfo) → AreTypes types → (at base : ℕ) → base_of types at ≡ Some base → steps_left (base_of types) (suc (length types)) (Some base) < steps_left (base_of types) (suc (length types)) (Some at)
base_step types are at base is = subst (λ then. steps_left (base_of types) (suc (length types)) then < steps_left (base_of types) (suc (length types)) (Some at)) is (base_steps types are at)

-- so does a step to the type of an array's elements
pub element_steps : (types : List TypeInfo) → AreTypes types → (at : ℕ) → steps_left (element_of types) (suc (length types)) (element_of types at) < steps_left (element_of types) (suc (length types)) (Some at)
element_steps types are at = steps_fall (element_of types) (length types) (within_types element_in refl types) are.elements at

pub element_step : (types : List TypeInfo) → AreTypes types → (at inner : ℕ) → element_of types at ≡ Some inner → steps_left (element_of types) (suc (length types)) (Some inner) < steps_left (element_of types) (suc (length types)) (Some at)
element_step types are at inner is = subst (λ then. steps_left (element_of types) (suc (length types)) then < steps_left (element_of types) (suc (length types)) (Some at)) is (element_steps types are at)

-- KINDS

pub kind_of_itself : (types : List TypeInfo) (type : ℕ) → IsKindOf types type type
kind_of_itself types type = record { steps = 0; way = refl }

pub kind_through : (types : List TypeInfo) (type between other : ℕ) → IsKindOf types type between → IsKindOf types between other → IsKindOf types type other
kind_through types type between other first second =
    record { steps = first.steps + second.steps; way = way_through (base_of types) first.steps second.steps type between other first.way second.way }

-- a type is a kind of its base
pub kind_of_base : (types : List TypeInfo) (type base : ℕ) → base_of types type ≡ Some base → IsKindOf types type base
kind_of_base types type base is = record { steps = 1; way = (base, is, refl) }

kind_on_by : (types : List TypeInfo) (n type base other : ℕ) → base_of types type ≡ Some base → type ≢ other → IsBehind (base_of types) n type other → IsKindOf types base other
kind_on_by types zero type base other is apart way = absurd (apart way)
kind_on_by types (suc n) type base other is apart way =
    let goes : base_of types type ≡ Some way.0 = way.1 in
    let same : way.0 ≡ base = cc in
    record { steps = n; way = subst (λ from. IsBehind (base_of types) n from other) same way.2 }

-- a kind of another type has a base that is one
pub kind_on : (types : List TypeInfo) (type base other : ℕ) → base_of types type ≡ Some base → type ≢ other → IsKindOf types type other → IsKindOf types base other
kind_on types type base other is apart kind = kind_on_by types kind.steps type base other is apart kind.way

kind_ends_by : (types : List TypeInfo) (n type other : ℕ) → base_of types type ≡ None → IsBehind (base_of types) n type other → type ≡ other
kind_ends_by types zero type other is way = way
kind_ends_by types (suc n) type other is way = let goes : base_of types type ≡ Some way.0 = way.1 in absurd (cc)

-- a type without a base is of no other kind
pub kind_ends : (types : List TypeInfo) (type other : ℕ) → base_of types type ≡ None → IsKindOf types type other → type ≡ other
kind_ends types type other is kind = kind_ends_by types kind.steps type other is kind.way

-- `OBJECT` AND ARRAYS

object_base : (types : List TypeInfo) → AreTypes types → base_of types 0 ≡ None
object_base [] are = refl
object_base (type ∷ types) are = let bases = are.library in cc

object_element : (types : List TypeInfo) → AreTypes types → element_of types 0 ≡ None
object_element [] are = refl
object_element (type ∷ types) are = let none : type.element ≡ None = are.no_arrays.0 in rw none refl

-- what `Object` is a kind of is `Object`
pub object_is_last : (types : List TypeInfo) → AreTypes types → (other : ℕ) → IsKindOf types 0 other → other ≡ 0
object_is_last types are other kind = sym (kind_ends types 0 other (object_base types are) kind)

some_place : (element : Option Place) (inner : ℕ) → type_in element ≡ Some inner → (place : Place) × (element ≡ Some place)
some_place None inner is = absurd (cc)
some_place (Some place) inner is = (place, refl)

is_array : (info : TypeInfo) (place : Place) → info.element ≡ Some place → has_element (Some info) ≡ true
is_array info place is = rw is refl

array_info : (info : Option TypeInfo) (inner : ℕ) → element_in info ≡ Some inner → has_element info ≡ true
array_info None inner is = absurd (cc)
array_info (Some info) inner is = let place = some_place info.element inner is in is_array info place.0 place.1

base_formed : (types : List TypeInfo) (type base : ℕ) (info : Option TypeInfo) → AllByRecursion (IsFormedType types) types → slice_get types type ≡ info → base_in info ≡ Some base → IsBase types base
base_formed types type base None each at is = absurd (cc)
base_formed types type base (Some info) each at is =
    let formed : IsFormedType types info = each_at (IsFormedType types) types each type info at in
    subst (λ o. IfSome o (IsBase types)) is formed.base

-- no array is a base
base_is_no_array : (types : List TypeInfo) → AreTypes types → (type base inner : ℕ) → base_of types type ≡ Some base → element_of types base ≡ Some inner → ⊥
base_is_no_array types are type base inner is element =
    let no : has_element (slice_get types base) ≡ false = (base_formed types type base (slice_get types type) are.each refl is).no_array in
    let yes : has_element (slice_get types base) ≡ true = array_info (slice_get types base) inner element in
    cc

array_base_in : (types : List TypeInfo) (type inner base : ℕ) (info : Option TypeInfo) → AllByRecursion (IsFormedType types) types → slice_get types type ≡ info → element_in info ≡ Some inner → base_in info ≡ Some base → base ≡ 0
array_base_in types type inner base None each at element is = absurd (cc)
array_base_in types type inner base (Some info) each at element is =
    let formed : IsFormedType types info = each_at (IsFormedType types) types each type info at in
    let place = some_place info.element inner element in
    let some : IsSome info.element = rw place.1 refl in
    let base_is : info.base ≡ Some base = is in
    elim (formed.array some).base [ inl none ↦ absurd (cc) | inr object ↦ cc ]

-- an array has no base but `Object`
array_base : (types : List TypeInfo) → AreTypes types → (type inner base : ℕ) → element_of types type ≡ Some inner → base_of types type ≡ Some base → base ≡ 0
array_base types are type inner base element is = array_base_in types type inner base (slice_get types type) are.each refl element is

array_kind_by : (types : List TypeInfo) → AreTypes types → (n type inner other : ℕ) → element_of types type ≡ Some inner → IsBehind (base_of types) n type other → (type ≡ other) ⊎ (other ≡ 0)
array_kind_by types are zero type inner other element way = inl way
array_kind_by types are (suc n) type inner other element way =
    let object : way.0 ≡ 0 = array_base types are type inner way.0 element way.1 in
    inr (object_is_last types are other (record { steps = n; way = subst (λ from. IsBehind (base_of types) n from other) object way.2 }))

-- an array is a kind of itself and of `Object`
pub array_kind : (types : List TypeInfo) → AreTypes types → (type inner other : ℕ) → element_of types type ≡ Some inner → IsKindOf types type other → (type ≡ other) ⊎ (other ≡ 0)
array_kind types are type inner other element kind = array_kind_by types are kind.steps type inner other element kind.way

kind_of_array_by : (types : List TypeInfo) → AreTypes types → (n type array inner : ℕ) → element_of types array ≡ Some inner → IsBehind (base_of types) n type array → type ≡ array
kind_of_array_by types are zero type array inner element way = way
kind_of_array_by types are (suc n) type array inner element way =
    let same : way.0 ≡ array = kind_of_array_by types are n way.0 array inner element way.2 in
    absurd (base_is_no_array types are type array inner (subst (λ base. base_of types type ≡ Some base) same way.1) element)

-- only an array is a kind of it
pub kind_of_array : (types : List TypeInfo) → AreTypes types → (type array inner : ℕ) → element_of types array ≡ Some inner → IsKindOf types type array → type ≡ array
kind_of_array types are type array inner element kind = kind_of_array_by types are kind.steps type array inner element kind.way

-- WHICH FITS

pub fits_kind : (types : List TypeInfo) (type other : ℕ) → IsKindOf types type other → Fits types type other
fits_kind types type other kind = record { layers = 0; within = inr kind }

pub fits_object : (types : List TypeInfo) (type other : ℕ) → other ≡ 0 → Fits types type other
fits_object types type other object = record { layers = 0; within = inl object }

pub fits_itself : (types : List TypeInfo) (type : ℕ) → Fits types type type
fits_itself types type = fits_kind types type type (kind_of_itself types type)

-- arrays fit where their elements do
pub fits_back : (types : List TypeInfo) (type other inner wanted : ℕ) → element_of types type ≡ Some inner → element_of types other ≡ Some wanted → Fits types inner wanted → Fits types type other
fits_back types type other inner wanted from to fits = record { layers = suc fits.layers; within = (inner, wanted, from, to, fits.within) }

within_on : (types : List TypeInfo) (n type other : ℕ) → other ≢ 0 → (IsKindOf types type other → ⊥) → FitsWithin types n type other → (inner : ℕ) × (wanted : ℕ) × (element_of types type ≡ Some inner) × (element_of types other ≡ Some wanted) × Fits types inner wanted
within_on types zero type other some apart fits = absurd (elim fits [ inl object ↦ some object | inr kind ↦ apart kind ])
within_on types (suc n) type other some apart fits = (fits.0, fits.1, fits.2, fits.3, record { layers = n; within = fits.4 })

-- what fits by no base has elements that fit
pub fits_on : (types : List TypeInfo) (type other : ℕ) → other ≢ 0 → (IsKindOf types type other → ⊥) → Fits types type other → (inner : ℕ) × (wanted : ℕ) × (element_of types type ≡ Some inner) × (element_of types other ≡ Some wanted) × Fits types inner wanted
fits_on types type other some apart fits = within_on types fits.layers type other some apart fits.within

-- so arrays that fit by no base have elements that fit
pub fits_inner : (types : List TypeInfo) (type other inner wanted : ℕ) → other ≢ 0 → (IsKindOf types type other → ⊥) → element_of types type ≡ Some inner → element_of types other ≡ Some wanted → Fits types type other → Fits types inner wanted
fits_inner types type other inner wanted some apart from to fits =
    let on = fits_on types type other some apart fits in
    let from_too : element_of types type ≡ Some on.0 = on.2 in
    let to_too : element_of types other ≡ Some on.1 = on.3 in
    let same_from : on.0 ≡ inner = cc in
    let same_to : on.1 ≡ wanted = cc in
    subst (λ n. Fits types n wanted) same_from (subst (λ n. Fits types on.0 n) same_to on.4)

-- where one has no elements, it doesn't fit
pub fits_ends : (types : List TypeInfo) (type other : ℕ) → other ≢ 0 → (IsKindOf types type other → ⊥) → (element_of types type ≡ None) ⊎ (element_of types other ≡ None) → Fits types type other → ⊥
fits_ends types type other some apart ends fits =
    let on = fits_on types type other some apart fits in
    let from : element_of types type ≡ Some on.0 = on.2 in
    let to : element_of types other ≡ Some on.1 = on.3 in
    elim ends [ inl none ↦ absurd (cc) | inr none ↦ absurd (cc) ]

within_through : (types : List TypeInfo) → AreTypes types → (n m type between other : ℕ) → FitsWithin types n type between → FitsWithin types m between other → Fits types type other
within_through types are zero zero type between other first second = elim second [
  | inl object ↦ fits_object types type other object
  | inr kind ↦ elim first [
    | inl object ↦ fits_object types type other (object_is_last types are other (subst (λ from. IsKindOf types from other) object kind))
    | inr before ↦ fits_kind types type other (kind_through types type between other before kind)
  ]
]
within_through types are zero (suc m) type between other first second = elim first [
  | inl object ↦
      let element : element_of types between ≡ Some second.0 = second.2 in
      let none : element_of types between ≡ None = rw object (object_element types are) in
      absurd (cc)
  | inr kind ↦
      let same : type ≡ between = kind_of_array types are type between second.0 second.2 kind in
      record { layers = suc m; within = subst (λ from. FitsWithin types (suc m) from other) (sym same) second }
]
within_through types are (suc n) zero type between other first second = elim second [
  | inl object ↦ fits_object types type other object
  | inr kind ↦ elim (array_kind types are between first.1 other first.3 kind) [
    | inl same ↦ record { layers = suc n; within = subst (λ to. FitsWithin types (suc n) type to) same first }
    | inr object ↦ fits_object types type other object
  ]
]
within_through types are (suc n) (suc m) type between other first second =
    let one : element_of types between ≡ Some first.1 = first.3 in
    let two : element_of types between ≡ Some second.0 = second.2 in
    let same : second.0 ≡ first.1 = cc in
    fits_back types type other first.0 second.1 first.2 second.3
    (within_through types are n m first.0 first.1 second.1 first.4 (subst (λ from. FitsWithin types m from second.1) same second.4))

pub fits_through : (types : List TypeInfo) → AreTypes types → (type between other : ℕ) → Fits types type between → Fits types between other → Fits types type other
fits_through types are type between other first second = within_through types are first.layers second.layers type between other first.within second.within
