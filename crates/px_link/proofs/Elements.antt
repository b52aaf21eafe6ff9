-- The places of array parameters: what is met is there, and has a type.
use Rattle.std.proofs.Common.{◌≡◌, ℕ, zero, suc, ◌+◌, ◌<◌, ◌≤◌, Bool, true, false, List, [], ◌∷◌, ◌++◌, length, refl, sym, ap, ◌∙◌, subst, arith, map}
use Rattle.std.specs.Prelude.{◌==◌, ◌||◌, if◌then◌else◌, slice_get}
use Rattle.std.specs.List.{AllByRecursion, list_all, list_any}
use Rattle.std.proofs.lemmas.Bool.{and_from}
use Rattle.std.proofs.lemmas.List.{length-append, length-map}
use Rattle.px_program.specs.Alone.{array_of, types_with}
use Rattle.px_program.specs.Arguments.{AreGiven, can_be_given, has_integers, is_integer}
use Rattle.px_program.specs.Formed.{FitsPlace, IsInteger}
use Rattle.px_program.specs.Library.{library_types}
use Rattle.px_program.specs.declared.program.Place.{Place}
use Rattle.px_program.specs.declared.program.Place.TheVariants as places
use Rattle.px_program.specs.declared.program.TypeInfo.{TypeInfo}
use Rattle.px_link.specs.Raw.{elements_from, elements_of, has_place, number_of, param_of, params_of, position, with_place}

either_true : (b : Bool) (r : Bool) → (if b then true else r) ≡ (b || r)
either_true true r = refl
either_true false r = refl

pub has_place_any : (xs : List Place) (place : Place) → has_place xs place ≡ list_any (λ other. number_of other == number_of place) xs
has_place_any [] place = refl
has_place_any (x ∷ xs) place =
    either_true (number_of x == number_of place) (has_place xs place) ∙ ap (λ r. (number_of x == number_of place) || r) (has_place_any xs place)

-- WHAT IS MET IS THERE

or_later : (b r s : Bool) → (r ≡ true → s ≡ true) → (if b then true else r) ≡ true → (if b then true else s) ≡ true
or_later true r s later h = refl
or_later false r s later h = later h

kept_behind : (found : List Place) (place other : Place) → has_place found place ≡ true → has_place (found ++ other ∷ []) place ≡ true
kept_behind [] place other h = absurd (cc)
kept_behind (x ∷ found) place other h = or_later (number_of x == number_of place) (has_place found place) (has_place (found ++ other ∷ []) place) (kept_behind found place other) h

same_number : (n : ℕ) → (n == n) ≡ true
same_number n = grind arith

or_true : (b : Bool) → (if b then true else true) ≡ true
or_true true = refl
or_true false = refl

put_last : (found : List Place) (place : Place) → has_place (found ++ place ∷ []) place ≡ true
put_last [] place = rw (same_number (number_of place)) refl
put_last (x ∷ found) place = rw (put_last found place) (or_true (number_of x == number_of place))

put_by : (found : List Place) (place : Place) (b : Bool) → has_place found place ≡ b → has_place (if b then found else found ++ place ∷ []) place ≡ true
put_by found place true h = h
put_by found place false h = put_last found place

put : (found : List Place) (place : Place) → has_place (with_place found true place) place ≡ true
put found place = put_by found place (has_place found place) refl

kept_by : (found : List Place) (place other : Place) (b : Bool) → has_place found place ≡ true → has_place (if b then found else found ++ other ∷ []) place ≡ true
kept_by found place other true h = h
kept_by found place other false h = kept_behind found place other h

kept : (found : List Place) (is_array : Bool) (place other : Place) → has_place found place ≡ true → has_place (with_place found is_array other) place ≡ true
kept found false place other h = h
kept found true place other h = kept_by found place other (has_place found other) h

kept_on : (found ps : List Place) (arrays : List Bool) (place : Place) → has_place found place ≡ true → has_place (elements_from found ps arrays) place ≡ true
kept_on found [] arrays place h = h
kept_on found (p ∷ ps) [] place h = h
kept_on found (p ∷ ps) (b ∷ arrays) place h = kept_on (with_place found b p) ps arrays place (kept found b place p h)

-- THEY ARE INTEGERS

all_by : (found : List Place) (place : Place) (b : Bool) → AllByRecursion IsInteger found → AllByRecursion IsInteger (found ++ place ∷ []) → AllByRecursion IsInteger (if b then found else found ++ place ∷ [])
all_by found place true h k = h
all_by found place false h k = k

all_behind : (found : List Place) (place : Place) → AllByRecursion IsInteger found → IsInteger place → AllByRecursion IsInteger (found ++ place ∷ [])
all_behind [] place h is = (is, tt)
all_behind (x ∷ found) place h is = (h.0, all_behind found place h.1 is)

all_with : (found : List Place) (is_array : Bool) (place : Place) → AllByRecursion IsInteger found → IsInteger place → AllByRecursion IsInteger (with_place found is_array place)
all_with found false place h is = h
all_with found true place h is = all_by found place (has_place found place) h (all_behind found place h is)

all_on : (found ps : List Place) (arrays : List Bool) → AllByRecursion IsInteger found → AllByRecursion IsInteger ps → AllByRecursion IsInteger (elements_from found ps arrays)
all_on found [] arrays h are = h
all_on found (p ∷ ps) [] h are = h
all_on found (p ∷ ps) (b ∷ arrays) h are = all_on (with_place found b p) ps arrays (all_with found b p h are.0) are.1

pub elements_integers : (ps : List Place) (arrays : List Bool) → AllByRecursion IsInteger ps → AllByRecursion IsInteger (elements_of ps arrays)
elements_integers ps arrays are = all_on [] ps arrays tt are

-- THEY ARE FEW

one_by : (found : List Place) (place : Place) (b : Bool) → length (if b then found else found ++ place ∷ []) ≤ length found + 1
one_by found place true = omega arith
one_by found place false = omega (arith, length-append found (place ∷ []))

one_with : (found : List Place) (is_array : Bool) (place : Place) → length (with_place found is_array place) ≤ length found + 1
one_with found false place = omega arith
one_with found true place = one_by found place (has_place found place)

few_on : (found ps : List Place) (arrays : List Bool) → length (elements_from found ps arrays) ≤ length found + length ps
few_on found [] arrays = omega arith
few_on found (p ∷ ps) [] = omega arith
few_on found (p ∷ ps) (b ∷ arrays) = omega (arith, few_on (with_place found b p) ps arrays, one_with found b p)

pub elements_few : (ps : List Place) (arrays : List Bool) → length (elements_of ps arrays) ≤ length ps
elements_few ps arrays = omega (arith, few_on [] ps arrays)

-- PARAMETERS HAVE TYPES

within_by : (b : Bool) (n m : ℕ) → n < m → (if b then 0 else 1 + n) < 1 + m
within_by true n m h = omega arith
within_by false n m h = omega arith

position_by : (b : Bool) (r : Bool) (n m : ℕ) → (r ≡ true → n < m) → (if b then true else r) ≡ true → (if b then 0 else 1 + n) < suc m
position_by true r n m within h = omega arith
position_by false r n m within h = let w : n < m = within h in omega arith

position_within : (elements : List Place) (place : Place) → has_place elements place ≡ true → position elements place < length elements
position_within [] place h = absurd (cc)
position_within (x ∷ elements) place h = position_by (number_of x == number_of place) (has_place elements place) (position elements place) (length elements) (position_within elements place) h

types_count : (elements : List Place) → length (types_with elements) ≡ 18 + length elements
types_count elements = length-append library_types (map array_of elements) ∙ ap (λ n. 18 + n) (length-map elements array_of)

integer_fits : (types : List TypeInfo) (place : Place) → IsInteger place → FitsPlace types place
integer_fits types (places.Ref type) is = absurd is
integer_fits types _ is = tt

param_fits : (elements : List Place) (is_array : Bool) (place : Place) → IsInteger place → (is_array ≡ true → has_place elements place ≡ true) → FitsPlace (types_with elements) (param_of elements is_array place)
param_fits elements false place is has = integer_fits (types_with elements) place is
param_fits elements true place is has =
    let within : position elements place < length elements = position_within elements place (has refl) in
    omega (arith, types_count elements)

met : (found ps : List Place) (is_array : Bool) (arrays : List Bool) (place : Place) → is_array ≡ true → has_place (elements_from (with_place found is_array place) ps arrays) place ≡ true
met found ps true arrays place e = kept_on (with_place found true place) ps arrays place (put found place)
met found ps false arrays place e = absurd (cc)

all_fit : (elements found ps : List Place) (arrays : List Bool) → AllByRecursion IsInteger ps → ((place : Place) → has_place (elements_from found ps arrays) place ≡ true → has_place elements place ≡ true)
    → AllByRecursion (FitsPlace (types_with elements)) (params_of elements ps arrays)
all_fit elements found [] arrays are has = tt
all_fit elements found (p ∷ ps) [] are has = tt
all_fit elements found (p ∷ ps) (b ∷ arrays) are has =
    (param_fits elements b p are.0 (λ e. has p (met found ps b arrays p e)), all_fit elements (with_place found b p) ps arrays are.1 has)

fit_whole : (ps : List Place) (arrays : List Bool) → AllByRecursion IsInteger ps → AllByRecursion (FitsPlace (types_with (elements_of ps arrays))) (params_of (elements_of ps arrays) ps arrays)
fit_whole ps arrays are = all_fit (elements_of ps arrays) [] ps arrays are (λ place h. h)

-- the parameters fit the types with the arrays of their elements
pub params_fit : (elements params ps : List Place) (arrays : List Bool) → AllByRecursion IsInteger ps → elements ≡ elements_of ps arrays → params ≡ params_of (elements_of ps arrays) ps arrays
    → AllByRecursion (FitsPlace (types_with elements)) params
params_fit elements params ps arrays are elements_are params_are =
    subst (λ es. AllByRecursion (FitsPlace (types_with es)) params) (sym elements_are)
    (subst (λ qs. AllByRecursion (FitsPlace (types_with (elements_of ps arrays))) qs) (sym params_are) (fit_whole ps arrays are))

-- PARAMETERS CAN BE GIVEN

integer_is : (place : Place) → IsInteger place → is_integer place ≡ true
integer_is (places.Ref type) is = absurd is
integer_is _ is = refl

integer_given : (types : List TypeInfo) (place : Place) → IsInteger place → can_be_given types place ≡ true
integer_given types (places.Ref type) is = absurd is
integer_given types _ is = refl

element_at : (elements : List Place) (k : ℕ) → AllByRecursion IsInteger elements → k < length elements → has_integers (slice_get (map array_of elements) k) ≡ true
element_at [] k are less = absurd (omega arith)
element_at (place ∷ elements) zero are less = integer_is place are.0
element_at (place ∷ elements) (suc k) are less = element_at elements k are.1 (omega arith)

behind : (front types : List TypeInfo) (k : ℕ) → slice_get (front ++ types) (length front + k) ≡ slice_get types k
behind [] types k = let same : 0 + k ≡ k = omega arith in ap (slice_get types) same
behind (type ∷ front) types k =
    let same : length (type ∷ front) + k ≡ suc (length front + k) = omega arith in ap (slice_get ((type ∷ front) ++ types)) same ∙ behind front types k

param_given : (elements : List Place) (is_array : Bool) (place : Place) → AllByRecursion IsInteger elements → IsInteger place → (is_array ≡ true → has_place elements place ≡ true)
    → can_be_given (types_with elements) (param_of elements is_array place) ≡ true
param_given elements false place are is has = integer_given (types_with elements) place is
param_given elements true place are is has =
    ap has_integers (behind library_types (map array_of elements) (position elements place)) ∙ element_at elements (position elements place) are (position_within elements place (has refl))

all_given : (elements found ps : List Place) (arrays : List Bool) → AllByRecursion IsInteger elements → AllByRecursion IsInteger ps → ((place : Place) → has_place (elements_from found ps arrays) place ≡ true → has_place elements place ≡ true)
    → list_all (can_be_given (types_with elements)) (params_of elements ps arrays) ≡ true
all_given elements found [] arrays are integers has = refl
all_given elements found (p ∷ ps) [] are integers has = refl
all_given elements found (p ∷ ps) (b ∷ arrays) are integers has =
    and_from (can_be_given (types_with elements) (param_of elements b p)) (list_all (can_be_given (types_with elements)) (params_of elements ps arrays))
    (param_given elements b p are integers.0 (λ e. has p (met found ps b arrays p e))) (all_given elements (with_place found b p) ps arrays are integers.1 has)

params_few : (elements ps : List Place) (arrays : List Bool) → length (params_of elements ps arrays) ≤ length ps
params_few elements [] arrays = omega arith
params_few elements (p ∷ ps) [] = omega arith
params_few elements (p ∷ ps) (b ∷ arrays) = omega (arith, params_few elements ps arrays)

-- the parameters are what can be given, over the types with the arrays of their elements
pub params_given : (elements params ps : List Place) (arrays : List Bool) → AllByRecursion IsInteger ps → length ps ≤ 16 → elements ≡ elements_of ps arrays → params ≡ params_of (elements_of ps arrays) ps arrays
    → AreGiven (types_with elements) params
params_given elements params ps arrays are few elements_are params_are =
    let met_elements = elements_of ps arrays in
    subst (λ es. AreGiven (types_with es) params) (sym elements_are)
    (subst (AreGiven (types_with met_elements)) (sym params_are)
    (record { few = omega (arith, params_few met_elements ps arrays, few); each = all_given met_elements [] ps arrays (elements_integers ps arrays are) are (λ place has. has) }))
