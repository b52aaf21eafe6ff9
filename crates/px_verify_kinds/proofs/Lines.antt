-- A type's line is the type and the chain of its bases.
use Rattle.std.proofs.Common.{◌≡◌, ◌⊎◌, inl, inr, ℕ, zero, suc, ◌<◌, ◌≤◌, List, [], ◌∷◌, Option, Some, None, Bool, true, false, refl, sym, ap, ◌∙◌, subst, arith, length}
use Rattle.std.specs.Prelude.{◌==◌, ◌||◌, ◌↔◌, IsTrue, slice_get}
use Rattle.px_program.specs.Bases.{HasBases, IsNearestBase}
use Rattle.px_program.specs.Formed.{AreTypes, IsBehind, IsChain, IsKindOf, base_in, base_of, element_in, element_of}
use Rattle.px_program.specs.Kinds.{Fits, FitsWithin}
use Rattle.px_program.specs.declared.program.TypeInfo.{TypeInfo}
use Rattle.px_program.proofs.Fitting.{fits_back, fits_kind, fits_object, kind_ends, kind_of_base, kind_of_itself, kind_on, kind_through}
use Rattle.px_program.proofs.Leaps.{base_is_one, count_falls, ended_count}
use Rattle.px_program.proofs.Walks.{chain_is_one, chain_is_short}
use Rattle.px_verify_kinds.specs.declared.kind.Kind.{Kind}
use Rattle.px_verify_kinds.specs.declared.kind.Kind.TheVariants as kinds
use Rattle.px_verify_kinds.specs.Kinds.{common, fits, fits_kind as kinds_fit, fits_within, is_in, is_kind_of, line_from, line_of, nearest}

-- cases on a test, with its outcome
pub by_bool : (P : Bool → Type 0) (b : Bool) → (b ≡ true → P true) → (b ≡ false → P false) → P b
by_bool P true holds fails = holds refl
by_bool P false holds fails = fails refl

-- cases on what may be there, with what it is
pub by_option : {X : Type 0} (P : Option X → Type 0) (o : Option X) → (o ≡ None → P None) → ((x : X) → o ≡ Some x → P (Some x)) → P o
by_option P None none some = none refl
by_option P (Some x) none some = some x refl

none_line : (next : ℕ → Option ℕ) (limit : ℕ) → line_from next limit None ≡ []
none_line next zero = refl
none_line next (suc limit) = refl

line_along : (next : ℕ → Option ℕ) (limit at : ℕ) (xs : List ℕ) → IsChain next at xs → length xs < limit → line_from next limit (Some at) ≡ at ∷ xs
line_along next zero at xs chain less = absurd (omega arith)
line_along next (suc limit) at [] chain less = let end : next at ≡ None = chain in rw (end, none_line next limit) refl
line_along next (suc limit) at (x ∷ xs) chain less =
    let goes : next at ≡ Some x = chain.0 in
    let rest : line_from next limit (Some x) ≡ x ∷ xs = line_along next limit x xs chain.1 (omega arith) in
    rw (goes, rest) refl

within_types : (read : Option TypeInfo → Option ℕ) → read None ≡ None → (types : List TypeInfo) (n m : ℕ) → read (slice_get types n) ≡ Some m → n < length types
within_types read none [] n m is = absurd (cc)
within_types read none (type ∷ types) zero m is = omega arith
within_types read none (type ∷ types) (suc n) m is = let less : n < length types = within_types read none types n m is in omega arith

-- a type's line is itself and the chain behind it
pub line_is : (types : List TypeInfo) (are : AreTypes types) (type : ℕ) → line_of types type ≡ type ∷ (are.bases type).behind
line_is types are type =
    let end = are.bases type in
    let short : length end.behind ≤ length types = chain_is_short (base_of types) (length types) (within_types base_in refl types) type end.behind end.chain in
    line_along (base_of types) (suc (length types)) type end.behind end.chain (omega arith)

pub same_is : (n m : ℕ) → (n == m) ≡ true → n ≡ m
same_is n m is = grind arith

pub is_same : (n m : ℕ) → n ≡ m → (n == m) ≡ true
is_same n m is = grind arith

pub apart_is : (n m : ℕ) → (n == m) ≡ false → n ≡ m → ⊥
apart_is n m is same = grind arith

kind_in : (next : ℕ → Option ℕ) (at : ℕ) (xs : List ℕ) (other : ℕ) → IsChain next at xs → is_in (at ∷ xs) other ≡ true → (n : ℕ) × IsBehind next n at other
kind_in next at [] other chain is = by_bool (λ b. (b || false) ≡ true → (n : ℕ) × IsBehind next n at other) (at == other)
    (λ same h. (0, same_is at other same))
    (λ apart h. absurd (cc))
    is
kind_in next at (x ∷ xs) other chain is = by_bool (λ b. (b || is_in (x ∷ xs) other) ≡ true → (n : ℕ) × IsBehind next n at other) (at == other)
    (λ same h. (0, same_is at other same))
    (λ apart h. let rest = kind_in next x xs other chain.1 h in (suc rest.0, (x, chain.0, rest.1)))
    is

in_kind : (next : ℕ → Option ℕ) (n at : ℕ) (xs : List ℕ) (other : ℕ) → IsChain next at xs → IsBehind next n at other → is_in (at ∷ xs) other ≡ true
in_kind next zero at xs other chain way = let same : (at == other) ≡ true = is_same at other way in rw same refl
in_kind next (suc n) at [] other chain way = let goes : next at ≡ Some way.0 = way.1 in let ends : next at ≡ None = chain in absurd (cc)
in_kind next (suc n) at (x ∷ xs) other chain way =
    let goes : next at ≡ Some way.0 = way.1 in
    let to : next at ≡ Some x = chain.0 in
    let same : way.0 ≡ x = cc in
    let rest : is_in (x ∷ xs) other ≡ true = in_kind next n x xs other chain.1 (subst (λ from. IsBehind next n from other) same way.2) in
    by_bool (λ b. (b || is_in (x ∷ xs) other) ≡ true) (at == other) (λ same. refl) (λ apart. rest)

-- the test tells which types are kinds of another
pub kind_is : (types : List TypeInfo) → AreTypes types → (type other : ℕ) → is_kind_of types type other ≡ true → IsKindOf types type other
kind_is types are type other is =
    let end = are.bases type in
    let found = kind_in (base_of types) type end.behind other end.chain (subst (λ line. is_in line other ≡ true) (line_is types are type) is) in
    record { steps = found.0; way = found.1 }

pub is_kind : (types : List TypeInfo) → AreTypes types → (type other : ℕ) → IsKindOf types type other → is_kind_of types type other ≡ true
is_kind types are type other kind =
    let end = are.bases type in
    subst (λ line. is_in line other ≡ true) (sym (line_is types are type)) (in_kind (base_of types) kind.steps type end.behind other end.chain kind.way)

-- FITS

both_false : (a b : Bool) → (a || b) ≡ false → (a ≡ false) × (b ≡ false)
both_false true b h = absurd (cc)
both_false false b h = (refl, h)

fits_no : (types : List TypeInfo) (layers : ℕ) (type other : Option ℕ) → (type ≡ None) ⊎ (other ≡ None) → fits_within types layers type other ≡ false
fits_no types zero type other none = refl
fits_no types (suc layers) None other none = refl
fits_no types (suc layers) (Some type) None none = refl
fits_no types (suc layers) (Some type) (Some other) none = absurd (elim none [ inl h ↦ cc | inr h ↦ cc ])

fits_inside : (types : List TypeInfo) (layers type other : ℕ) → ((inner wanted : ℕ) → fits_within types layers (Some inner) (Some wanted) ≡ true → Fits types inner wanted) → (from to : Option ℕ) → element_of types type ≡ from → element_of types other ≡ to
    → fits_within types layers from to ≡ true → Fits types type other
fits_inside types layers type other rest None to a b e = let never = fits_no types layers None to (inl refl) in absurd (cc)
fits_inside types layers type other rest (Some inner) None a b e = let never = fits_no types layers (Some inner) None (inr refl) in absurd (cc)
fits_inside types layers type other rest (Some inner) (Some wanted) a b e = fits_back types type other inner wanted a b (rest inner wanted e)

fits_yes : (types : List TypeInfo) (are : AreTypes types) (layers type other : ℕ) → fits_within types layers (Some type) (Some other) ≡ true → Fits types type other
fits_yes types are zero type other is = absurd (cc)
fits_yes types are (suc layers) type other is = by_bool (λ b. (b || is_kind_of types type other || fits_within types layers (element_of types type) (element_of types other)) ≡ true → Fits types type other) (other == 0)
    (λ object h. fits_object types type other (same_is other 0 object))
    (λ some h. by_bool (λ b. (b || fits_within types layers (element_of types type) (element_of types other)) ≡ true → Fits types type other) (is_kind_of types type other)
    (λ kind e. fits_kind types type other (kind_is types are type other kind))
    (λ apart e. fits_inside types layers type other (λ inner wanted. fits_yes types are layers inner wanted) (element_of types type) (element_of types other) refl refl e)
    h)
    is

or_last : (a b c : Bool) → c ≡ true → (a || b || c) ≡ true
or_last true b c is = refl
or_last false true c is = refl
or_last false false c is = is

yes_fits : (types : List TypeInfo) (are : AreTypes types) (n limit type other : ℕ) (ys : List ℕ) → IsChain (element_of types) type ys → length ys < limit → FitsWithin types n type other → fits_within types limit (Some type) (Some other) ≡ true
yes_fits types are n zero type other ys chain less fit = absurd (omega arith)
yes_fits types are zero (suc limit) type other ys chain less fit = elim fit [
  | inl object ↦ let same : (other == 0) ≡ true = is_same other 0 object in rw same refl
  | inr kind ↦
      let same : is_kind_of types type other ≡ true = is_kind types are type other kind in
      by_bool (λ b. (b || is_kind_of types type other || fits_within types limit (element_of types type) (element_of types other)) ≡ true) (other == 0) (λ object. refl) (λ some. rw same refl)
]
yes_fits types are (suc n) (suc limit) type other [] chain less fit = let goes : element_of types type ≡ Some fit.0 = fit.2 in let ends : element_of types type ≡ None = chain in absurd (cc)
yes_fits types are (suc n) (suc limit) type other (y ∷ ys) chain less fit =
    let goes : element_of types type ≡ Some fit.0 = fit.2 in
    let to : element_of types type ≡ Some y = chain.0 in
    let same : y ≡ fit.0 = cc in
    let rest : fits_within types limit (Some fit.0) (Some fit.1) ≡ true = yes_fits types are n limit fit.0 fit.1 ys (subst (λ at. IsChain (element_of types) at ys) same chain.1) (omega arith) fit.4 in
    or_last (other == 0) (is_kind_of types type other) (fits_within types limit (element_of types type) (element_of types other)) (rw (goes, fit.3) rest)

-- the test tells which types fit where another is asked for
pub fits_is : (types : List TypeInfo) → AreTypes types → (type other : ℕ) → Fits types type other → fits types type other ≡ true
fits_is types are type other fit =
    let end = are.elements type in
    let short : length end.behind ≤ length types = chain_is_short (element_of types) (length types) (within_types element_in refl types) type end.behind end.chain in
    yes_fits types are fit.layers (suc (length types)) type other end.behind end.chain (omega arith) fit.within

pub is_fit : (types : List TypeInfo) → AreTypes types → (type other : ℕ) → fits types type other ≡ true → Fits types type other
is_fit types are type other is = fits_yes types are (suc (length types)) type other is

-- what answers the question is the test
pub fits_answer : (types : List TypeInfo) → AreTypes types → (type other : ℕ) (answer : Bool) → (IsTrue answer ↔ Fits types type other) → answer ≡ fits types type other
fits_answer types are type other true tells = sym (fits_is types are type other (tells.0 refl))
fits_answer types are type other false tells = by_bool (λ b. fits types type other ≡ b → false ≡ b) (fits types type other) (λ fit h. tells.1 (is_fit types are type other fit)) (λ apart h. refl) refl

-- STEPS ALONG A LINE

pub line_step : (types : List TypeInfo) → AreTypes types → (type base : ℕ) → base_of types type ≡ Some base → line_of types type ≡ type ∷ line_of types base
line_step types are type base is =
    let end = are.bases type in
    let more = are.bases base in
    let whole : end.behind ≡ base ∷ more.behind = chain_is_one (base_of types) type end.behind (base ∷ more.behind) end.chain (is, more.chain) in
    rw (line_is types are type, line_is types are base, whole) refl

pub line_last : (types : List TypeInfo) → AreTypes types → (type : ℕ) → base_of types type ≡ None → line_of types type ≡ type ∷ []
line_last types are type is =
    let end = are.bases type in
    let whole : end.behind ≡ [] = chain_is_one (base_of types) type end.behind [] end.chain is in
    rw (line_is types are type, whole) refl

-- THE WALK TO A COMMON BASE

nearest_on : (type : ℕ) (bases others : List ℕ) → is_in others type ≡ false → nearest (type ∷ bases) others ≡ nearest bases others
nearest_on type bases others apart = rw apart refl

nearest_here : (type : ℕ) (bases others : List ℕ) → is_in others type ≡ true → nearest (type ∷ bases) others ≡ type
nearest_here type bases others here = rw here refl

pub walk_finds : (types : List TypeInfo) → AreTypes types → (at other : ℕ) → is_kind_of types other at ≡ true → nearest (line_of types at) (line_of types other) ≡ at
walk_finds types are at other here = ap (λ line. nearest line (line_of types other)) (line_is types are at) ∙ nearest_here at (are.bases at).behind (line_of types other) here

-- THE NEAREST

-- kinds of each other are one type
kinds_one : (types : List TypeInfo) → AreTypes types → (type other : ℕ) → IsKindOf types type other → IsKindOf types other type → type ≡ other
kinds_one types are type other kind back =
    let has = ended_count types type (are.bases type) in
    let has_too = ended_count types other (are.bases other) in
    let less : has_too.0 ≤ has.0 = count_falls types type other has.0 has_too.0 has.1 kind has_too.1 in
    let more : has.0 ≤ has_too.0 = count_falls types other type has_too.0 has.0 has_too.1 back has.1 in
    let even : has_too.0 ≡ has.0 = omega (arith, less, more) in
    base_is_one types type type other has.0 has.0 has.1 (kind_of_itself types type) kind has.1 (subst (HasBases types other) even has_too.1)

nearest_along : (types : List TypeInfo) → AreTypes types → (other base at : ℕ) (xs : List ℕ) → IsChain (base_of types) at xs → IsKindOf types at base → IsKindOf types other base → ((further : ℕ) → IsKindOf types at further → IsKindOf types other further → IsKindOf types base further)
    → nearest (at ∷ xs) (line_of types other) ≡ base
nearest_along types are other base at [] chain kind shared nearer =
    let ends : base_of types at ≡ None = chain in
    let same : at ≡ base = kind_ends types at base ends kind in
    nearest_here at [] (line_of types other) (is_kind types are other at (subst (IsKindOf types other) (sym same) shared)) ∙ same
nearest_along types are other base at (x ∷ xs) chain kind shared nearer = by_bool (λ b. is_kind_of types other at ≡ b → nearest (at ∷ x ∷ xs) (line_of types other) ≡ base) (is_kind_of types other at)
    (λ _ here.
    let back : IsKindOf types base at = nearer at (kind_of_itself types at) (kind_is types are other at here) in
    nearest_here at (x ∷ xs) (line_of types other) here ∙ kinds_one types are at base kind back)
    (λ _ apart.
    let differ : at ≡ base → ⊥ = λ same. let here : is_kind_of types other at ≡ true = is_kind types are other at (subst (IsKindOf types other) (sym same) shared) in absurd (cc) in
    nearest_on at (x ∷ xs) (line_of types other) apart
    ∙ nearest_along types are other base x xs chain.1 (kind_on types at x base chain.0 differ kind) shared (λ further of_x of_other. nearer further (kind_through types at x further (kind_of_base types at x chain.0) of_x) of_other))
    refl

none_along : (types : List TypeInfo) → AreTypes types → (other at : ℕ) (xs : List ℕ) → IsChain (base_of types) at xs → ((base : ℕ) → IsKindOf types at base → IsKindOf types other base → ⊥) → nearest (at ∷ xs) (line_of types other) ≡ 0
none_along types are other at [] chain none = by_bool (λ b. is_kind_of types other at ≡ b → nearest (at ∷ []) (line_of types other) ≡ 0) (is_kind_of types other at)
    (λ _ here. absurd (none at (kind_of_itself types at) (kind_is types are other at here)))
    (λ _ apart. nearest_on at [] (line_of types other) apart)
    refl
none_along types are other at (x ∷ xs) chain none = by_bool (λ b. is_kind_of types other at ≡ b → nearest (at ∷ x ∷ xs) (line_of types other) ≡ 0) (is_kind_of types other at)
    (λ _ here. absurd (none at (kind_of_itself types at) (kind_is types are other at here)))
    (λ _ apart. nearest_on at (x ∷ xs) (line_of types other) apart ∙ none_along types are other x xs chain.1 (λ base kind shared. none base (kind_through types at x base (kind_of_base types at x chain.0) kind) shared))
    refl

-- the nearest base of both is the one of which all others are bases; without one it is `Object`
pub common_is : (types : List TypeInfo) → AreTypes types → (type other base : ℕ) → IsNearestBase types type other base → base ≡ common types type other
common_is types are type other base is =
    let end = are.bases type in
    sym (ap (λ line. nearest line (line_of types other)) (line_is types are type) ∙ nearest_along types are other base type end.behind end.chain is.of_one is.of_other is.nearest)

pub common_none : (types : List TypeInfo) → AreTypes types → (type other : ℕ) → ((base : ℕ) → IsKindOf types type base → IsKindOf types other base → ⊥) → 0 ≡ common types type other
common_none types are type other none =
    let end = are.bases type in
    sym (ap (λ line. nearest line (line_of types other)) (line_is types are type) ∙ none_along types are other type end.behind end.chain none)

-- references fit by their types
pub fits_refs : (types : List TypeInfo) → AreTypes types → (kind wanted : Kind) (type other : ℕ) (answer : Bool) → kind ≡ kinds.Ref type → wanted ≡ kinds.Ref other → (IsTrue answer ↔ Fits types type other) → answer ≡ kinds_fit types kind wanted
fits_refs types are kind wanted type other answer from to tells = fits_answer types are type other answer tells ∙ sym (ap (λ k. kinds_fit types k wanted) from ∙ ap (λ k. kinds_fit types (kinds.Ref type) k) to)

-- a type's nearest common base with itself is itself
pub common_itself : (types : List TypeInfo) → AreTypes types → (type : ℕ) → common types type type ≡ type
common_itself types are type = walk_finds types are type type (is_kind types are type type (record { steps = 0; way = refl }))

-- only types that are there have bases
pub types_within : (types : List TypeInfo) (n m : ℕ) → base_of types n ≡ Some m → n < length types
types_within types = within_types base_in refl types
