-- Where rows stand among others.
use Rattle.std.proofs.Common.{◌≡◌, ◌⊎◌, inl, inr, ℕ, zero, suc, ◌+◌, ◌<◌, ◌≤◌, Bool, true, false, List, [], ◌∷◌, ◌++◌, length, get_or, Option, Some, refl, sym, ap, ◌∙◌, subst, ⊎_elim, arith, eqb-true, eq-eqb}
use Rattle.std.specs.Prelude.{◌==◌, ◌&&◌, ◌||◌, not, filter, find, if◌then◌else◌, slice_get, slice_index_or}
use Rattle.std.specs.List.{AllByRecursion, AllPairs, AllZip, IsDistinct, flat_map, range_with_len, zip}
use Rattle.std.proofs.lemmas.Bool.{and_from, cases_Bool, cases_lt, cond-false, cond-true, cond_both, or_cases, or_left, or_right}
use Rattle.std.proofs.lemmas.Option.{get_or_from_slice_get, same_Some, slice_get_within}
use Rattle.px_meta.specs.Rows.{IsRow, fields, is_in, rows_in}
use Rattle.px_link_methods.specs.Codes.{place_of}
use Rattle.px_program.proofs.Types.{each-append, each_at}
use Rattle.px_tables.specs.Metadata.{View}
use Rattle.px_link_types.specs.Numbers.{instance_fields, is_field_of, is_static_field, static_fields}
use Rattle.px_link_types.proofs.Closed.{each-back, each-front}

-- MEMBERS OF LISTS

place_by : (rows : List ℕ) (other row : ℕ) (first : Bool) → (other == row) ≡ first → (first ≡ false → slice_get rows (place_of rows row) ≡ Some row)
    → slice_get (other ∷ rows) (if first then 0 else 1 + place_of rows row) ≡ Some row
place_by rows other row true e later = ap (λ r. Some r) (eqb-true other row e)
place_by rows other row false e later = let more : 1 + place_of rows row ≡ suc (place_of rows row) = omega arith in subst (λ k. slice_get (other ∷ rows) k ≡ Some row) (sym more) (later refl)

later_one : (first later : Bool) → (first || later) ≡ true → first ≡ false → later ≡ true
later_one true later e f = absurd (cc)
later_one false later e f = e

-- a row stands at its place
pub at_place_of : (rows : List ℕ) (row : ℕ) → is_in rows row ≡ true → slice_get rows (place_of rows row) ≡ Some row
at_place_of [] row there = absurd (cc)
at_place_of (other ∷ rows) row there = place_by rows other row (other == row) refl (λ differs. at_place_of rows row (later_one (other == row) (is_in rows row) there differs))

pub place_below : (rows : List ℕ) (row : ℕ) → is_in rows row ≡ true → place_of rows row < length rows
place_below rows row there = slice_get_within rows (place_of rows row) row (at_place_of rows row there)

pub in_at : (rows : List ℕ) (k row : ℕ) → slice_get rows k ≡ Some row → is_in rows row ≡ true
in_at [] k row at = absurd (cc)
in_at (other ∷ rows) zero row at = let same : other ≡ row = cc in or_left (other == row) (is_in rows row) (eq-eqb other row same)
in_at (other ∷ rows) (suc k) row at = or_right (other == row) (is_in rows row) (in_at rows k row at)

-- FIELDS

in_range : (from n row : ℕ) → from ≤ row → row < from + n → is_in (range_with_len from n) row ≡ true
in_range from zero row some few = absurd (omega arith)
in_range from (suc n) row some few =
    ⊎_elim
    (λ same. or_left (from == row) (is_in (range_with_len (from + 1) n) row) same)
    (λ differs. let apart : from ≡ row → ⊥ = λ e. (let same = eq-eqb from row e in absurd (cc)) in or_right (from == row) (is_in (range_with_len (from + 1) n) row) (in_range (from + 1) n row (omega (arith, apart)) (omega arith)))
    (cases_Bool (from == row))

in_rows : (v : View) (table row : ℕ) → IsRow v table row → is_in (rows_in v table) row ≡ true
in_rows v table row is = in_range 1 _ row is.some (omega (arith, is.few))

kept_by : (p : ℕ → Bool) (x row : ℕ) (xs : List ℕ) (first : Bool) → (x == row) ≡ first → p row ≡ true → (first ≡ false → is_in (filter p xs) row ≡ true) → is_in (filter p (x ∷ xs)) row ≡ true
kept_by p x row xs true e passes later =
    let same : x ≡ row = eqb-true x row e in
    cond_both (p x) (x ∷ filter p xs) (filter p xs) (λ l. is_in l row ≡ true) (λ kept. or_left (x == row) (is_in (filter p xs) row) e) (λ dropped. absurd (let f = subst (λ k. p k ≡ false) same dropped in cc))
kept_by p x row xs false e passes later =
    cond_both (p x) (x ∷ filter p xs) (filter p xs) (λ l. is_in l row ≡ true) (λ kept. or_right (x == row) (is_in (filter p xs) row) (later refl)) (λ dropped. later refl)

-- what is there and passes is kept
pub in_filter : (p : ℕ → Bool) (xs : List ℕ) (row : ℕ) → p row ≡ true → is_in xs row ≡ true → is_in (filter p xs) row ≡ true
in_filter p [] row passes there = absurd (cc)
in_filter p (x ∷ xs) row passes there = kept_by p x row xs (x == row) refl passes (λ differs. in_filter p xs row passes (later_one (x == row) (is_in xs row) there differs))

-- a field is among those of its owner
pub in_instance_fields : (v : View) (owner field : ℕ) → IsRow v fields field → is_field_of v owner field ≡ true → not (is_static_field v field) ≡ true → is_in (instance_fields v owner) field ≡ true
in_instance_fields v owner field is owned kind =
    in_filter (λ f. is_field_of v owner f && not (is_static_field v f)) (rows_in v fields) field (and_from (is_field_of v owner field) (not (is_static_field v field)) owned kind) (in_rows v fields field is)

pub in_static_fields : (v : View) (owner field : ℕ) → IsRow v fields field → is_field_of v owner field ≡ true → is_static_field v field ≡ true → is_in (static_fields v owner) field ≡ true
in_static_fields v owner field is owned kind =
    in_filter (λ f. is_field_of v owner f && is_static_field v f) (rows_in v fields) field (and_from (is_field_of v owner field) (is_static_field v field) owned kind) (in_rows v fields field is)

-- LISTS JOINED

pub each_of_flat_map : {X Y : Type 0} (P : Y → Type 0) (f : X → List Y) (xs : List X) → AllByRecursion P (flat_map f xs) → AllByRecursion (λ x. AllByRecursion P (f x)) xs
each_of_flat_map P f [] each = tt
each_of_flat_map P f (x ∷ xs) each = (each-front P (f x) (flat_map f xs) each, each_of_flat_map P f xs (each-back P (f x) (flat_map f xs) each))

-- what stands at one place of two lists stands there in the list of pairs
pub at_zip : {X Y : Type 0} (xs : List X) (ys : List Y) (k : ℕ) (x : X) (y : Y) → slice_get xs k ≡ Some x → slice_get ys k ≡ Some y → slice_get (zip xs ys) k ≡ Some (x, y)
at_zip [] ys k x y p q = absurd (cc)
at_zip (a ∷ xs) [] k x y p q = absurd (cc)
at_zip (a ∷ xs) (b ∷ ys) zero x y p q = let left : a ≡ x = cc in let right : b ≡ y = cc in cc
at_zip (a ∷ xs) (b ∷ ys) (suc k) x y p q = at_zip xs ys k x y p q

-- what stands beside a place of the first list, and of the second
pub beside : {X Y : Type 0} (R : X → Y → Type 0) (xs : List X) (ys : List Y) → AllZip R xs ys → (k : ℕ) (x : X) → slice_get xs k ≡ Some x → (y : Y) × ((slice_get ys k ≡ Some y) × R x y)
beside R [] ys zipped k x at = absurd (cc)
beside R (a ∷ xs) [] zipped k x at = absurd zipped
beside R (a ∷ xs) (b ∷ ys) zipped zero x at = let same : a ≡ x = cc in (b, (refl, subst (λ z. R z b) same zipped.0))
beside R (a ∷ xs) (b ∷ ys) zipped (suc k) x at = beside R xs ys zipped.1 k x at

-- what holds of all that a list has
pub each_in : (P : ℕ → Type 0) (xs : List ℕ) → ((x : ℕ) → is_in xs x ≡ true → P x) → AllByRecursion P xs
each_in P [] holds = tt
each_in P (x ∷ xs) holds = (holds x (or_left (x == x) (is_in xs x) (eq-eqb x x refl)), each_in P xs (λ y there. holds y (or_right (x == y) (is_in xs y) there)))

in_either : (xs ys : List ℕ) (row : ℕ) → is_in (xs ++ ys) row ≡ true → (is_in xs row ≡ true) ⊎ (is_in ys row ≡ true)
in_either [] ys row there = inr there
in_either (x ∷ xs) ys row there =
    ⊎_elim
    (λ here. inl (or_left (x == row) (is_in xs row) here))
    (λ later. ⊎_elim (λ left. inl (or_right (x == row) (is_in xs row) left)) (λ right. inr right) (in_either xs ys row later))
    (or_cases (x == row) (is_in (xs ++ ys) row) there)

-- what a list joined of others has, one of these has
pub in_flat_map : {X : Type 0} (f : X → List ℕ) (xs : List X) (row : ℕ) → is_in (flat_map f xs) row ≡ true → (k : ℕ) × ((x : X) × ((slice_get xs k ≡ Some x) × (is_in (f x) row ≡ true)))
in_flat_map f [] row there = absurd (cc)
in_flat_map f (x ∷ xs) row there =
    ⊎_elim
    (λ here. (0, (x, (refl, here))))
    (λ later. let found = in_flat_map f xs row later in (suc found.0, found.1))
    (in_either (f x) (flat_map f xs) row there)

-- what holds of all that a list has holds of each
pub one_of_each : (P : ℕ → Type 0) (xs : List ℕ) (row : ℕ) → AllByRecursion P xs → is_in xs row ≡ true → P row
one_of_each P [] row each there = absurd (cc)
one_of_each P (x ∷ xs) row each there =
    ⊎_elim (λ same. subst P (eqb-true x row same) each.0) (λ later. one_of_each P xs row each.1 later) (or_cases (x == row) (is_in xs row) there)

each_flat_map : {X Y : Type 0} (P : Y → Type 0) (f : X → List Y) (xs : List X) → AllByRecursion (λ x. AllByRecursion P (f x)) xs → AllByRecursion P (flat_map f xs)
each_flat_map P f [] each = tt
each_flat_map P f (x ∷ xs) each = each-append P (f x) (flat_map f xs) each.0 (each_flat_map P f xs each.1)

-- what holds of all that the members of a list lead to
pub each_led_to : {Y : Type 0} (P : Y → Type 0) (f : ℕ → List Y) (xs : List ℕ) → ((x : ℕ) → is_in xs x ≡ true → AllByRecursion P (f x)) → AllByRecursion P (flat_map f xs)
each_led_to P f xs holds = each_flat_map P f xs (each_in (λ x. AllByRecursion P (f x)) xs holds)

-- FINDING

found_by : (P : ℕ → Type 0) (p : ℕ → Bool) (x y : ℕ) (rest : Option ℕ) → (p x ≡ true → P x) → (rest ≡ Some y → P y) → (if p x then Some x else rest) ≡ Some y → P y
found_by P p x y rest here later = cond_both (p x) (Some x) rest (λ o. o ≡ Some y → P y) (λ passes is. subst P (same_Some x y is) (here passes)) (λ fails is. later is)

-- what is found in a list is there, and passes
pub found_in : (p : ℕ → Bool) (xs : List ℕ) (row : ℕ) → find p xs ≡ Some row → is_in xs row ≡ true
found_in p [] row found = absurd (cc)
found_in p (x ∷ xs) row found =
    found_by (λ r. is_in (x ∷ xs) r ≡ true) p x row (find p xs) (λ passes. or_left (x == x) (is_in xs x) (eq-eqb x x refl)) (λ later. or_right (x == row) (is_in xs row) (found_in p xs row later)) found

pub found_passes : (p : ℕ → Bool) (xs : List ℕ) (row : ℕ) → find p xs ≡ Some row → p row ≡ true
found_passes p [] row found = absurd (cc)
found_passes p (x ∷ xs) row found = found_by (λ r. p r ≡ true) p x row (find p xs) (λ passes. passes) (λ later. found_passes p xs row later) found

-- a list that has a row among lists, or else none, stands there
pub at_index : (lists : List (List ℕ)) (k row : ℕ) → is_in (slice_index_or lists k []) row ≡ true → slice_get lists k ≡ Some (slice_index_or lists k [])
at_index [] k row there = absurd (cc)
at_index (list ∷ lists) zero row there = refl
at_index (list ∷ lists) (suc k) row there = at_index lists k row there

-- PLACES THAT STAND ONCE, AND IN ORDER

-- what has a place within stands there
pub placed_at : (xs : List ℕ) (x : ℕ) → place_of xs x < length xs → slice_get xs (place_of xs x) ≡ Some x
placed_at [] x within = absurd (omega arith)
placed_at (y ∷ xs) x within =
    cond_both (y == x) 0 (1 + place_of xs x) (λ k. k < length (y ∷ xs) → slice_get (y ∷ xs) k ≡ Some x)
    (λ same few. ap (λ z. Some z) (eqb-true y x same))
    (λ differs few. let more : suc (place_of xs x) ≡ 1 + place_of xs x = omega arith in subst (λ k. slice_get (y ∷ xs) k ≡ Some x) more (placed_at xs x (omega arith)))
    within

-- where each stands once, what stands at a place has that place
pub place_at_once : (xs : List ℕ) (k x : ℕ) → IsDistinct (λ y z. y == z) xs → slice_get xs k ≡ Some x → place_of xs x ≡ k
unfolding IsDistinct
place_at_once [] k x once at = absurd (cc)
place_at_once (y ∷ xs) zero x once at = let same : y ≡ x = cc in cond-true (y == x) 0 (1 + place_of xs x) (eq-eqb y x same)
place_at_once (y ∷ xs) (suc k) x once at =
    let differs : (y == x) ≡ false = each_at (λ z. (y == z) ≡ false) xs once.0 k x at in
    cond-false (y == x) 0 (1 + place_of xs x) differs ∙ (let later = place_at_once xs k x once.1 at in omega arith)

pub places_apart : (xs : List ℕ) (x y : ℕ) → is_in xs x ≡ true → is_in xs y ≡ true → place_of xs x ≡ place_of xs y → x ≡ y
places_apart xs x y there other_there same =
    same_Some x y (sym (at_place_of xs x there) ∙ ap (slice_get xs) same ∙ at_place_of xs y other_there)

-- what goes before another comes before it in a list in order
pub places_rise : (f : ℕ → ℕ) (xs : List ℕ) (x y : ℕ) → AllPairs (λ n later. f n < f later) xs → is_in xs x ≡ true → is_in xs y ≡ true → f x < f y → place_of xs x < place_of xs y
places_rise f xs x y rising there other_there less =
    ⊎_elim (λ before. before)
    (λ behind.
    let at_x = get_or_from_slice_get xs (place_of xs x) x 0 (at_place_of xs x there) in
    let at_y = get_or_from_slice_get xs (place_of xs y) y 0 (at_place_of xs y other_there) in
    ⊎_elim
    (λ after.
    let within = slice_get_within xs (place_of xs x) x (at_place_of xs x there) in
    let turned : f (get_or xs (place_of xs y) 0) < f (get_or xs (place_of xs x) 0) = rising (place_of xs y) (place_of xs x) 0 after within in
    absurd (let back : f y < f x = subst (λ z. f y < f z) at_x (subst (λ z. f z < f (get_or xs (place_of xs x) 0)) at_y turned) in omega arith))
    (λ up_to. absurd (let level : place_of xs x ≡ place_of xs y = omega arith in let same = ap f (places_apart xs x y there other_there level) in omega arith))
    (cases_lt (place_of xs y) (place_of xs x)))
    (cases_lt (place_of xs x) (place_of xs y))

-- LISTS SIDE BY SIDE

pub zip_at : {X Y : Type 0} (R : X → Y → Type 0) (xs : List X) (ys : List Y) → length ys ≡ length xs → ((k : ℕ) (x : X) (y : Y) → slice_get xs k ≡ Some x → slice_get ys k ≡ Some y → R x y) → AllZip R xs ys
zip_at R [] [] size at = tt
zip_at R [] (y ∷ ys) size at = absurd (omega arith)
zip_at R (x ∷ xs) [] size at = absurd (omega arith)
zip_at R (x ∷ xs) (y ∷ ys) size at = (at 0 x y refl refl, zip_at R xs ys (omega arith) (λ k z w p q. at (suc k) z w p q))

pub each_of_all : {X : Type 0} (P : X → Type 0) → ((x : X) → P x) → (xs : List X) → AllByRecursion P xs
each_of_all P holds [] = tt
each_of_all P holds (x ∷ xs) = (holds x, each_of_all P holds xs)
