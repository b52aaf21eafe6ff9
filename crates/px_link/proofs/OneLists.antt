-- Lists that have the same at each place, and lists in order that have the same members.
use Rattle.std.proofs.Common.{◌≡◌, ℕ, zero, suc, ◌<◌, true, List, [], ◌∷◌, ◌++◌, length, Some, refl, sym, ◌∙◌, subst, ⊎_elim, eqb-true, arith}
use Rattle.std.specs.Prelude.{◌≢◌, ◌==◌, slice_get}
use Rattle.std.specs.List.{AllPairs, AllZip}
use Rattle.std.proofs.lemmas.Bool.{cases_order, or_cases, or_right}
use Rattle.std.proofs.lemmas.Option.{get_or_from_slice_get, slice_get_within}
use Rattle.px_meta.specs.Rows.{is_in}
use Rattle.px_link_reach.proofs.Reaching.{place_of}
use Rattle.px_link_reach.proofs.Sets.{here}

-- PLACE BY PLACE

-- lists of one length that have the same at each place
pub same_by_items : {X : Type 0} (xs ys : List X) → length xs ≡ length ys → ((k : ℕ) (x y : X) → slice_get xs k ≡ Some x → slice_get ys k ≡ Some y → x ≡ y) → xs ≡ ys
same_by_items [] [] size same = refl
same_by_items [] (y ∷ ys) size same = absurd (omega arith)
same_by_items (x ∷ xs) [] size same = absurd (omega arith)
same_by_items (x ∷ xs) (y ∷ ys) size same =
    let first : x ≡ y = same 0 x y refl refl in
    let later : xs ≡ ys = same_by_items xs ys (omega arith) (λ k z w at other_at. same (suc k) z w at other_at) in
    cc

-- lists beside one list, where there is one thing beside each item
pub same_beside : {X Y : Type 0} (R : X → Y → Type 0) (xs : List X) (ys zs : List Y) → ((x : X) (y z : Y) → R x y → R x z → y ≡ z) → AllZip R xs ys → AllZip R xs zs → ys ≡ zs
same_beside R [] [] [] one are others = refl
same_beside R [] (y ∷ ys) zs one are others = absurd are
same_beside R [] [] (z ∷ zs) one are others = absurd others
same_beside R (x ∷ xs) [] zs one are others = absurd are
same_beside R (x ∷ xs) (y ∷ ys) [] one are others = absurd others
same_beside R (x ∷ xs) (y ∷ ys) (z ∷ zs) one are others =
    let first : y ≡ z = one x y z are.0 others.0 in
    let later : ys ≡ zs = same_beside R xs ys zs one are.1 others.1 in
    cc

-- what stands in the front of a list stands there in the list
pub stays_in_front : (front more : List ℕ) (k row : ℕ) → slice_get front k ≡ Some row → slice_get (front ++ more) k ≡ Some row
stays_in_front [] more k row at = absurd (cc)
stays_in_front (x ∷ front) more zero row at = at
stays_in_front (x ∷ front) more (suc k) row at = stays_in_front front more k row at

one_place : (rows : List ℕ) (i j row : ℕ) → AllPairs ◌≢◌ rows → slice_get rows i ≡ Some row → slice_get rows j ≡ Some row → i < j → ⊥
one_place rows i j row apart at again before =
    apart i j 0 before (slice_get_within rows j row again) (get_or_from_slice_get rows i row 0 at ∙ sym (get_or_from_slice_get rows j row 0 again))

-- in a list without repeats nothing stands at two places
pub place_alone : (rows : List ℕ) (i j row : ℕ) → AllPairs ◌≢◌ rows → slice_get rows i ≡ Some row → slice_get rows j ≡ Some row → i ≡ j
place_alone rows i j row apart at again =
    ⊎_elim (λ same. same)
    (λ differs. ⊎_elim (λ before. absurd (one_place rows i j row apart at again before)) (λ later. absurd (one_place rows j i row apart again at later)) differs)
    (cases_order i j)

-- IN ORDER

-- a relation by which lists are put in order
abbrev pub IsOneWay : (ℕ → ℕ → Type 0) → Type 0
IsOneWay R = (x y : ℕ) → R x y → R y x → ⊥

rest_in_order : (R : ℕ → ℕ → Type 0) (x : ℕ) (xs : List ℕ) → AllPairs R (x ∷ xs) → AllPairs R xs
rest_in_order R x xs order = λ i j d less within. order (suc i) (suc j) d (omega arith) (omega arith)

first_before : (R : ℕ → ℕ → Type 0) (x y : ℕ) (xs : List ℕ) → AllPairs R (x ∷ xs) → is_in xs y ≡ true → R x y
first_before R x y xs order there =
    let place = place_of xs y there in
    let within : place.0 < length xs = slice_get_within xs place.0 y place.1 in
    subst (R x) (get_or_from_slice_get xs place.0 y 0 place.1) (order 0 (suc place.0) 0 (omega arith) (omega arith))

-- the first of a list in order isn't among the others
never_again : (R : ℕ → ℕ → Type 0) (x y : ℕ) (xs : List ℕ) → IsOneWay R → AllPairs R (x ∷ xs) → is_in xs y ≡ true → x ≡ y → ⊥
never_again R x y xs apart order there same =
    let before = first_before R x y xs order there in
    let self : R x x = subst (R x) (sym same) before in
    apart x x self self

abbrev pub AreAmongThese : List ℕ → List ℕ → Type 0
AreAmongThese xs ys = (x : ℕ) → is_in xs x ≡ true → is_in ys x ≡ true

same_first : (R : ℕ → ℕ → Type 0) (x y : ℕ) (xs ys : List ℕ) → IsOneWay R → AllPairs R (x ∷ xs) → AllPairs R (y ∷ ys) → is_in (y ∷ ys) x ≡ true → is_in (x ∷ xs) y ≡ true → x ≡ y
same_first R x y xs ys apart order other_order there other_there =
    ⊎_elim
    (λ same. sym (eqb-true y x same))
    (λ later. ⊎_elim
    (λ same. eqb-true x y same)
    (λ later_too. absurd (apart x y (first_before R x y xs order later_too) (first_before R y x ys other_order later)))
    (or_cases (x == y) (is_in xs y) other_there))
    (or_cases (y == x) (is_in ys x) there)

rest_among : (R : ℕ → ℕ → Type 0) (x y : ℕ) (xs ys : List ℕ) → IsOneWay R → AllPairs R (x ∷ xs) → x ≡ y → AreAmongThese (x ∷ xs) (y ∷ ys) → AreAmongThese xs ys
rest_among R x y xs ys apart order same among z there =
    ⊎_elim
    (λ first. absurd (never_again R x z xs apart order there (same ∙ eqb-true y z first)))
    (λ later. later)
    (or_cases (y == z) (is_in ys z) (among z (or_right (x == z) (is_in xs z) there)))

-- lists in one order that have the same members
pub same_in_order : (R : ℕ → ℕ → Type 0) (xs ys : List ℕ) → IsOneWay R → AllPairs R xs → AllPairs R ys → AreAmongThese xs ys → AreAmongThese ys xs → xs ≡ ys
same_in_order R [] [] apart order other_order among other_among = refl
same_in_order R [] (y ∷ ys) apart order other_order among other_among = let none = other_among y (here ys y) in absurd (cc)
same_in_order R (x ∷ xs) [] apart order other_order among other_among = let none = among x (here xs x) in absurd (cc)
same_in_order R (x ∷ xs) (y ∷ ys) apart order other_order among other_among =
    let first : x ≡ y = same_first R x y xs ys apart order other_order (among x (here xs x)) (other_among y (here ys y)) in
    let later : xs ≡ ys =
    same_in_order R xs ys apart (rest_in_order R x xs order) (rest_in_order R y ys other_order) (rest_among R x y xs ys apart order first among) (rest_among R y x ys xs apart other_order (sym first) other_among) in
    cc
