-- Lists of rows, and of those that stand for them.
use Rattle.std.proofs.Common.{◌≡◌, ℕ, zero, suc, ◌+◌, ◌<◌, Bool, true, false, List, [], ◌∷◌, length, get_or, map, Option, Some, refl, sym, ap, ◌∙◌, subst, ⊎_elim, arith, eqb-true, eq-eqb}
use Rattle.std.specs.Prelude.{◌==◌, filter, find, if◌then◌else◌}
use Rattle.std.specs.List.{AllByRecursion, AllPairs, IsDistinct, flat_map}
use Rattle.std.specs.Option.{option_map}
use Rattle.std.proofs.lemmas.Bool.{cond-true, cond_both, eqb-false, ne_eqb, or_cases, or_left, or_right}
use Rattle.std.proofs.lemmas.List.{get_or-map, length-map}
use Rattle.std.proofs.lemmas.Option.{slice_get-get_or}
use Rattle.px_meta.specs.Rows.{is_in}
use Rattle.px_link_methods.specs.Codes.{place_of}
use Rattle.px_program.proofs.Types.{each_at}
use Rattle.px_link_methods.proofs.RowPlaces.{place_at_once}

-- what is kept passes, and was there
pub kept_passes : (p : ℕ → Bool) (xs : List ℕ) (x : ℕ) → is_in (filter p xs) x ≡ true → (p x ≡ true) × (is_in xs x ≡ true)
kept_passes p [] x there = absurd (cc)
kept_passes p (y ∷ xs) x there =
    cond_both (p y) (y ∷ filter p xs) (filter p xs) (λ l. is_in l x ≡ true → (p x ≡ true) × (is_in (y ∷ xs) x ≡ true))
    (λ passes is.
    ⊎_elim
    (λ same. let e : y ≡ x = eqb-true y x same in (subst (λ z. p z ≡ true) e passes, or_left (y == x) (is_in xs x) same))
    (λ later. let rest = kept_passes p xs x later in (rest.0, or_right (y == x) (is_in xs x) rest.1))
    (or_cases (y == x) (is_in (filter p xs) x) is))
    (λ fails is. let rest = kept_passes p xs x is in (rest.0, or_right (y == x) (is_in xs x) rest.1))
    there

-- where all pass, all are kept
pub all_kept : (p : ℕ → Bool) (xs : List ℕ) → AllByRecursion (λ x. p x ≡ true) xs → filter p xs ≡ xs
all_kept p [] pass = refl
all_kept p (x ∷ xs) pass = cond-true (p x) (x ∷ filter p xs) (filter p xs) pass.0 ∙ ap (λ l. x ∷ l) (all_kept p xs pass.1)

pub each_mapped : (P : ℕ → Type 0) (f : ℕ → ℕ) (xs : List ℕ) → ((x : ℕ) → is_in xs x ≡ true → P (f x)) → AllByRecursion P (map f xs)
each_mapped P f [] holds = tt
each_mapped P f (x ∷ xs) holds = (holds x (or_left (x == x) (is_in xs x) (eq-eqb x x refl)), each_mapped P f xs (λ y there. holds y (or_right (x == y) (is_in xs y) there)))

pub mapped_there : (f : ℕ → ℕ) (xs : List ℕ) (x : ℕ) → is_in xs x ≡ true → is_in (map f xs) (f x) ≡ true
mapped_there f [] x there = absurd (cc)
mapped_there f (y ∷ xs) x there =
    ⊎_elim
    (λ same. or_left (f y == f x) (is_in (map f xs) (f x)) (eq-eqb (f y) (f x) (ap f (eqb-true y x same))))
    (λ later. or_right (f y == f x) (is_in (map f xs) (f x)) (mapped_there f xs x later))
    (or_cases (y == x) (is_in xs x) there)

at_get : (xs : List ℕ) (i d : ℕ) → i < length xs → is_in xs (get_or xs i d) ≡ true
at_get [] i d within = absurd (omega arith)
at_get (x ∷ xs) zero d within = or_left (x == x) (is_in xs x) (eq-eqb x x refl)
at_get (x ∷ xs) (suc i) d within = or_right (x == get_or xs i d) (is_in xs (get_or xs i d)) (at_get xs i d (omega arith))

pub pairs_mapped : (R S : ℕ → ℕ → Type 0) (f : ℕ → ℕ) (xs : List ℕ) → ((x y : ℕ) → is_in xs x ≡ true → is_in xs y ≡ true → R x y → S (f x) (f y)) → AllPairs R xs → AllPairs S (map f xs)
pairs_mapped R S f xs goes all i j d before within =
    let few : j < length xs = omega (arith, length-map xs f) in
    let first_few : i < length xs = omega arith in
    subst (λ x. S x (get_or (map f xs) j d)) (sym (get_or-map f xs i d d first_few))
    (subst (λ y. S (f (get_or xs i d)) y) (sym (get_or-map f xs j d d few))
    (goes (get_or xs i d) (get_or xs j d) (at_get xs i d first_few) (at_get xs j d few) (all i j d before few)))

-- WHERE WHAT STANDS FOR ROWS KEEPS THEM APART

-- the function keeps what is there apart
abbrev pub KeepsApart : (ℕ → Type 0) → (ℕ → ℕ) → Type 0
KeepsApart There f = (x y : ℕ) → There x → There y → f x ≡ f y → x ≡ y

pub same_test : (There : ℕ → Type 0) (f : ℕ → ℕ) → KeepsApart There f → (x y : ℕ) → There x → There y → (f x == f y) ≡ (x == y)
same_test There f apart x y there other_there = by (x == y) refl
  where
    by : (is : Bool) → (x == y) ≡ is → (f x == f y) ≡ is
    by true e = eq-eqb (f x) (f y) (ap f (eqb-true x y e))
    by false e = ne_eqb (f x) (f y) (λ same. eqb-false x y e (apart x y there other_there same))

pub same_place : (There : ℕ → Type 0) (f : ℕ → ℕ) → KeepsApart There f → (xs : List ℕ) (x : ℕ) → AllByRecursion There xs → There x → place_of (map f xs) (f x) ≡ place_of xs x
same_place There f apart [] x each there = refl
same_place There f apart (y ∷ xs) x each there =
    let test = same_test There f apart y x each.0 there in
    let later = same_place There f apart xs x each.1 there in
    cc

-- what is found where the test is the same
found_by : (f : ℕ → ℕ) (x : ℕ) (rest now : Option ℕ) (passes is : Bool) → passes ≡ is → rest ≡ option_map f now → (if passes then Some (f x) else rest) ≡ option_map f (if is then Some x else now)
found_by f x rest now true true e same = refl
found_by f x rest now false false e same = same
found_by f x rest now true false e same = absurd (cc)
found_by f x rest now false true e same = absurd (cc)

pub found_mapped : (f : ℕ → ℕ) (p q : ℕ → Bool) (xs : List ℕ) → AllByRecursion (λ x. q (f x) ≡ p x) xs → find q (map f xs) ≡ option_map f (find p xs)
found_mapped f p q [] same = refl
found_mapped f p q (x ∷ xs) same = found_by f x (find q (map f xs)) (find p xs) (q (f x)) (p x) same.0 (found_mapped f p q xs same.1)

-- what is kept where the test is the same
kept_by : (f : ℕ → ℕ) (x : ℕ) (rest now : List ℕ) (passes is : Bool) → passes ≡ is → rest ≡ map f now → (if passes then f x ∷ rest else rest) ≡ map f (if is then x ∷ now else now)
kept_by f x rest now true true e same = ap (λ l. f x ∷ l) same
kept_by f x rest now false false e same = same
kept_by f x rest now true false e same = absurd (cc)
kept_by f x rest now false true e same = absurd (cc)

pub kept_mapped : (f : ℕ → ℕ) (p q : ℕ → Bool) (xs : List ℕ) → AllByRecursion (λ x. q (f x) ≡ p x) xs → filter q (map f xs) ≡ map f (filter p xs)
kept_mapped f p q [] same = refl
kept_mapped f p q (x ∷ xs) same = kept_by f x (filter q (map f xs)) (filter p xs) (q (f x)) (p x) same.0 (kept_mapped f p q xs same.1)

-- lists joined along what stands for rows
pub joined_mapped : {Y : Type 0} (f : ℕ → ℕ) (one other : ℕ → List Y) (xs : List ℕ) → AllByRecursion (λ x. other (f x) ≡ one x) xs → flat_map other (map f xs) ≡ flat_map one xs
joined_mapped f one other [] same = refl
joined_mapped f one other (x ∷ xs) same = let first = same.0 in let later = joined_mapped f one other xs same.1 in cc

-- where each stands once, what rises with the places rises
pub rises_by_place : (f : ℕ → ℕ) (more : ℕ) (xs : List ℕ) → IsDistinct (λ x y. x == y) xs → AllByRecursion (λ x. f x ≡ place_of xs x + more) xs → AllPairs (λ x later. f x < f later) xs
rises_by_place f more xs once same i j d before within =
    let Same : ℕ → Type 0 = λ x. f x ≡ place_of xs x + more in
    let at = slice_get-get_or xs i d (let few : i < length xs = omega arith in few) in
    let later_at = slice_get-get_or xs j d within in
    let here = each_at Same xs same i (get_or xs i d) at in
    let later = each_at Same xs same j (get_or xs j d) later_at in
    let place = place_at_once xs i (get_or xs i d) once at in
    let later_place = place_at_once xs j (get_or xs j d) once later_at in
    omega arith
