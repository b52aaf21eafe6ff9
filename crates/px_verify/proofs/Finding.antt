-- Tests of lists, and what is found in them.
use Rattle.std.proofs.Common.{◌≡◌, Bool, true, false, ◌&&◌, ◌||◌, cond, List, [], ◌∷◌, Option, Some, None, refl, subst}
use Rattle.std.specs.Prelude.{find}
use Rattle.std.specs.List.{AllByRecursion, flat_map, list_all, list_any}
use Rattle.px_program.proofs.Types.{each-append}
pub use Rattle.px_verify_kinds.proofs.Lines.{by_bool}

pub by_option : {X : Type 0} (P : Option X → Type 0) (o : Option X) → (o ≡ None → P None) → ((x : X) → o ≡ Some x → P (Some x)) → P o
by_option P None where_none where_some = where_none refl
by_option P (Some x) where_none where_some = where_some x refl

pub or_false : (a b : Bool) → (a || b) ≡ false → (a ≡ false) × (b ≡ false)
or_false true b is = absurd (cc)
or_false false b is = (refl, is)

pub and_false : (a b : Bool) → (a && b) ≡ false → a ≡ true → b ≡ false
and_false true b is holds = is
and_false false b is holds = absurd (cc)

pub and_true : (a b : Bool) → (a && b) ≡ true → (a ≡ true) × (b ≡ true)
and_true true b is = (refl, is)
and_true false b is = absurd (cc)

-- ALL OF A LIST

pub each_true : {X : Type 0} (test : X → Bool) (xs : List X) → list_all test xs ≡ true → AllByRecursion (λ x. test x ≡ true) xs
each_true test [] is = tt
each_true test (x ∷ xs) is = let both = and_true (test x) (list_all test xs) is in (both.0, each_true test xs both.1)

pub each_false : {X : Type 0} (test : X → Bool) (xs : List X) → list_any test xs ≡ false → AllByRecursion (λ x. test x ≡ false) xs
each_false test [] is = tt
each_false test (x ∷ xs) is = let both = or_false (test x) (list_any test xs) is in (both.0, each_false test xs both.1)

pub each_flat : {X Y : Type 0} (P : Y → Type 0) (f : X → List Y) (xs : List X) → AllByRecursion (λ x. AllByRecursion P (f x)) xs → AllByRecursion P (flat_map f xs)
each_flat P f [] each = tt
each_flat P f (x ∷ xs) each = each-append P (f x) (flat_map f xs) each.0 (each_flat P f xs each.1)

-- WHAT IS FOUND

pub found_where_any : {X : Type 0} (test : X → Bool) (xs : List X) → list_any test xs ≡ true → (x : X) × (find test xs ≡ Some x)
found_where_any test [] is = absurd (cc)
found_where_any {X} test (y ∷ xs) is =
    by_bool (λ b. (b || list_any test xs) ≡ true → (x : X) × (cond b (Some y) (find test xs) ≡ Some x)) (test y) (λ _ _. (y, refl)) (λ _ any. found_where_any test xs any) is

pub found_has : {X : Type 0} (test : X → Bool) (xs : List X) (x : X) → find test xs ≡ Some x → test x ≡ true
found_has test [] x is = absurd (cc)
found_has {X} test (y ∷ xs) x is =
    by_bool (λ b. test y ≡ b → cond b (Some y) (find test xs) ≡ Some x → test x ≡ true) (test y)
    (λ _ holds here. let same : y ≡ x = cc in rw same at holds)
    (λ _ _ later. found_has test xs x later) refl is

pub each_found : {X : Type 0} (P : X → Type 0) (test : X → Bool) (xs : List X) → AllByRecursion P xs → (x : X) → find test xs ≡ Some x → P x
each_found P test [] each x is = absurd (cc)
each_found P test (y ∷ xs) each x is =
    by_bool (λ b. cond b (Some y) (find test xs) ≡ Some x → P x) (test y)
    (λ _ here. let same : y ≡ x = cc in subst P same each.0)
    (λ _ later. each_found P test xs each.1 x later) is
