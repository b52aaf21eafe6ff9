-- Lists of reached methods, and those of what stands for them.
use Rattle.std.proofs.Common.{◌≡◌, ℕ, Bool, true, false, List, [], ◌∷◌, ◌++◌, map, Some, refl, sym, ap, ◌∙◌, eqb-true, eq-eqb}
use Rattle.std.specs.Prelude.{◌≢◌, ◌==◌, ◌||◌, if◌then◌else◌, slice_get}
use Rattle.std.specs.List.{AllByRecursion, AllPairs, AllZip, zip}
use Rattle.std.proofs.lemmas.List.{map-append}
use Rattle.std.proofs.lemmas.Bool.{eqb-false, ne_eqb}
use Rattle.px_link_methods.proofs.RowPlaces.{at_place_of, in_at}
use Rattle.px_meta.specs.Rows.{is_in}
use Rattle.px_link_methods.specs.Codes.{place_of}
use Rattle.px_program.proofs.Types.{each-append}
use Rattle.px_link_reach.specs.Finding.{AreIn}
use Rattle.px_link_reach.specs.Met.{add_new, each_once}
use Rattle.px_asm_law_relink.specs.Again.{Again, method_for, methods_for}
use Rattle.px_asm_law_relink.proofs.Standing.{IsReachedRow, methods_apart}
use Rattle.px_link.proofs.OneLists.{place_alone}

-- WITHOUT REPEATS

pub test_by : (a : Again) (other row : ℕ) (same : Bool) → (other == row) ≡ same → IsReachedRow a other → IsReachedRow a row → (method_for a other == method_for a row) ≡ same
test_by a other row true e there reached = eq-eqb (method_for a other) (method_for a row) (ap (method_for a) (eqb-true other row e))
test_by a other row false e there reached = ne_eqb (method_for a other) (method_for a row) (λ same. eqb-false other row e (methods_apart a other row there reached same))

pub in_for : (a : Again) (xs : List ℕ) (row : ℕ) → AreIn a.reads.reached.rows xs → IsReachedRow a row → is_in (methods_for a xs) (method_for a row) ≡ is_in xs row
in_for a [] row all reached = refl
in_for a (x ∷ xs) row all reached =
    ap (λ b. b || is_in (methods_for a xs) (method_for a row)) (test_by a x row (x == row) refl all.0 reached) ∙ ap (λ b. (x == row) || b) (in_for a xs row all.1 reached)

pub added_for : (a : Again) (met xs : List ℕ) → AreIn a.reads.reached.rows met → AreIn a.reads.reached.rows xs → add_new (methods_for a met) (methods_for a xs) ≡ methods_for a (add_new met xs)
added_for a met [] all more = refl
added_for a met (x ∷ xs) all more =
    let In : ℕ → Type 0 = λ row. is_in a.reads.reached.rows row ≡ true in
    ap (λ (b : Bool). if b then add_new (methods_for a met) (methods_for a xs) else add_new (methods_for a met ++ method_for a x ∷ []) (methods_for a xs)) (in_for a met x all more.0)
    ∙ by (is_in met x) (added_for a met xs all more.1)
    (ap (λ l. add_new l (methods_for a xs)) (sym (map-append (method_for a) met (x ∷ []))) ∙ added_for a (met ++ x ∷ []) xs (each-append In met (x ∷ []) all (more.0, tt)) more.1)
  where
    by : (b : Bool) → add_new (methods_for a met) (methods_for a xs) ≡ methods_for a (add_new met xs) → add_new (methods_for a met ++ method_for a x ∷ []) (methods_for a xs) ≡ methods_for a (add_new (met ++ x ∷ []) xs)
        → (if b then add_new (methods_for a met) (methods_for a xs) else add_new (methods_for a met ++ method_for a x ∷ []) (methods_for a xs)) ≡ methods_for a (if b then add_new met xs else add_new (met ++ x ∷ []) xs)
    by true here other = here
    by false here other = other

pub once_for : (a : Again) (xs : List ℕ) → AreIn a.reads.reached.rows xs → each_once (methods_for a xs) ≡ methods_for a (each_once xs)
once_for a xs all = added_for a [] xs tt all

-- PAIRS

pub zip-maps : {X Y Z : Type 0} (f : X → Y) (g : X → Z) (xs : List X) → zip (map f xs) (map g xs) ≡ map (λ x. (f x, g x)) xs
zip-maps f g [] = refl
zip-maps f g (x ∷ xs) = ap (λ l. (f x, g x) ∷ l) (zip-maps f g xs)

pub zip_each : {X Y Z : Type 0} (R : Y → Z → Type 0) (f : X → Y) (g : X → Z) (xs : List X) → AllByRecursion (λ x. R (f x) (g x)) xs → AllZip R (map f xs) (map g xs)
zip_each R f g [] each = tt
zip_each R f g (x ∷ xs) each = (each.0, zip_each R f g xs each.1)

pub zip_map : {X Y Z : Type 0} (R : Y → Z → Type 0) (f : X → Y) (xs : List X) (zs : List Z) → AllZip (λ x z. R (f x) z) xs zs → AllZip R (map f xs) zs
zip_map R f [] [] are = tt
zip_map R f [] (z ∷ zs) are = absurd are
zip_map R f (x ∷ xs) [] are = absurd are
zip_map R f (x ∷ xs) (z ∷ zs) are = (are.0, zip_map R f xs zs are.1)

-- PLACES

-- a row without another of its kind stands at its own place
pub place_at : (rows : List ℕ) (k row : ℕ) → AllPairs ◌≢◌ rows → slice_get rows k ≡ Some row → place_of rows row ≡ k
place_at rows k row apart at = place_alone rows (place_of rows row) k row apart (at_place_of rows row (in_at rows k row at)) at
