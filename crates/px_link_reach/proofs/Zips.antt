-- Lists that agree, item by item.
use Rattle.std.proofs.Common.{◌≡◌, ℕ, zero, suc, List, [], ◌∷◌, ◌++◌, length, Some, refl, ap, subst}
use Rattle.std.specs.Prelude.{slice_get}
use Rattle.std.specs.List.{AllZip}

pub zip_both : {X Y : Type 0} (R : X → Y → Type 0) (xs : List X) (ys : List Y) (k : ℕ) (x : X) (y : Y) → AllZip R xs ys → slice_get xs k ≡ Some x → slice_get ys k ≡ Some y → R x y
zip_both R [] ys k x y all e f = absurd (cc)
zip_both R (w ∷ xs) [] k x y all e f = absurd all
zip_both R (w ∷ xs) (z ∷ ys) zero x y all e f = let same : w ≡ x = cc in let other : z ≡ y = cc in subst (λ a. R a y) same (subst (R w) other all.0)
zip_both R (w ∷ xs) (z ∷ ys) (suc k) x y all e f = zip_both R xs ys k x y all.1 e f

pub zip_length : {X Y : Type 0} (R : X → Y → Type 0) (xs : List X) (ys : List Y) → AllZip R xs ys → length xs ≡ length ys
zip_length R [] [] all = refl
zip_length R [] (y ∷ ys) all = absurd all
zip_length R (x ∷ xs) [] all = absurd all
zip_length R (x ∷ xs) (y ∷ ys) all = ap suc (zip_length R xs ys all.1)

pub zip_at : {X Y : Type 0} (R : X → Y → Type 0) (xs : List X) (ys : List Y) (k : ℕ) (x : X) → AllZip R xs ys → slice_get xs k ≡ Some x → (y : Y) × R x y
zip_at R [] ys k x all e = absurd (cc)
zip_at R (w ∷ xs) [] k x all e = absurd all
zip_at R (w ∷ xs) (z ∷ ys) zero x all e = let same : w ≡ x = cc in (z, subst (λ a. R a z) same all.0)
zip_at R (w ∷ xs) (z ∷ ys) (suc k) x all e = zip_at R xs ys k x all.1 e

pub zip_next : {X Y : Type 0} (R : X → Y → Type 0) (xs : List X) (ys : List Y) (x : X) (y : Y) → AllZip R xs ys → R x y → AllZip R (xs ++ x ∷ []) (ys ++ y ∷ [])
zip_next R [] [] x y all is = (is, tt)
zip_next R [] (z ∷ ys) x y all is = absurd all
zip_next R (w ∷ xs) [] x y all is = absurd all
zip_next R (w ∷ xs) (z ∷ ys) x y all is = (all.0, zip_next R xs ys x y all.1 is)
