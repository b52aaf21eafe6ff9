-- What holds of each element of a list at its place.
use Rattle.std.proofs.Common.{◌≡◌, ℕ, zero, suc, List, [], ◌∷◌, Some, subst}
use Rattle.std.specs.Prelude.{slice_get}

abbrev pub AtEach : (ℕ → ℕ → Type 0) → List ℕ → Type 0
AtEach Is [] = Unit {0}
AtEach Is (x ∷ xs) = Is 0 x × AtEach (λ k. Is (suc k)) xs

pub at_each : (Is : ℕ → ℕ → Type 0) (xs : List ℕ) → AtEach Is xs → (k x : ℕ) → slice_get xs k ≡ Some x → Is k x
at_each Is [] all k x at = absurd (cc)
at_each Is (y ∷ ys) all zero x at = let same : y ≡ x = cc in subst (Is 0) same all.0
at_each Is (y ∷ ys) all (suc k) x at = at_each (λ n. Is (suc n)) ys all.1 k x at
