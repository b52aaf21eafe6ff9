-- Events are told apart by their numbers.
use Rattle.std.proofs.Common.{◌≡◌, ℕ, zero, suc, List, [], ◌∷◌, true, refl, sym, ap, ◌∙◌, arith}
use Rattle.std.specs.Prelude.{◌==◌}
use Rattle.px_program.specs.declared.record.SiteKind.{SiteKind}
use Rattle.px_program.specs.declared.record.SiteKind.TheVariants as kinds
use Rattle.px_program.specs.declared.record.Event.{Event}
use Rattle.px_program.specs.Paths.{Path}
use Rattle.px_program.specs.Paths.{kind_number, event_eq, path_eq}

nth : List SiteKind → ℕ → SiteKind
nth [] n = kinds.Shape
nth (k ∷ ks) zero = k
nth (k ∷ ks) (suc n) = nth ks n

abbrev all : List SiteKind
all = kinds.Shape ∷ kinds.Branch ∷ kinds.Switch ∷ kinds.Bounds ∷ kinds.Zero ∷ kinds.Overflow ∷ kinds.Length ∷ kinds.Index ∷ kinds.Assume ∷ kinds.Assert ∷ []

back : (k : SiteKind) → nth all (kind_number k) ≡ k
unfolding nth
back kinds.Shape = refl
back kinds.Branch = refl
back kinds.Switch = refl
back kinds.Bounds = refl
back kinds.Zero = refl
back kinds.Overflow = refl
back kinds.Length = refl
back kinds.Index = refl
back kinds.Assume = refl
back kinds.Assert = refl

pub kind_from_number : (a b : SiteKind) → kind_number a ≡ kind_number b → a ≡ b
kind_from_number a b e = sym (back a) ∙ ap (λ n. nth all n) e ∙ back b

same_number : (n : ℕ) → (n == n) ≡ true
same_number n = grind arith

pub event_eq-refl : (e : Event) → event_eq e e ≡ true
event_eq-refl e = rw (same_number e.site.method, same_number e.site.offset, same_number (kind_number e.site.kind), same_number e.site.arity, same_number e.side) refl

pub path_eq-refl : (p : Path) → path_eq p p ≡ true
path_eq-refl [] = refl
path_eq-refl (e ∷ p) = rw (event_eq-refl e, path_eq-refl p) refl
