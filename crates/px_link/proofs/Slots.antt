-- What methods override among others.
use Rattle.std.proofs.Common.{◌≡◌, ℕ, ◌+◌, ◌<◌, true, false, List, [], ◌∷◌, ◌++◌, length, get_or, take, Option, Some, None, refl, sym, ap, ◌∙◌, subst}
use Rattle.std.specs.Prelude.{◌||◌, nat_eq}
use Rattle.std.specs.List.{AllZip, list_any, position}
use Rattle.std.proofs.lemmas.Cmp.{nat_eq_equiv}
use Rattle.std.proofs.lemmas.List.{take_more}
use Rattle.std.proofs.lemmas.Slice.Zip.{all_zipped_more}
use Rattle.px_meta.specs.Overriding.{Overrides}
use Rattle.px_meta.specs.Rows.{IsRow, is_in, methods}
use Rattle.px_tables.specs.Metadata.{View}
use Rattle.px_link.specs.Layout.{Behind, Nearest, Nothing, OverridesAmong}
use Rattle.px_link.specs.Placed.{IsOverridden}
use Rattle.px_link.proofs.Overriding.{place_told}

-- what one overrides among some rows, another does
pub record IsWalkTo (v : View) (rows : List ℕ) (method at : ℕ) : Type 0 where
  pub there : IsRow v methods at
  pub among : (found : Option ℕ) → OverridesAmong v rows at found → OverridesAmong v rows method found

-- one of some rows that has a number
pub inside : (rows : List ℕ) (row : ℕ) → list_any (nat_eq row) rows ≡ is_in rows row
inside [] row = refl
inside (other ∷ rows) row = ap (λ b. b || list_any (nat_eq row) rows) (nat_eq_equiv.symm row other) ∙ ap (λ b. nat_eq other row || b) (inside rows row)

pub walk_begun : (v : View) (rows : List ℕ) (method : ℕ) → IsRow v methods method → IsWalkTo v rows method method
walk_begun v rows method there = record { there = there; among = λ found over. over }

pub walk_on : (v : View) (rows : List ℕ) (method at other : ℕ) → IsWalkTo v rows method at → Overrides v at other → IsRow v methods other → is_in rows other ≡ false → IsWalkTo v rows method other
walk_on v rows method at other walk over there outside = record { there = there; among = λ found behind. walk.among found (Behind at other found over outside behind) }

pub walk_found : (v : View) (rows : List ℕ) (method at other number : ℕ) → IsWalkTo v rows method at → Overrides v at other → is_in rows other ≡ true → Some number ≡ position (nat_eq other) rows → IsOverridden v rows method (Some number)
walk_found v rows method at other number walk over inside told = record {
  nearest = Some other;
  among = walk.among (Some other) (Nearest at other over inside);
  is = ap (λ n. Some n) (place_told rows other number told);
}

pub walk_ended : (v : View) (rows : List ℕ) (method at : ℕ) → IsWalkTo v rows method at → ((other : ℕ) → Overrides v at other → ⊥) → IsOverridden v rows method None
walk_ended v rows method at walk none = record { nearest = None; among = walk.among None (Nothing at none); is = refl }

-- one more of two lists side by side
pub zip_more : {X : Type 0} (R : ℕ → X → Type 0) (rows : List ℕ) (i : ℕ) (items news : List X) (x : X) → i < length rows → AllZip R (take i rows) items → R (get_or rows i 0) x → news ≡ items ++ x ∷ [] → AllZip R (take (i + 1) rows) news
zip_more R rows i items news x less so_far is pushed =
    subst (λ l. AllZip R (take (i + 1) rows) l) (sym pushed)
    (subst (λ l. AllZip R l (items ++ x ∷ [])) (sym (take_more rows i 0 less)) (all_zipped_more R (take i rows) items (get_or rows i 0) x so_far is))
