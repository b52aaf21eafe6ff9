-- A method is added to the lists of all that it overrides, going up from one to the next.
use Rattle.std.proofs.Common.{◌≡◌, ◌⊎◌, ℕ, List, [], ◌∷◌, ◌++◌, length, refl, ap, ◌∙◌, subst, inl, inr, ⊎_elim}
use Rattle.std.proofs.lemmas.Bool.{cases_eq}
use Rattle.px_meta.specs.Faults.{IsFaultless}
use Rattle.px_meta.specs.Overriding.{Overrides}
use Rattle.px_meta.specs.Rows.{IsRow, methods}
use Rattle.px_tables.specs.Metadata.{View}
use Rattle.px_link_reach.specs.Overriders.{Directly, OverridesThrough, Through, overriders_in}
use Rattle.px_link_reach.specs.Parts.{AreAdded, IsAdded}
use Rattle.px_link_reach.proofs.Chains.{never_itself, none_through, through_parent}

-- the row stands at the end of the list already, or the list's method is still to come
pub record IsDone (v : View) (row at method : ℕ) (old new : List ℕ) : Type 0 where
  pub through : OverridesThrough v row method
  pub past : OverridesThrough v at method → ⊥
  pub is : new ≡ old ++ row ∷ []

pub record IsAhead (v : View) (row at method : ℕ) (old new : List ℕ) : Type 0 where
  pub there : OverridesThrough v row method → OverridesThrough v at method
  pub back : OverridesThrough v at method → OverridesThrough v row method
  pub is : new ≡ old

abbrev pub IsAdding : View → ℕ → ℕ → ℕ → List ℕ → List ℕ → Type 0
IsAdding v row at method old new = IsDone v row at method old new ⊎ IsAhead v row at method old new

-- the way up is at a method, which is done
pub record AreAdding (v : View) (row at : ℕ) (old new : List (List ℕ)) : Type 0 where
  pub there : IsRow v methods at
  pub size : length new ≡ length old
  pub each : (method : ℕ) → IsRow v methods method → IsAdding v row at method (overriders_in old method) (overriders_in new method)

pub adding_begun : (v : View) (row : ℕ) (old : List (List ℕ)) → IsRow v methods row → AreAdding v row row old old
adding_begun v row old is = record { there = is; size = refl; each = λ method there. inr (record { there = λ t. t; back = λ t. t; is = refl }) }

-- the list of the method that is met
here : (v : View) (row at method : ℕ) (old before new : List ℕ) → IsFaultless v → Overrides v at method → IsAdding v row at method old before → new ≡ before ++ row ∷ [] → IsAdding v row method method old new
here v row at method old before new faultless over adding e = ⊎_elim
    (λ done. absurd (done.past (Directly at method over)))
    (λ ahead. inl (record {
      through = ahead.back (Directly at method over);
      past = λ through. never_itself v method faultless through;
      is = e ∙ ap (λ l. l ++ row ∷ []) ahead.is;
    }))
    adding

-- the list of another method
elsewhere : (v : View) (row at method other : ℕ) (old before new : List ℕ) → Overrides v at method → (method ≡ other → ⊥) → IsAdding v row at other old before → new ≡ before → IsAdding v row method other old new
elsewhere v row at method other old before new over apart adding e = ⊎_elim
    (λ done. inl (record { through = done.through; past = λ through. done.past (Through at method other over through); is = e ∙ done.is }))
    (λ ahead. inr (record {
      there = λ through. through_parent v at method other over apart (ahead.there through);
      back = λ through. ahead.back (Through at method other over through);
      is = e ∙ ahead.is;
    }))
    adding

pub adding_more : (v : View) (row at method : ℕ) (old before new : List (List ℕ)) → IsFaultless v → Overrides v at method → IsRow v methods method → AreAdding v row at old before
    → length new ≡ length before → overriders_in new method ≡ overriders_in before method ++ row ∷ [] → ((other : ℕ) → IsRow v methods other → (method ≡ other → ⊥) → overriders_in new other ≡ overriders_in before other)
    → AreAdding v row method old new
adding_more v row at method old before new faultless over is adding size same others = record {
  there = is;
  size = size ∙ adding.size;
  each = λ other there. ⊎_elim
      (λ e. subst (λ m. IsAdding v row method m (overriders_in old m) (overriders_in new m)) e
      (here v row at method (overriders_in old method) (overriders_in before method) (overriders_in new method) faultless over (adding.each method is) same))
      (λ ne. elsewhere v row at method other (overriders_in old other) (overriders_in before other) (overriders_in new other) over ne (adding.each other there) (others other there ne))
      (cases_eq method other);
}

added_by : (v : View) (row at method : ℕ) (old new : List ℕ) → ((o : ℕ) → Overrides v at o → ⊥) → IsAdding v row at method old new → IsAdded v row method old new
added_by v row at method old new nobody adding = ⊎_elim
    (λ done. inl (done.through, done.is))
    (λ ahead. inr ((λ through. none_through v at method nobody (ahead.there through)), ahead.is))
    adding

-- at a method that overrides none
pub adding_ended : (v : View) (row at : ℕ) (old new : List (List ℕ)) → AreAdding v row at old new → ((o : ℕ) → Overrides v at o → ⊥) → AreAdded v row old new
adding_ended v row at old new adding nobody = record {
  size = adding.size;
  each = λ method there. added_by v row at method (overriders_in old method) (overriders_in new method) nobody (adding.each method there);
}
