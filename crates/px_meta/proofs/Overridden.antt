-- The method that a method overrides is one that it may override, and there is no other.
use Rattle.std.proofs.Common.{◌≡◌, ℕ, false, Option, Some, None, subst, inl, inr, ⊎_elim, arith}
use Rattle.std.specs.Prelude.{MatchOption, IfSome}
use Rattle.std.proofs.lemmas.Bool.{cases_lt}
use Rattle.px_tables.specs.Metadata.{View}
use Rattle.px_meta.specs.Impls.{IsDeclared, IsNamed}
use Rattle.px_meta.specs.Members.{owner_of}
use Rattle.px_meta.specs.Overriding.{Behind, Here, IsFirstNamesake, IsFirstSaid, IsNamesake, IsNearest, IsSaid, MayOverride, Overrides, is_new_slot}
use Rattle.px_meta.specs.Rows.{IsRow, methods}

nearest_may : (v : View) (method type other : ℕ) → IsNearest v method type other → MayOverride v method other
nearest_may v method type other (Here _ base _ is first) = first.namesake.may
nearest_may v method type other (Behind _ base _ is none nearest) = nearest_may v method base other nearest

pub overrides_may : (v : View) (method other : ℕ) → Overrides v method other → MayOverride v method other
overrides_may v method other o = ⊎_elim (λ first. first.said.may) (λ named. nearest_may v method (owner_of v methods method) other named.nearest) o

one_said : (v : View) (method one other : ℕ) → IsFirstSaid v method one → IsFirstSaid v method other → one ≡ other
one_said v method one other a b =
    ⊎_elim
    (λ less. absurd (b.first a.row one less a.said))
    (λ more. ⊎_elim
    (λ less. absurd (a.first b.row other less b.said))
    (λ same.
    let rows : a.row ≡ b.row = omega arith in
    let c = a.said.declaration in
    let d = b.said.declaration in
    cc)
    (cases_lt b.row a.row))
    (cases_lt a.row b.row)

one_namesake : (v : View) (method type one other : ℕ) → IsFirstNamesake v method type one → IsFirstNamesake v method type other → one ≡ other
one_namesake v method type one other a b =
    ⊎_elim
    (λ less. absurd (b.first one less a.namesake))
    (λ more. ⊎_elim (λ less. absurd (a.first other less b.namesake)) (λ same. omega arith) (cases_lt other one))
    (cases_lt one other)

one_nearest : (v : View) (method type one other : ℕ) → IsNearest v method type one → IsNearest v method type other → one ≡ other
one_nearest v method type one other (Here _ base _ is first) (Here _ base' _ is' first') =
    let same : base' ≡ base = cc in
    one_namesake v method base one other first (subst (λ b. IsFirstNamesake v method b other) same first')
one_nearest v method type one other (Here _ base _ is first) (Behind _ base' _ is' none nearest) =
    let same : base ≡ base' = cc in
    absurd (none one (subst (λ b. IsNamesake v method b one) same first.namesake))
one_nearest v method type one other (Behind _ base _ is none nearest) (Here _ base' _ is' first) =
    let same : base' ≡ base = cc in
    absurd (none other (subst (λ b. IsNamesake v method b other) same first.namesake))
one_nearest v method type one other (Behind _ base _ is none nearest) (Behind _ base' _ is' none' nearest') =
    let same : base' ≡ base = cc in
    one_nearest v method base one other nearest (subst (λ b. IsNearest v method b other) same nearest')

pub one_overridden : (v : View) (method one other : ℕ) → Overrides v method one → Overrides v method other → one ≡ other
one_overridden v method one other a b =
    ⊎_elim
    (λ said. ⊎_elim (λ said'. one_said v method one other said said') (λ named. absurd (named.nobody_says said.row one said.said)) b)
    (λ named. ⊎_elim
    (λ said. absurd (named.nobody_says said.row other said.said))
    (λ named'. one_nearest v method (owner_of v methods method) one other named.nearest named'.nearest)
    b)
    a

-- by what rows of MethodImpl say, and where none says anything by the name
pub by_said : (v : View) (method other : ℕ) (declared : Option ℕ) → IsDeclared v method declared → declared ≡ Some other → Overrides v method other
by_said v method other declared is some = inl (subst (λ d. IsDeclared v method d) some is)

by_either : (v : View) (method : ℕ) (named : Option ℕ) → ((row o : ℕ) → IsSaid v row method o → ⊥)
    → MatchOption named ((o : ℕ) → is_new_slot v method ≡ false → IsNearest v method (owner_of v methods method) o → ⊥) (IsNamed v method)
    → MatchOption named ((o : ℕ) → Overrides v method o → ⊥) (Overrides v method)
by_either v method None nobody none = λ o over. ⊎_elim (λ said. nobody said.row o said.said) (λ by. none o by.old_slot by.nearest) over
by_either v method (Some x) nobody is = inr (record { nobody_says = λ r o said. nobody r o said; old_slot = is.old_slot; nearest = is.nearest })

pub by_name : (v : View) (method : ℕ) (declared named : Option ℕ) → IsDeclared v method declared → declared ≡ None
    → MatchOption named ((o : ℕ) → is_new_slot v method ≡ false → IsNearest v method (owner_of v methods method) o → ⊥) (IsNamed v method)
    → MatchOption named ((o : ℕ) → Overrides v method o → ⊥) (Overrides v method)
by_name v method declared named is none by = by_either v method named (subst (λ d. IsDeclared v method d) none is) by

pub overridden_row : (v : View) (method : ℕ) (o : Option ℕ) → MatchOption o ((other : ℕ) → Overrides v method other → ⊥) (Overrides v method) → IfSome o (IsRow v methods)
overridden_row v method None none = tt
overridden_row v method (Some other) is = (overrides_may v method other is).other_row
