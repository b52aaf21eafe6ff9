-- Which methods take the place of others in the types of a chain of bases.
use Rattle.std.proofs.Common.{◌≡◌, ◌≢◌, ℕ, zero, suc, ◌+◌, ◌<◌, ◌≤◌, Bool, true, false, cond, List, [], ◌∷◌, ◌++◌, Some, None, length, get_or, take, drop, refl, sym, ap, ◌∙◌, subst, inl, inr, arith}
use Rattle.std.specs.Prelude.{◌==◌, ◌||◌, if◌then◌else◌, nat_eq, nat_lt}
use Rattle.std.specs.List.{AllByRecursion, IsDistinct, list_any, position, position_or_len}
use Rattle.std.proofs.lemmas.Bool.{cond-false, cond-true, eq-eqb, eqb-true, ltb-false, ne_eqb}
use Rattle.std.proofs.lemmas.List.{at_drop_more, take_more}
use Rattle.std.proofs.lemmas.List.Recursion.{is_position_or_len}
use Rattle.std.proofs.lemmas.Option.{slice_get-get_or}
use Rattle.indexmap.specs.IndexSet.{insert_key}
use Rattle.px_meta.specs.Members.{IsMethod, owner_of}
use Rattle.px_meta.specs.Overriding as said
use Rattle.px_meta.specs.Rows.{IsRow, methods}
use Rattle.px_meta.specs.declared.meta.MetaMethod.{MetaMethod}
use Rattle.px_link_methods.specs.Codes.{place_of}
use Rattle.px_program.proofs.Types.{each_at}
use Rattle.px_link_reach.specs.Overriders.{AreOverriders, OverridesThrough, Directly, Through}
use Rattle.px_tables.specs.Metadata.{View}
use Rattle.px_link.specs.Overrides.{first_of}

-- THE FIRST OF A TYPE

first_now : (v : View) (class : ℕ) (rows : List ℕ) (i row : ℕ) → i < length rows → row ≡ get_or rows i 0
    → first_of v class (drop i rows) ≡ cond (owner_of v methods row == class) (Some row) (first_of v class (drop (i + 1) rows))
first_now v class rows i row less is = at_drop_more (first_of v class) rows i 0 less ∙ ap (λ r. first_of v class (r ∷ drop (i + 1) rows)) (sym is)

pub first_here : (v : View) (class : ℕ) (rows : List ℕ) (i row : ℕ) (m : MetaMethod) → i < length rows → row ≡ get_or rows i 0 → IsMethod v row m → m.owner ≡ class
    → first_of v class rows ≡ first_of v class (drop i rows) → Some row ≡ first_of v class rows
first_here v class rows i row m less is there owner so_far =
    sym (so_far ∙ first_now v class rows i row less is ∙ cond-true (owner_of v methods row == class) (Some row) (first_of v class (drop (i + 1) rows)) (eq-eqb (owner_of v methods row) class (sym there.owner ∙ owner)))

pub first_on : (v : View) (class : ℕ) (rows : List ℕ) (i row : ℕ) (m : MetaMethod) → i < length rows → row ≡ get_or rows i 0 → IsMethod v row m → m.owner ≢ class
    → first_of v class rows ≡ first_of v class (drop i rows) → first_of v class rows ≡ first_of v class (drop (i + 1) rows)
first_on v class rows i row m less is there owner so_far =
    so_far ∙ first_now v class rows i row less is ∙ cond-false (owner_of v methods row == class) (Some row) (first_of v class (drop (i + 1) rows)) (ne_eqb (owner_of v methods row) class (λ e. owner (there.owner ∙ e)))

-- one of some rows is a row
pub row_at : (v : View) (rows : List ℕ) (i row : ℕ) → AllByRecursion (IsRow v methods) rows → i < length rows → row ≡ get_or rows i 0 → IsRow v methods row
row_at v rows i row are less is = subst (IsRow v methods) (sym is) (each_at (IsRow v methods) rows are i (get_or rows i 0) (slice_get-get_or rows i 0 less))

nearest_row : (v : View) (method type other : ℕ) → said.IsNearest v method type other → IsRow v methods method
nearest_row v method _ _ (said.Here type base other is first) = first.namesake.may.row
nearest_row v method _ _ (said.Behind type base other is none later) = nearest_row v method base other later

overriding_row : (v : View) (method other : ℕ) → said.Overrides v method other → IsRow v methods method
overriding_row v method other (inl first) = first.said.may.row
overriding_row v method other (inr named) = nearest_row v method (owner_of v methods method) other named.nearest

-- what overrides is a row
overrider_row : (v : View) (method other : ℕ) → OverridesThrough v method other → IsRow v methods method
overrider_row v _ _ (Directly method other said) = overriding_row v method other said
overrider_row v _ _ (Through method between other said on) = overriding_row v method between said

each_row : (v : View) (method : ℕ) (others : List ℕ) → AllByRecursion (λ other. OverridesThrough v other method) others → AllByRecursion (IsRow v methods) others
each_row v method [] each = tt
each_row v method (other ∷ others) each = (overrider_row v other method each.0, each_row v method others each.1)

pub overriders_rows : (v w : View) (method : ℕ) (others : List ℕ) → w ≡ v → AreOverriders w method others → AllByRecursion (IsRow v methods) others
overriders_rows v w method others same are = subst (λ x. AllByRecursion (IsRow x methods) others) same (each_row w method others are.each)

-- NUMBERS

eq_sym : (a b : ℕ) (s : Bool) → (a == b) ≡ s → (b == a) ≡ s
eq_sym a b true e = eq-eqb b a (sym (eqb-true a b e))
eq_sym a b false e = ne_eqb b a (λ f. absurd (let same = eq-eqb a b (sym f) in cc))

absent : (rows : List ℕ) (i row : ℕ) → IsDistinct (λ a b. a == b) rows → i < length rows → row ≡ get_or rows i 0 → list_any (nat_eq row) (take i rows) ≡ false
unfolding IsDistinct
absent [] i row distinct less is = absurd (omega arith)
absent (r ∷ rows) zero row distinct less is = refl
absent (r ∷ rows) (suc i) row distinct less is =
    let differs : (r == row) ≡ false = each_at (λ y. (r == y) ≡ false) rows distinct.0 i row (slice_get-get_or rows i 0 (omega arith) ∙ ap (λ x. Some x) (sym is)) in
    ap (λ b. b || list_any (nat_eq row) (take i rows)) (eq_sym r row false differs) ∙ absent rows i row distinct.1 (omega arith) is

pub next_row : (rows keys news : List ℕ) (i : ℕ) → IsDistinct (λ a b. a == b) rows → i < length rows → keys ≡ take i rows → news ≡ insert_key nat_eq keys (get_or rows i 0) → news ≡ take (i + 1) rows
next_row rows keys news i distinct less is inserted =
    inserted ∙ ap (λ ks. insert_key nat_eq ks (get_or rows i 0)) is
    ∙ cond-false (list_any (nat_eq (get_or rows i 0)) (take i rows)) (take i rows) (take i rows ++ get_or rows i 0 ∷ []) (absent rows i (get_or rows i 0) distinct less refl)
    ∙ sym (take_more rows i 0 less)

place_is : (row : ℕ) (rows : List ℕ) → place_of rows row ≡ position_or_len (nat_eq row) rows
place_is row =
    is_position_or_len (λ rows. place_of rows row) (nat_eq row) refl
    (λ other rows. ap (λ (b : Bool). if b then 0 else 1 + place_of rows row) (eq_sym row other (row == other) refl))

place_by : (n m : ℕ) (b : Bool) → Some n ≡ cond b (Some m) None → n ≡ m
place_by n m true e = cc
place_by n m false e = absurd (cc)

pub place_told : (rows : List ℕ) (row n : ℕ) → Some n ≡ position (nat_eq row) rows → n ≡ place_of rows row
place_told rows row n e = place_by n (position_or_len (nat_eq row) rows) (nat_lt (position_or_len (nat_eq row) rows) (length rows)) e ∙ sym (place_is row rows)

nowhere_by : (m n : ℕ) (b : Bool) → nat_lt m n ≡ b → None ≡ cond b (Some m) None → n ≤ m
nowhere_by m n true t e = absurd (cc)
nowhere_by m n false t e = ltb-false m n t

one_within : (b : Bool) (place n : ℕ) → place ≤ n → (if b then 0 else 1 + place) ≤ suc n
one_within true place n less = omega arith
one_within false place n less = omega arith

place_within : (rows : List ℕ) (row : ℕ) → place_of rows row ≤ length rows
place_within [] row = omega arith
place_within (other ∷ rows) row = one_within (other == row) (place_of rows row) (length rows) (place_within rows row)

pub place_past : (rows : List ℕ) (row n : ℕ) → None ≡ position (nat_eq row) rows → n ≡ length rows → n ≡ place_of rows row
place_past rows row n e is =
    let past = nowhere_by (position_or_len (nat_eq row) rows) (length rows) (nat_lt (position_or_len (nat_eq row) rows) (length rows)) refl e in
    omega (arith, place_is row rows, place_within rows row)
