-- Lists to which what is new is added.
use Rattle.std.proofs.Common.{◌≡◌, ℕ, zero, suc, ◌+◌, ◌<◌, Bool, true, false, List, [], ◌∷◌, ◌++◌, length, take, get_or, refl, sym, ap, ◌∙◌, subst, append_assoc, eqb-true, inl, inr, arith}
use Rattle.std.specs.Prelude.{◌≢◌, ◌⊎◌, ◌==◌, ◌||◌, if◌then◌else◌, nat_eq, Some, slice_get}
use Rattle.std.specs.List.{AllByRecursion, AllPairs, flat_map, list_any}
use Rattle.indexmap.specs.IndexSet.{insert_key}
use Rattle.std.proofs.lemmas.Bool.{cond_both, cond-true, cond-false, eq-eqb, eqb-false, or_cases, or_left, or_parts, or_right}
use Rattle.std.proofs.lemmas.List.Quantifiers.{all_pairs_push}
use Rattle.std.proofs.lemmas.List.{append-nil, flat_map_more, take_more}
use Rattle.std.proofs.lemmas.List.Folds.{list_any-append}
use Rattle.px_meta.specs.Rows.{is_in}
use Rattle.px_program.proofs.Types.{each-append}
use Rattle.px_link_reach.specs.Finding.{AreIn}
use Rattle.px_link_reach.specs.Met.{add_new, each_once}

-- WHAT IS THERE

symmetric_by : (a b : ℕ) (s t : Bool) → (a == b) ≡ s → (b == a) ≡ t → s ≡ t
symmetric_by a b true true e f = refl
symmetric_by a b false false e f = refl
symmetric_by a b true false e f = sym (eq-eqb b a (sym (eqb-true a b e))) ∙ f
symmetric_by a b false true e f = sym e ∙ eq-eqb a b (sym (eqb-true b a f))

symmetric : (a b : ℕ) → (a == b) ≡ (b == a)
symmetric a b = symmetric_by a b (a == b) (b == a) refl refl

-- what an index set has
pub has_is : (rows : List ℕ) (row : ℕ) → list_any (nat_eq row) rows ≡ is_in rows row
has_is [] row = refl
has_is (other ∷ rows) row = ap (λ b. b || list_any (nat_eq row) rows) (symmetric row other) ∙ ap (λ b. (other == row) || b) (has_is rows row)

pub inserted : (rows : List ℕ) (row : ℕ) → insert_key nat_eq rows row ≡ add_new rows (row ∷ [])
inserted rows row = ap (λ (b : Bool). if b then rows else rows ++ row ∷ []) (has_is rows row)

pub here : (rows : List ℕ) (row : ℕ) → is_in (row ∷ rows) row ≡ true
here rows row = or_left (row == row) (is_in rows row) (eq-eqb row row refl)

pub in_left : (xs ys : List ℕ) (row : ℕ) → is_in xs row ≡ true → is_in (xs ++ ys) row ≡ true
in_left xs ys row is = list_any-append (λ other. other == row) xs ys ∙ or_left (is_in xs row) (is_in ys row) is

pub in_right : (xs ys : List ℕ) (row : ℕ) → is_in ys row ≡ true → is_in (xs ++ ys) row ≡ true
in_right xs ys row is = list_any-append (λ other. other == row) xs ys ∙ or_right (is_in xs row) (is_in ys row) is

pub in_either : (xs ys : List ℕ) (row : ℕ) → is_in (xs ++ ys) row ≡ true → (is_in xs row ≡ true) ⊎ (is_in ys row ≡ true)
in_either xs ys row is = or_cases (is_in xs row) (is_in ys row) (sym (list_any-append (λ other. other == row) xs ys) ∙ is)

pub in_at : (xs : List ℕ) (k row : ℕ) → slice_get xs k ≡ Some row → is_in xs row ≡ true
in_at [] k row e = absurd (cc)
in_at (x ∷ xs) zero row e = or_left (x == row) (is_in xs row) (eq-eqb x row (cc))
in_at (x ∷ xs) (suc k) row e = or_right (x == row) (is_in xs row) (in_at xs k row e)

-- a row that is there has what each has
pub each_in : (P : ℕ → Type 0) (xs : List ℕ) (row : ℕ) → AllByRecursion P xs → is_in xs row ≡ true → P row
each_in P [] row all is = absurd (cc)
each_in P (x ∷ xs) row all is = elim (or_cases (x == row) (is_in xs row) is) [ inl same ↦ subst P (eqb-true x row same) all.0 | inr later ↦ each_in P xs row all.1 later ]

-- ADDING

pub added-append : (met xs ys : List ℕ) → add_new met (xs ++ ys) ≡ add_new (add_new met xs) ys
added-append met [] ys = refl
added-append met (x ∷ xs) ys =
    cond_both (is_in met x) (add_new met xs) (add_new (met ++ x ∷ []) xs) (λ l. add_new met ((x ∷ xs) ++ ys) ≡ add_new l ys)
    (λ is. cond-true (is_in met x) _ _ is ∙ added-append met xs ys)
    (λ new. cond-false (is_in met x) _ _ new ∙ added-append (met ++ x ∷ []) xs ys)

-- one more is added
pub added_next : (met rows after xs : List ℕ) (i x d : ℕ) → i < length xs → x ≡ get_or xs i d → rows ≡ add_new met (take i xs) → after ≡ add_new rows (x ∷ []) → after ≡ add_new met (take (i + 1) xs)
added_next met rows after xs i x d within at was next =
    next ∙ ap (λ l. add_new l (x ∷ [])) was ∙ sym (added-append met (take i xs) (x ∷ [])) ∙ ap (add_new met) (sym (take_more xs i d within ∙ ap (λ y. take i xs ++ y ∷ []) (sym at)))

-- what one more leads to is added
pub added_more : {X : Type 0} (f : X → List ℕ) (met rows after : List ℕ) (xs : List X) (i : ℕ) (x d : X) → i < length xs → x ≡ get_or xs i d → rows ≡ add_new met (flat_map f (take i xs)) → after ≡ add_new rows (f x)
    → after ≡ add_new met (flat_map f (take (i + 1) xs))
added_more f met rows after xs i x d within at was next =
    let more = take_more xs i d within ∙ ap (λ y. take i xs ++ y ∷ []) (sym at) in
    next ∙ ap (λ l. add_new l (f x)) was ∙ sym (added-append met (flat_map f (take i xs)) (f x))
    ∙ ap (add_new met) (flat_map_more f [] (take i xs) x ∙ ap (flat_map f) (sym more))

-- what is there keeps its places
pub added_behind : (met xs : List ℕ) → (more : List ℕ) × (add_new met xs ≡ met ++ more)
added_behind met [] = ([], sym (append-nil met))
added_behind met (x ∷ xs) =
    cond_both (is_in met x) (add_new met xs) (add_new (met ++ x ∷ []) xs) (λ l. (more : List ℕ) × (l ≡ met ++ more))
    (λ is. added_behind met xs)
    (λ new. let rest = added_behind (met ++ x ∷ []) xs in (x ∷ rest.0, rest.1 ∙ append_assoc met (x ∷ []) rest.0))

pub added_each : (P : ℕ → Type 0) (met xs : List ℕ) → AllByRecursion P met → AllByRecursion P xs → AllByRecursion P (add_new met xs)
added_each P met [] all more = all
added_each P met (x ∷ xs) all more =
    cond_both (is_in met x) (add_new met xs) (add_new (met ++ x ∷ []) xs) (AllByRecursion P)
    (λ is. added_each P met xs all more.1)
    (λ new. added_each P (met ++ x ∷ []) xs (each-append P met (x ∷ []) all (more.0, tt)) more.1)

-- nothing is added where all is there
pub added_none : (met xs : List ℕ) → AreIn met xs → add_new met xs ≡ met
added_none met [] all = refl
added_none met (x ∷ xs) all = cond-true (is_in met x) _ _ all.0 ∙ added_none met xs all.1

pub kept_in : (met xs : List ℕ) (row : ℕ) → is_in met row ≡ true → is_in (add_new met xs) row ≡ true
kept_in met xs row is = let behind = added_behind met xs in subst (λ l. is_in l row ≡ true) (sym behind.1) (in_left met behind.0 row is)

-- what is added is there
pub added_in : (met xs : List ℕ) (row : ℕ) → is_in xs row ≡ true → is_in (add_new met xs) row ≡ true
added_in met [] row is = absurd (cc)
added_in met (x ∷ xs) row is =
    cond_both (is_in met x) (add_new met xs) (add_new (met ++ x ∷ []) xs) (λ l. is_in l row ≡ true)
    (λ was. elim (or_cases (x == row) (is_in xs row) is) [ inl same ↦ kept_in met xs row (subst (λ r. is_in met r ≡ true) (eqb-true x row same) was) | inr later ↦ added_in met xs row later ])
    (λ new. elim (or_cases (x == row) (is_in xs row) is) [
      | inl same ↦ kept_in (met ++ x ∷ []) xs row (in_right met (x ∷ []) row (or_left (x == row) false same))
      | inr later ↦ added_in (met ++ x ∷ []) xs row later
    ])

-- what is there was there or is added
pub in_added : (met xs : List ℕ) (row : ℕ) → is_in (add_new met xs) row ≡ true → (is_in met row ≡ true) ⊎ (is_in xs row ≡ true)
in_added met [] row = λ is. inl is
in_added met (x ∷ xs) row =
    cond_both (is_in met x) (add_new met xs) (add_new (met ++ x ∷ []) xs) (λ l. is_in l row ≡ true → (is_in met row ≡ true) ⊎ (is_in (x ∷ xs) row ≡ true))
    (λ was is. elim (in_added met xs row is) [ inl before ↦ inl before | inr later ↦ inr (or_right (x == row) (is_in xs row) later) ])
    (λ new is. elim (in_added (met ++ x ∷ []) xs row is) [
      | inl before ↦ elim (in_either met (x ∷ []) row before) [ inl first ↦ inl first | inr same ↦ inr (in_left (x ∷ []) xs row same) ]
      | inr later ↦ inr (or_right (x == row) (is_in xs row) later)
    ])

pub in_once : (xs : List ℕ) (row : ℕ) → is_in (each_once xs) row ≡ true → is_in xs row ≡ true
in_once xs row is = elim (in_added [] xs row is) [ inl none ↦ absurd (cc) | inr there ↦ there ]

pub each_from : (P : ℕ → Type 0) (xs : List ℕ) → ((row : ℕ) → is_in xs row ≡ true → P row) → AllByRecursion P xs
each_from P [] says = tt
each_from P (x ∷ xs) says = (says x (here xs x), each_from P xs (λ row is. says row (or_right (x == row) (is_in xs row) is)))

-- all that is added is there
pub all_added : (met xs : List ℕ) → AreIn (add_new met xs) xs
all_added met xs = each_from (λ row. is_in (add_new met xs) row ≡ true) xs (added_in met xs)

pub each_kept : (met xs more : List ℕ) → AreIn met more → AreIn (add_new met xs) more
each_kept met xs more all = each_from (λ row. is_in (add_new met xs) row ≡ true) more (λ row is. kept_in met xs row (each_in (λ r. is_in met r ≡ true) more row all is))

-- NO REPEATS

apart : (met : List ℕ) (x : ℕ) → is_in met x ≡ false → (k d : ℕ) → k < length met → get_or met k d ≢ x
apart [] x none k d less = absurd (omega arith)
apart (y ∷ met) x none zero d less = eqb-false y x (or_parts (y == x) (is_in met x) none).0
apart (y ∷ met) x none (suc k) d less = apart met x (or_parts (y == x) (is_in met x) none).1 k d (omega arith)

pub added_apart : (met xs : List ℕ) → AllPairs ◌≢◌ met → AllPairs ◌≢◌ (add_new met xs)
added_apart met [] all = all
added_apart met (x ∷ xs) all =
    cond_both (is_in met x) (add_new met xs) (add_new (met ++ x ∷ []) xs) (AllPairs ◌≢◌)
    (λ is. added_apart met xs all)
    (λ new. added_apart (met ++ x ∷ []) xs (all_pairs_push ◌≢◌ met x all (apart met x new)))
