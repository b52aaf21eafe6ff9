-- The fields of a type, found in its list.
use Rattle.std.proofs.Common.{◌≡◌, ◌⊎◌, ℕ, zero, suc, ◌+◌, ◌-◌, ◌<◌, ◌≤◌, Bool, true, false, cond, List, [], ◌∷◌, ◌++◌, Option, Some, None, refl, sym, ap, ◌∙◌, subst, inl, inr, ⊎_elim, arith, append-nil, get_or}
use Rattle.std.specs.Prelude.{◌==◌, ◌&&◌, filter, find, nat_le, nat_lt}
use Rattle.std.specs.List.{AllByRecursion, range_with_len}
use Rattle.std.specs.Option.{unwrap_or}
use Rattle.std.proofs.lemmas.Bool.{cond_both, eqb-true}
use Rattle.std.proofs.lemmas.Bool.Decides.{nat_tests}
use Rattle.std.proofs.lemmas.Option.{slice_get-get_or, slice_get_read}
use Rattle.px_tables.specs.Counts.{has_bit}
use Rattle.px_tables.specs.Metadata.{View}
use Rattle.px_meta.specs.Members.{IsField, is_listed, list_end, list_start, owner_of}
use Rattle.px_meta.specs.Rows.{IsRow, count_of, fields, rows_in, type_defs}
use Rattle.px_meta.specs.Tokens.{AreRows}
use Rattle.px_meta.specs.declared.meta.MetaField.{MetaField}
use Rattle.px_link_types.specs.Numbers.{is_field_of}
use Rattle.px_link_types.specs.Parts.{asks_for, fields_of, is_asked, is_kind}

-- RANGES

head_by : (b : Bool) (a : ℕ) (xs ys zs : List ℕ) → xs ≡ ys ++ zs → cond b (a ∷ xs) xs ≡ cond b (a ∷ ys) ys ++ zs
head_by true a xs ys zs e = ap (λ l. a ∷ l) e
head_by false a xs ys zs e = e

-- one more number
pub filter_more : (p : ℕ → Bool) (a n j : ℕ) → a + n ≡ j → filter p (range_with_len a (suc n)) ≡ filter p (range_with_len a n) ++ cond (p j) (j ∷ []) []
filter_more p a zero j e = let same : a ≡ j = omega arith in ap (λ k. cond (p k) (k ∷ []) []) same
filter_more p a (suc n) j e = head_by (p a) a _ _ _ (filter_more p (a + 1) n j (omega arith))

-- numbers that fail change nothing
pub filter_still : (p : ℕ → Bool) (a n k : ℕ) → ((f : ℕ) → a + n ≤ f → f < a + n + k → p f ≡ false) → filter p (range_with_len a (n + k)) ≡ filter p (range_with_len a n)
filter_still p a n zero fails = let same : n + 0 ≡ n = omega arith in ap (λ m. filter p (range_with_len a m)) same
filter_still p a n (suc k) fails =
    let one : n + suc k ≡ suc (n + k) = omega arith in
    ap (λ m. filter p (range_with_len a m)) one ∙ filter_more p a (n + k) (a + (n + k)) refl
    ∙ ap (λ b. filter p (range_with_len a (n + k)) ++ cond b ((a + (n + k)) ∷ []) []) (fails (a + (n + k)) (omega arith) (omega arith))
    ∙ append-nil _ ∙ filter_still p a n k (λ f more less. fails f more (omega arith))

-- OWNERS

passes_by : (p : ℕ → Bool) (x n : ℕ) (rest : Option ℕ) (b : Bool) → p x ≡ b → (rest ≡ Some n → p n ≡ true) → cond b (Some x) rest ≡ Some n → p n ≡ true
passes_by p x n rest true is later e = let same : x ≡ n = cc in subst (λ k. p k ≡ true) same is
passes_by p x n rest false is later e = later e

found_passes : (p : ℕ → Bool) (xs : List ℕ) (n : ℕ) → find p xs ≡ Some n → p n ≡ true
found_passes p [] n e = absurd (cc)
found_passes p (x ∷ xs) n e = passes_by p x n (find p xs) (p x) refl (found_passes p xs n) e

some_from : (o : Option ℕ) (x : ℕ) → unwrap_or o 0 ≡ x → 1 ≤ x → o ≡ Some x
some_from None x e some = absurd (let none : 0 ≡ x = e in omega arith)
some_from (Some y) x e some = ap (λ k. Some k) e

-- a type that has a field lists it
pub owned_listed : (v : View) (row field : ℕ) → 1 ≤ row → owner_of v fields field ≡ row → is_listed v fields field row ≡ true
owned_listed v row field some e = found_passes (is_listed v fields field) (rows_in v type_defs) row (some_from _ row e some)

both_tests : (start end row : ℕ) → (nat_le start row && nat_lt row end) ≡ true → (start ≤ row) × (row < end)
both_tests start end row e = (grind (arith, nat_tests), grind (arith, nat_tests))

not_asked : (b c : Bool) → b ≡ false → (b && c) ≡ false
not_asked b c e = ap (λ x. x && c) e

differs : (a b : ℕ) (t : Bool) → (a == b) ≡ t → (a ≡ b → ⊥) → t ≡ false
differs a b true e ne = absurd (ne (eqb-true a b e))
differs a b false e ne = refl

-- what isn't in the list of a type isn't asked for
pub outside : (v : View) (row : ℕ) (is_static : Bool) (field : ℕ) → IsRow v type_defs row → ((field < list_start v fields row) ⊎ (list_end v fields row ≤ field)) → asks_for v row is_static field ≡ false
outside v row is_static field is out =
    not_asked (is_field_of v row field) _
    (differs (owner_of v fields field) row (is_field_of v row field) refl
    (λ e.
    let in_list = both_tests (list_start v fields row) (list_end v fields row) field (owned_listed v row field is.some e) in
    ⊎_elim (λ before. omega (arith, in_list.0)) (λ behind. omega (arith, in_list.1)) out))

-- what was read of a field tells whether it is asked for
pub asked_by_row : (v : View) (row : ℕ) (is_static : Bool) (field : ℕ) (item : MetaField) → IsField v field item → is_asked row is_static item ≡ asks_for v row is_static field
asked_by_row v row is_static field item is =
    ap (λ o. (o == row) && is_kind is_static (has_bit item.flags 4)) is.owner ∙ ap (λ f. is_field_of v row field && is_kind is_static (has_bit f 4)) is.flags

-- THE LOOP

-- what is found before a row
pub record AreFound (v : View) (row : ℕ) (is_static : Bool) (field : ℕ) (rows : List ℕ) : Type 0 where
  pub are : rows ≡ filter (asks_for v row is_static) (range_with_len 1 (field - 1))

pub found_first : (v : View) (row : ℕ) (is_static : Bool) (field : ℕ) (rows : List ℕ) → IsRow v type_defs row → ((f : ℕ) → 1 ≤ f → f < field → f < list_start v fields row) → rows ≡ [] → AreFound v row is_static field rows
found_first v row is_static field rows is first e =
    let none : 0 + (field - 1) ≡ field - 1 = omega arith in
    record {
      are = e ∙ sym (filter_still (asks_for v row is_static) 1 0 (field - 1) (λ f more less. outside v row is_static f is (inl (first f (omega arith) (omega arith)))))
          ∙ ap (λ n. filter (asks_for v row is_static) (range_with_len 1 n)) none;
    }

found_next : (v : View) (row : ℕ) (is_static : Bool) (field : ℕ) (rows : List ℕ) → 1 ≤ field → AreFound v row is_static field rows
    → filter (asks_for v row is_static) (range_with_len 1 (field + 1 - 1)) ≡ rows ++ cond (asks_for v row is_static field) (field ∷ []) []
found_next v row is_static field rows some found =
    let one : field + 1 - 1 ≡ suc (field - 1) = omega (arith, some) in
    ap (λ n. filter (asks_for v row is_static) (range_with_len 1 n)) one ∙ filter_more (asks_for v row is_static) 1 (field - 1) field (omega (arith, some))
    ∙ ap (λ l. l ++ cond (asks_for v row is_static field) (field ∷ []) []) (sym found.are)

pub found_here : (v : View) (row : ℕ) (is_static : Bool) (field : ℕ) (rows news : List ℕ) (item : MetaField) → 1 ≤ field → IsField v field item → AreFound v row is_static field rows → is_asked row is_static item ≡ true → news ≡ rows ++ field ∷ []
    → AreFound v row is_static (field + 1) news
found_here v row is_static field rows news item some is found asked e = record {
  are = e ∙ ap (λ b. rows ++ cond b (field ∷ []) []) (sym asked ∙ asked_by_row v row is_static field item is) ∙ sym (found_next v row is_static field rows some found);
}

pub found_past : (v : View) (row : ℕ) (is_static : Bool) (field : ℕ) (rows news : List ℕ) (item : MetaField) → 1 ≤ field → IsField v field item → AreFound v row is_static field rows → is_asked row is_static item ≡ false → news ≡ rows
    → AreFound v row is_static (field + 1) news
found_past v row is_static field rows news item some is found asked e = record {
  are = e ∙ sym (append-nil rows) ∙ ap (λ b. rows ++ cond b (field ∷ []) []) (sym asked ∙ asked_by_row v row is_static field item is) ∙ sym (found_next v row is_static field rows some found);
}

pub found_all : (v : View) (row : ℕ) (is_static : Bool) (field : ℕ) (rows : List ℕ) → IsRow v type_defs row → AreFound v row is_static field rows → field ≤ count_of v fields + 1
    → ((f : ℕ) → 1 ≤ f → field ≤ f → f ≤ count_of v fields → list_end v fields row ≤ f) → rows ≡ fields_of v row is_static
found_all v row is_static field rows is found few last =
    let left = count_of v fields - (field - 1) in
    let whole : field - 1 + left ≡ count_of v fields = omega arith in
    found.are ∙ sym (filter_still (asks_for v row is_static) 1 (field - 1) left (λ f more less. outside v row is_static f is (inr (last f (omega arith) (omega arith) (omega arith)))))
    ∙ ap (λ n. filter (asks_for v row is_static) (range_with_len 1 n)) whole

-- the item of a row
pub item_of : {X : Type 0} (Is : View → ℕ → X → Type 0) (v : View) (table row : ℕ) (items : List X) (x : X) → AreRows Is v table items → IsRow v table row → x ≡ get_or items (row - 1) x → Is v row x
item_of Is v table row items x are is e =
    let same : (row - 1) + 1 ≡ row = omega (arith, is.some) in
    subst (λ r. Is v r x) same (are.each (row - 1) x (slice_get_read items (count_of v table) (row - 1) x (sym are.count) (omega (arith, is.some, is.few)) e))

-- the same where it is read with something for what isn't there
pub item_at : {X : Type 0} (Is : View → ℕ → X → Type 0) (v : View) (table row : ℕ) (items : List X) (d : X) → AreRows Is v table items → IsRow v table row → Is v row (get_or items (row - 1) d)
item_at Is v table row items d are is =
    let same : (row - 1) + 1 ≡ row = omega (arith, is.some) in
    subst (λ r. Is v r (get_or items (row - 1) d)) same (are.each (row - 1) _ (slice_get-get_or items (row - 1) d (omega (are.count, arith, is.some, is.few))))

each_filtered : (P : ℕ → Type 0) (p : ℕ → Bool) (xs : List ℕ) → AllByRecursion P xs → AllByRecursion P (filter p xs)
each_filtered P p [] each = tt
each_filtered P p (x ∷ xs) each = cond_both (p x) (x ∷ filter p xs) (filter p xs) (AllByRecursion P) (λ is. (each.0, each_filtered P p xs each.1)) (λ is. each_filtered P p xs each.1)

each_of_range : (P : ℕ → Type 0) (a n : ℕ) → ((k : ℕ) → a ≤ k → k < a + n → P k) → AllByRecursion P (range_with_len a n)
each_of_range P a zero each = tt
each_of_range P a (suc n) each = (each a (omega arith) (omega arith), each_of_range P (a + 1) n (λ k more less. each k (omega arith) (omega arith)))

-- the fields of a type are fields
pub fields_are_rows : (v : View) (row : ℕ) (is_static : Bool) → AllByRecursion (IsRow v fields) (fields_of v row is_static)
fields_are_rows v row is_static =
    each_filtered (IsRow v fields) (asks_for v row is_static) (rows_in v fields) (each_of_range (IsRow v fields) 1 (count_of v fields) (λ k more less. record { some = more; few = omega arith }))
