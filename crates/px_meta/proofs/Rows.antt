-- Lists of what stands in rows.
use Rattle.std.proofs.Common.{◌≡◌, ℕ, zero, suc, ◌+◌, ◌-◌, ◌<◌, ◌≤◌, List, [], ◌∷◌, ◌++◌, length, get_or, take, drop, append-nil, Some, refl, sym, ap, ◌∙◌, subst, ⊎_elim, arith}
use Rattle.std.specs.Prelude.{slice_get}
use Rattle.std.proofs.lemmas.Bool.{cases_lt}
use Rattle.std.proofs.lemmas.List.{drop_all, length_push, take_all}
use Rattle.std.proofs.lemmas.Option.{get_or_from_slice_get, slice_get-get_or, slice_get_within, same_Some}
use Rattle.px_tables.specs.Metadata.{View}
use Rattle.px_meta.specs.Rows.{count_of}
use Rattle.px_meta.specs.Tokens.{AreRows}
use Rattle.px_meta.specs.Walks.{AreOf}

slice_get-push_old : {X : Type 0} (xs : List X) (x : X) (k : ℕ) → k < length xs → slice_get (xs ++ x ∷ []) k ≡ slice_get xs k
slice_get-push_old [] x k less = absurd (omega arith)
slice_get-push_old (y ∷ ys) x zero less = refl
slice_get-push_old (y ∷ ys) x (suc k) less = slice_get-push_old ys x k (omega arith)

slice_get-push_new : {X : Type 0} (xs : List X) (x : X) (k : ℕ) → k ≡ length xs → slice_get (xs ++ x ∷ []) k ≡ Some x
slice_get-push_new [] x zero e = refl
slice_get-push_new [] x (suc k) e = absurd (omega arith)
slice_get-push_new (y ∷ ys) x zero e = absurd (omega arith)
slice_get-push_new (y ∷ ys) x (suc k) e = slice_get-push_new ys x k (omega arith)

-- one more item
pub of_push : {X : Type 0} (of : ℕ → X) (n : ℕ) (items news : List X) (x : X) → AreOf of n items → x ≡ of (n + 1) → news ≡ items ++ x ∷ [] → AreOf of (n + 1) news
of_push of n items news x are is e =
    subst (λ xs. AreOf of (n + 1) xs) (sym e) (record {
      count_is = let l = length_push items x in omega (arith, are.count_is);
      each = λ k less. ⊎_elim
          (λ below. slice_get-push_old items x k (omega (arith, are.count_is)) ∙ are.each k below)
          (λ above. let same : k ≡ n = omega arith in slice_get-push_new items x k (omega (arith, are.count_is)) ∙ ap (λ y. Some y) is ∙ ap (λ j. Some (of (j + 1))) (sym same))
          (cases_lt k n);
    })

pub of_none : {X : Type 0} (of : ℕ → X) (items : List X) → items ≡ [] → AreOf of 0 items
of_none of items e = record { count_is = ap length e; each = λ k less. absurd (omega arith) }

pub of_whole : {X : Type 0} (of : ℕ → X) (n count : ℕ) (items : List X) → AreOf of n items → n ≡ count → AreOf of count items
of_whole of n count items are e = subst (λ k. AreOf of k items) e are

-- an item by its row
pub of_at : {X : Type 0} (of : ℕ → X) (count : ℕ) (items : List X) (n : ℕ) (d : X) → AreOf of count items → n < count → get_or items n d ≡ of (n + 1)
of_at of count items n d are less = get_or_from_slice_get items n (of (n + 1)) d (are.each n less)

-- by the items' places
pub of_from : {X : Type 0} (of : ℕ → X) (count : ℕ) (items : List X) (d : X) → length items ≡ count → ((row : ℕ) → 1 ≤ row → row ≤ count → get_or items (row - 1) d ≡ of row) → AreOf of count items
of_from of count items d size each = record {
  count_is = size;
  each = λ n less.
      let same : (n + 1) - 1 ≡ n = omega arith in
      slice_get-get_or items n d (omega (arith, size)) ∙ ap (λ x. Some x) (subst (λ k. get_or items k d ≡ of (n + 1)) same (each (n + 1) (omega arith) (omega arith)));
}

pub of_row : {X : Type 0} (of : ℕ → X) (count : ℕ) (items : List X) (row : ℕ) (d : X) → AreOf of count items → 1 ≤ row → row ≤ count → get_or items (row - 1) d ≡ of row
of_row of count items row d are some few = let same : (row - 1) + 1 ≡ row = omega arith in of_at of count items (row - 1) d are (omega arith) ∙ ap of same

-- the items are those of the first rows
pub record AreFirst {X : Type 0} (Is : View → ℕ → X → Type 0) (v : View) (n : ℕ) (items : List X) : Type 0 where
  pub count : length items ≡ n
  pub each : (k : ℕ) (item : X) → slice_get items k ≡ Some item → Is v (k + 1) item

pub first_none : {X : Type 0} (Is : View → ℕ → X → Type 0) (v : View) (items : List X) → items ≡ [] → AreFirst Is v 0 items
first_none Is v items e = subst (λ xs. AreFirst Is v 0 xs) (sym e) (record { count = refl; each = λ k item is. absurd (cc) })

pub first_push : {X : Type 0} (Is : View → ℕ → X → Type 0) (v : View) (n : ℕ) (items news : List X) (x : X) → AreFirst Is v n items → Is v (n + 1) x → news ≡ items ++ x ∷ [] → AreFirst Is v (n + 1) news
first_push Is v n items news x are is e =
    subst (λ xs. AreFirst Is v (n + 1) xs) (sym e) (record {
      count = let l = length_push items x in omega (arith, are.count);
      each = λ k item stands. ⊎_elim
          (λ below. are.each k item (sym (slice_get-push_old items x k (omega (arith, are.count))) ∙ stands))
          (λ above.
          let within = slice_get_within (items ++ x ∷ []) k item stands in
          let l = length_push items x in
          let last : k ≡ n = omega (arith, are.count) in
          let new = slice_get-push_new items x k (omega (arith, are.count)) in
          let same : x ≡ item = same_Some x item (sym new ∙ stands) in
          subst (λ i. Is v (k + 1) i) same (subst (λ j. Is v (j + 1) x) (sym last) is))
          (cases_lt k n);
    })

-- all rows have been read
pub rows_from_first : {X : Type 0} (Is : View → ℕ → X → Type 0) (v : View) (table n : ℕ) (items : List X) → AreFirst Is v n items → n ≡ count_of v table → AreRows Is v table items
rows_from_first Is v table n items are e = record { count = are.count ∙ e; each = are.each }

item_at : {X : Type 0} (xs : List X) (k : ℕ) → k < length xs → (x : X) × (slice_get xs k ≡ Some x)
item_at [] k less = absurd (omega arith)
item_at (x ∷ xs) zero less = (x, refl)
item_at (x ∷ xs) (suc k) less = item_at xs k (omega arith)

-- the item of a row
pub row_item : {X : Type 0} (Is : View → ℕ → X → Type 0) (v : View) (n : ℕ) (items : List X) (row : ℕ) → AreFirst Is v n items → 1 ≤ row → row ≤ n → (item : X) × Is v row item
row_item Is v n items row are some few =
    let it = item_at items (row - 1) (omega (arith, are.count)) in
    let same : (row - 1) + 1 ≡ row = omega arith in
    (it.0, subst (λ r. Is v r it.0) same (are.each (row - 1) it.0 it.1))

-- what a list holds where its whole slice has been written
pub written : {X : Type 0} (news items : List X) (len : ℕ) → length news ≡ length items → len ≡ length items → take len (news ++ drop (length news) items) ≡ news
written news items len same e =
    ap (λ rest. take len (news ++ rest)) (drop_all (length news) items (omega arith)) ∙ ap (λ xs. take len xs) (append-nil news) ∙ take_all len news (omega arith)
