-- The lists of overriders, as the methods that override some are added in their order.
use Rattle.std.proofs.Common.{true, ◌≡◌, ℕ, zero, suc, ◌+◌, ◌-◌, ◌<◌, List, [], ◌∷◌, ◌++◌, length, get_or, take, replicate, length-take, eq-eqb, refl, sym, ap, ◌∙◌, subst, ⊎_elim, arith}
use Rattle.std.specs.Prelude.{All, Contains, ◌==◌}
use Rattle.std.specs.List.{AllPairs, list_any}
use Rattle.std.proofs.lemmas.List.{get_or-take, get_or_default, length-replicate, take_more}
use Rattle.std.proofs.lemmas.List.Elements.{All-contains, All-push, All-weaker, Contains-append_left, Contains-push, Contains-push_cases, recursion_from_All}
use Rattle.std.proofs.lemmas.List.Folds.{list_any_at}
use Rattle.std.proofs.lemmas.List.Quantifiers.{all_pairs_push}
use Rattle.std.proofs.lemmas.Option.{get_or_from_slice_get, slice_get_within}
use Rattle.px_meta.specs.Rows.{IsRow, count_of, methods}
use Rattle.px_tables.specs.Metadata.{View}
use Rattle.px_link_reach.specs.Overriders.{AreLists, AreOverriders, IsBefore, OverridesThrough, overriders_in}
use Rattle.px_link_reach.specs.Parts.{AreAdded, AreOrdered, IsAdded}
use Rattle.px_link_reach.proofs.Chains.{first_of}

-- those of some rows that override a method, in their order
pub record IsPartial (v : View) (method : ℕ) (rows list : List ℕ) : Type 0 where
  pub each : All (λ other. OverridesThrough v other method) list
  pub from : All (Contains rows) list
  pub all : (other : ℕ) → Contains rows other → OverridesThrough v other method → Contains list other
  pub order : AllPairs (IsBefore v) list

pub record ArePartial (v : View) (rows : List ℕ) (lists : List (List ℕ)) : Type 0 where
  pub size : length lists ≡ count_of v methods
  pub each : (method : ℕ) → IsRow v methods method → IsPartial v method rows (overriders_in lists method)

get_or-empty : (n k : ℕ) → get_or {A = List ℕ} (replicate n []) k [] ≡ []
get_or-empty zero k = refl
get_or-empty (suc n) zero = refl
get_or-empty (suc n) (suc k) = get_or-empty n k

no_list : (v : View) (method : ℕ) → IsPartial v method [] []
no_list v method = record {
  each = λ k d less. absurd (omega arith);
  from = λ k d less. absurd (omega arith);
  all = λ other there through. absurd (omega (arith, there.1));
  order = λ i j d less within. absurd (omega arith);
}

pub partial_begun : (v : View) (rows : List ℕ) (lists : List (List ℕ)) → rows ≡ [] → lists ≡ replicate (count_of v methods) [] → ArePartial v rows lists
partial_begun v rows lists none e = subst (λ rs. ArePartial v rs lists) (sym none) (subst (λ ls. ArePartial v [] ls) (sym e) (record {
  size = length-replicate (count_of v methods) [];
  each = λ method there. subst (λ l. IsPartial v method [] l) (sym (get_or-empty (count_of v methods) (method - 1))) (no_list v method);
}))

earlier_too : (rows : List ℕ) (row : ℕ) (list : List ℕ) → All (Contains rows) list → All (Contains (rows ++ row ∷ [])) list
earlier_too rows row list from = All-weaker (Contains rows) (Contains (rows ++ row ∷ [])) (λ other there. Contains-append_left rows (row ∷ []) other there) list from

list_more : (v : View) (method row : ℕ) (rows old : List ℕ) → All (λ r. IsBefore v r row) rows → IsPartial v method rows old → OverridesThrough v row method → IsPartial v method (rows ++ row ∷ []) (old ++ row ∷ [])
list_more v method row rows old before is through = record {
  each = All-push (λ other. OverridesThrough v other method) old row is.each through;
  from = All-push (Contains (rows ++ row ∷ [])) old row (earlier_too rows row old is.from) (Contains-push rows row);
  all = λ other there over. ⊎_elim
      (λ earlier. Contains-append_left old (row ∷ []) other (is.all other earlier over))
      (λ e. subst (Contains (old ++ row ∷ [])) e (Contains-push old row))
      (Contains-push_cases rows row other there);
  order = all_pairs_push (IsBefore v) old row is.order (λ k d less. All-contains (λ r. IsBefore v r row) rows (get_or old k d) before (is.from k d less));
}

list_same : (v : View) (method row : ℕ) (rows list : List ℕ) → IsPartial v method rows list → (OverridesThrough v row method → ⊥) → IsPartial v method (rows ++ row ∷ []) list
list_same v method row rows list is none = record {
  each = is.each;
  from = earlier_too rows row list is.from;
  all = λ other there over. ⊎_elim
      (λ earlier. is.all other earlier over)
      (λ e. absurd (none (subst (λ r. OverridesThrough v r method) (sym e) over)))
      (Contains-push_cases rows row other there);
  order = is.order;
}

list_on : (v : View) (method row : ℕ) (rows old new : List ℕ) → All (λ r. IsBefore v r row) rows → IsPartial v method rows old → IsAdded v row method old new → IsPartial v method (rows ++ row ∷ []) new
list_on v method row rows old new before is added = ⊎_elim
    (λ more. subst (λ l. IsPartial v method (rows ++ row ∷ []) l) (sym more.1) (list_more v method row rows old before is more.0))
    (λ same. subst (λ l. IsPartial v method (rows ++ row ∷ []) l) (sym same.1) (list_same v method row rows old is same.0))
    added

-- the rows before one of the order come before it
before_in : (v : View) (order : List ℕ) (k row : ℕ) → AllPairs (IsBefore v) order → k < length order → row ≡ get_or order k 0 → All (λ r. IsBefore v r row) (take k order)
before_in v order k row pairs less e =
    λ i d within.
    let below : i < k = omega (arith, length-take k order) in
    subst (λ r. IsBefore v r row) (sym (get_or-take k order i d below))
    (subst (λ r. IsBefore v (get_or order i d) r) (get_or_default order k d 0 less ∙ sym e) (pairs i k d below less))

pub partial_more : (v : View) (order : List ℕ) (k row : ℕ) (lists news : List (List ℕ)) → AreOrdered v order → k < length order → row ≡ get_or order k 0 → ArePartial v (take k order) lists → AreAdded v row lists news
    → ArePartial v (take (k + 1) order) news
partial_more v order k row lists news ordered less e are added =
    let same : take (k + 1) order ≡ take k order ++ row ∷ [] = take_more order k 0 less ∙ ap (λ r. take k order ++ r ∷ []) (sym e) in
    subst (λ rows. ArePartial v rows news) (sym same) (record {
      size = added.size ∙ are.size;
      each = λ method there.
          list_on v method row (take k order) (overriders_in lists method) (overriders_in news method) (before_in v order k row ordered.order less e) (are.each method there) (added.each method there);
    })

found : (list : List ℕ) (other : ℕ) → Contains list other → list_any (λ row. row == other) list ≡ true
found list other there = list_any_at (λ row. row == other) list there.0 other there.1 (eq-eqb (get_or list there.0 other) other there.2)

whole : (v : View) (order : List ℕ) (method : ℕ) (list : List ℕ) → AreOrdered v order → IsPartial v method order list → AreOverriders v method list
whole v order method list ordered is = record {
  each = recursion_from_All (λ other. OverridesThrough v other method) list is.each;
  all = λ other through. let over = first_of v other method through in found list other (is.all other (ordered.all other over.0 over.1) through);
  order = is.order;
}

pub partial_ended : (v : View) (order rows : List ℕ) (lists : List (List ℕ)) → AreOrdered v order → rows ≡ order → ArePartial v rows lists → AreLists v lists
partial_ended v order rows lists ordered e are = record {
  count = are.size;
  each = λ n list stands.
      let within = slice_get_within lists n list stands in
      let there : IsRow v methods (n + 1) = record { some = omega arith; few = omega (arith, are.size) } in
      let place : (n + 1) - 1 ≡ n = omega arith in
      let same : overriders_in lists (n + 1) ≡ list = ap (λ k. get_or lists k []) place ∙ get_or_from_slice_get lists n list [] stands in
      subst (λ l. AreOverriders v (n + 1) l) same (whole v order (n + 1) (overriders_in lists (n + 1)) ordered (subst (λ rs. IsPartial v (n + 1) rs (overriders_in lists (n + 1))) e (are.each (n + 1) there)));
}
