-- The methods that override some, by row and in their order.
use Rattle.std.proofs.Common.{◌≡◌, ◌≢◌, ℕ, ◌+◌, ◌<◌, ◌≤◌, Bool, true, false, List, [], ◌∷◌, ◌++◌, length, get_or, Option, Some, None, Ordering, refl, sym, ap, ◌∙◌, subst, ⊎_elim, arith}
use Rattle.std.specs.Prelude.{All, Contains, nat_eq}
use Rattle.std.specs.Cmp.{IsStrictWeakOrder, IsTotalOrder}
use Rattle.std.specs.Cmp.Lexicographic.{slice_cmp}
use Rattle.std.specs.List.{AllPairs, IsDistinct}
use Rattle.std.specs.List.Sorted.{IsPermutation, IsSortedBy}
use Rattle.std.specs.Option.{is_some}
use Rattle.std.specs.Ordering.{MatchOrdering, is_lt, nat_cmp, ordering_reverse, ordering_then}
use Rattle.std.specs.declared.cmp.Ordering.TheVariants.{Equal, Greater, Less}
use Rattle.std.proofs.lemmas.Bool.{cases_eq, eqb-false, false≢true, ne_eqb}
use Rattle.std.proofs.lemmas.Cmp.{by_ranked, nat_cmp_total, nat_eq_equiv, nat_list_cmp_total, on_total, ranked, then_total}
use Rattle.std.proofs.lemmas.List.{get_or-map, length-map, map-append}
use Rattle.std.proofs.lemmas.List.Elements.{All-map, All-push, All-weaker, Contains-append_left, Contains-push}
use Rattle.std.proofs.lemmas.List.Quantifiers.{all_pairs_push}
use Rattle.std.proofs.lemmas.List.Sorted.{All-permutation, Contains-permutation, IsPermutation-map, ranks_by, sorted_far}
use Rattle.std.proofs.lemmas.Map.Keys.{IsDistinct-IsPermutation, IsDistinct-from_apart, apart_from_distinct}
use Rattle.px_meta.proofs.Alike.{owner_row}
use Rattle.px_meta.proofs.Overridden.{overrides_may}
use Rattle.px_meta.specs.Members.{owner_of}
use Rattle.px_meta.specs.Overriding.{Overrides}
use Rattle.px_meta.specs.Rows.{IsRow, count_of, methods, type_defs}
use Rattle.px_tables.specs.Metadata.{View}
use Rattle.px_link_reach.specs.Overriders.{IsBefore}
use Rattle.px_link_reach.specs.Parts.{AreNamed, AreOrdered, IsNamed, IsParent, by_name_and_row, rows_named}
use Rattle.px_link_reach.specs.declared.order.Named.{Named}

-- BY ROW

pub overrides_some : (v : View) (method : ℕ) (parent : Option ℕ) → IsParent v method parent → is_some parent ≡ true → (other : ℕ) × Overrides v method other
overrides_some v method None none some = absurd (false≢true some)
overrides_some v method (Some other) is some = (other, is)

pub overrides_none : (v : View) (method : ℕ) (parent : Option ℕ) → IsParent v method parent → is_some parent ≡ false → (other : ℕ) → Overrides v method other → ⊥
overrides_none v method None none not = none
overrides_none v method (Some other) is not = absurd (false≢true (sym not))

-- the owner of a method that overrides some
pub owner_there : (v : View) (method : ℕ) (parent : Option ℕ) → IsParent v method parent → is_some parent ≡ true → IsRow v type_defs (owner_of v methods method)
owner_there v method parent is some =
    let over = overrides_some v method parent is some in
    owner_row v methods method (owner_of v methods method) refl (overrides_may v method over.0 over.1).owned

pub named_none : (v : View) (n : ℕ) (items : List Named) → n ≡ 0 → items ≡ [] → AreNamed v n items
named_none v n items none e = subst (λ k. AreNamed v k items) (sym none) (subst (λ xs. AreNamed v 0 xs) (sym e) (record {
  each = λ k d less. absurd (omega arith);
  all = λ method other few over. let may = overrides_may v method other over in absurd (omega (arith, may.row.some));
  few = λ k d less. absurd (omega arith);
  rising = λ i j d less within. absurd (omega arith);
}))

few_more : (n : ℕ) (rows : List ℕ) → All (λ row. row ≤ n) rows → All (λ row. row ≤ n + 1) rows
few_more n rows few = All-weaker (λ row. row ≤ n) (λ row. row ≤ n + 1) (λ row less. omega arith) rows few

-- a method that overrides none
pub named_skip : (v : View) (n : ℕ) (items : List Named) → AreNamed v n items → ((o : ℕ) → Overrides v (n + 1) o → ⊥) → AreNamed v (n + 1) items
named_skip v n items are nobody = record {
  each = are.each;
  all = λ method other few over. ⊎_elim
      (λ e. absurd (nobody other (subst (λ m. Overrides v m other) e over)))
      (λ ne. are.all method other (omega arith) over)
      (cases_eq method (n + 1));
  few = few_more n (rows_named items) are.few;
  rising = are.rising;
}

rows_push : (items : List Named) (x : Named) → rows_named (items ++ x ∷ []) ≡ rows_named items ++ x.row ∷ []
rows_push items x = map-append (λ (m : Named). m.row) items (x ∷ [])

pub named_more : (v : View) (n : ℕ) (items news : List Named) (x : Named) → AreNamed v n items → IsNamed v x → x.row ≡ n + 1 → news ≡ items ++ x ∷ [] → AreNamed v (n + 1) news
named_more v n items news x are is row e = subst (λ xs. AreNamed v (n + 1) xs) (sym e) (record {
  each = All-push (IsNamed v) items x are.each is;
  all = λ method other few over. subst (λ rows. Contains rows method) (sym (rows_push items x)) (⊎_elim
      (λ last. subst (λ m. Contains (rows_named items ++ x.row ∷ []) m) (row ∙ sym last) (Contains-push (rows_named items) x.row))
      (λ earlier. Contains-append_left (rows_named items) (x.row ∷ []) method (are.all method other (omega arith) over))
      (cases_eq method (n + 1)));
  few = subst (λ rows. All (λ r. r ≤ n + 1) rows) (sym (rows_push items x)) (All-push (λ r. r ≤ n + 1) (rows_named items) x.row (few_more n (rows_named items) are.few) (omega arith));
  rising = subst (λ rows. AllPairs (λ r later. r < later) rows) (sym (rows_push items x))
      (all_pairs_push (λ r later. r < later) (rows_named items) x.row are.rising (λ k d less. let few = are.few k d less in omega arith));
})

-- IN THEIR ORDER

abbrev pub comes_first : Named → Named → Bool
comes_first one other = is_lt (by_name_and_row one other)

total : IsTotalOrder by_name_and_row
total = then_total (on_total (λ (m : Named). m.owner) nat_list_cmp_total) (on_total (λ (m : Named). m.row) nat_cmp_total)

pub comes_first_weak : IsStrictWeakOrder comes_first
comes_first_weak = ranks_by total (λ (m : Named). m)

by_order : (o back : Ordering) (row other : ℕ) → back ≡ ordering_reverse o → is_lt (ordering_then back (nat_cmp other row)) ≡ false → row ≢ other → MatchOrdering o (Unit {0}) (row < other) ⊥
by_order Less back row other e not apart = tt
by_order Equal back row other e not apart =
    let tied : is_lt (nat_cmp other row) ≡ false = subst (λ b. is_lt (ordering_then b (nat_cmp other row)) ≡ false) e not in
    by_ranked (other < row) (other ≡ row) (row < other) (nat_cmp other row) (ranked other row (nat_cmp other row) refl)
    (λ less below. absurd (false≢true (sym tied ∙ ap is_lt less)))
    (λ same is. absurd (apart (sym is)))
    (λ more above. above)
by_order Greater back row other e not apart = absurd (false≢true (sym (subst (λ b. is_lt (ordering_then b (nat_cmp other row)) ≡ false) e not)))

before_by : (v : View) (one other : Named) → IsNamed v one → IsNamed v other → comes_first other one ≡ false → one.row ≢ other.row → IsBefore v one.row other.row
before_by v one other is other_is not apart = record {
  type = one.owner;
  other_type = other.owner;
  type_is = is.name;
  other_type_is = other_is.name;
  before = by_order (slice_cmp nat_cmp one.owner other.owner) (slice_cmp nat_cmp other.owner one.owner) one.row other.row (nat_list_cmp_total.antisymm other.owner one.owner) not apart;
}

abbrev nobody : Named
nobody = record { owner = []; row = 0 }

distinct : (v : View) (n : ℕ) (items : List Named) → AreNamed v n items → IsDistinct nat_eq (rows_named items)
distinct v n items are = IsDistinct-from_apart nat_eq (rows_named items) (λ i j d less within.
    let rises = are.rising i j d less within in
    ne_eqb (get_or (rows_named items) i d) (get_or (rows_named items) j d) (λ e. omega arith))

row_at : (items : List Named) (i d : ℕ) → i < length items → get_or (rows_named items) i d ≡ (get_or items i nobody).row
row_at items i d less = get_or-map (λ (m : Named). m.row) items i nobody d less

in_order : (v : View) (sorted : List Named) → All (IsNamed v) sorted → IsSortedBy comes_first sorted → IsDistinct nat_eq (rows_named sorted) → AllPairs (IsBefore v) (rows_named sorted)
in_order v sorted each up apart = λ i j d less within.
    let inside : j < length sorted = simp (length-map) at within in
    let one = get_or sorted i nobody in
    let other = get_or sorted j nobody in
    let first = row_at sorted i d (omega arith) in
    let second = row_at sorted j d inside in
    let differ : one.row ≢ other.row = λ e. eqb-false (get_or (rows_named sorted) i d) (get_or (rows_named sorted) j d) (apart_from_distinct nat_eq (rows_named sorted) i j d apart less within) (first ∙ e ∙ sym second) in
    let before = before_by v one other (each i nobody (omega arith)) (each j nobody inside) (sorted_far comes_first comes_first_weak sorted up i j nobody (omega arith) inside) differ in
    subst (λ r. IsBefore v r (get_or (rows_named sorted) j d)) (sym first) (subst (λ r. IsBefore v one.row r) (sym second) before)

pub ordered : (v : View) (n : ℕ) (items sorted : List Named) (rows : List ℕ) → n ≡ count_of v methods → AreNamed v n items → IsPermutation items sorted → IsSortedBy comes_first sorted → rows ≡ rows_named sorted → AreOrdered v rows
ordered v n items sorted rows whole are moved up e =
    let each : All (IsNamed v) sorted = All-permutation (IsNamed v) items sorted moved are.each in
    let moved_rows : IsPermutation (rows_named items) (rows_named sorted) = IsPermutation-map (λ (m : Named). m.row) items sorted moved in
    let apart : IsDistinct nat_eq (rows_named sorted) = IsDistinct-IsPermutation nat_eq nat_eq_equiv.symm (rows_named items) (rows_named sorted) moved_rows (distinct v n items are) in
    subst (λ rs. AreOrdered v rs) (sym e) (record {
      each = All-map (IsRow v methods) (λ (m : Named). m.row) sorted (All-weaker (IsNamed v) (λ m. IsRow v methods m.row) (λ m is. is.row) sorted each);
      all = λ method other over.
          let may = overrides_may v method other over in
          Contains-permutation (rows_named items) (rows_named sorted) method moved_rows (are.all method other (omega (arith, may.row.few)) over);
      order = in_order v sorted each up apart;
    })
