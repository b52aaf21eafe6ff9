-- Numbers in the order of their rows.
use Rattle.std.proofs.Common.{◌≡◌, ◌≢◌, ℕ, zero, suc, ◌+◌, ◌<◌, ◌≤◌, Bool, List, [], ◌∷◌, ◌++◌, length, get_or, Option, Some, None, refl, sym, ap, ◌∙◌, subst, ⊎_elim, arith}
use Rattle.std.specs.Prelude.{All, Contains, IsSome, nat_eq, slice_get}
use Rattle.std.specs.Cmp.{IsStrictWeakOrder}
use Rattle.std.specs.List.{AllPairs, IsDistinct}
use Rattle.std.specs.List.Sorted.{IsPermutation, IsSortedBy}
use Rattle.std.specs.Option.{unwrap_or}
use Rattle.std.specs.Ordering.{is_lt, nat_cmp}
use Rattle.std.proofs.lemmas.Bool.{cases_eq, cases_lt, eqb-false, ne_eqb}
use Rattle.std.proofs.lemmas.Cmp.{nat_cmp_total, nat_eq_equiv}
use Rattle.std.proofs.lemmas.List.{get_or-map, length-map, map-append}
use Rattle.std.proofs.lemmas.List.Elements.{All-map, All-push, All-weaker, Contains-append_left, Contains-push, recursion_from_All}
use Rattle.std.proofs.lemmas.List.Quantifiers.{all_pairs_push}
use Rattle.std.proofs.lemmas.List.Sorted.{All-permutation, Contains-permutation, IsPermutation-map, ranks_by, sorted_far}
use Rattle.std.proofs.lemmas.Map.Keys.{IsDistinct-IsPermutation, IsDistinct-from_apart, apart_from_distinct, ge_from_not_lt}
use Rattle.std.proofs.lemmas.Option.{same_Some, slice_get-get_or, slice_get_within}
use Rattle.px_tables.specs.Metadata.{View}
use Rattle.px_link_types.specs.Keys.{alone}
use Rattle.px_link_types.specs.Parts.{IsKept}
use Rattle.px_link_types.specs.declared.key.Key.{Key}
use Rattle.px_link_types.specs.declared.key.Leaf.{Leaf}
use Rattle.px_link_types.specs.declared.key.Leaf.TheVariants.{Number, Library, Defined}
use Rattle.px_link.specs.Layout.{AreInRowOrder, row_of, row_of_key, type_row}
use Rattle.px_link.specs.Placed.{ArePlaced, IsApart, numbers_placed}
use Rattle.px_link.specs.declared.layout.Placed.{Placed}
use Rattle.px_link.proofs.LinkedBases.{all_apart, number_at}
use Rattle.px_link_methods.proofs.RowPlaces.{in_at}

-- ONE NUMBER AFTER ANOTHER

-- the numbers below some that have a row, each with its row
pub record ArePlacedBelow (row : ℕ → Option ℕ) (k : ℕ) (placed : List Placed) : Type 0 where
  pub each : All (λ p. row p.number ≡ Some p.row) placed
  pub all : (n r : ℕ) → n < k → row n ≡ Some r → Contains (numbers_placed placed) n
  pub few : All (λ n. n < k) (numbers_placed placed)
  pub rising : AllPairs (λ n later. n < later) (numbers_placed placed)

pub placed_none : (row : ℕ → Option ℕ) (items : List Placed) → items ≡ [] → ArePlacedBelow row 0 items
placed_none row items e = subst (λ xs. ArePlacedBelow row 0 xs) (sym e) (record {
  each = λ k d less. absurd (omega arith);
  all = λ n r less is. absurd (omega arith);
  few = λ k d less. absurd (omega arith);
  rising = λ i j d less within. absurd (omega arith);
})

few_more : (k : ℕ) (numbers : List ℕ) → All (λ n. n < k) numbers → All (λ n. n < k + 1) numbers
few_more k numbers few = All-weaker (λ n. n < k) (λ n. n < k + 1) (λ n less. omega arith) numbers few

some_none : (o : Option ℕ) (r : ℕ) → o ≡ None → o ≡ Some r → ⊥
some_none o r none some = cc

-- a number that has no row
pub placed_skip : (row : ℕ → Option ℕ) (k : ℕ) (items : List Placed) → ArePlacedBelow row k items → row k ≡ None → ArePlacedBelow row (k + 1) items
placed_skip row k items are none = record {
  each = are.each;
  all = λ n r few is. ⊎_elim
      (λ e. absurd (some_none (row k) r none (subst (λ m. row m ≡ Some r) e is)))
      (λ ne. are.all n r (omega arith) is)
      (cases_eq n k);
  few = few_more k (numbers_placed items) are.few;
  rising = are.rising;
}

numbers_push : (items : List Placed) (x : Placed) → numbers_placed (items ++ x ∷ []) ≡ numbers_placed items ++ x.number ∷ []
numbers_push items x = map-append (λ (p : Placed). p.number) items (x ∷ [])

pub placed_more : (row : ℕ → Option ℕ) (k : ℕ) (items news : List Placed) (x : Placed) → ArePlacedBelow row k items → row k ≡ Some x.row → x.number ≡ k → news ≡ items ++ x ∷ [] → ArePlacedBelow row (k + 1) news
placed_more row k items news x are is number e = subst (λ xs. ArePlacedBelow row (k + 1) xs) (sym e) (record {
  each = All-push (λ (p : Placed). row p.number ≡ Some p.row) items x are.each (subst (λ n. row n ≡ Some x.row) (sym number) is);
  all = λ n r few has. subst (λ ns. Contains ns n) (sym (numbers_push items x)) (⊎_elim
      (λ last. subst (λ m. Contains (numbers_placed items ++ x.number ∷ []) m) (number ∙ sym last) (Contains-push (numbers_placed items) x.number))
      (λ earlier. Contains-append_left (numbers_placed items) (x.number ∷ []) n (are.all n r (omega arith) has))
      (cases_eq n k));
  few = subst (λ ns. All (λ n. n < k + 1) ns) (sym (numbers_push items x)) (All-push (λ n. n < k + 1) (numbers_placed items) x.number (few_more k (numbers_placed items) are.few) (omega arith));
  rising = subst (λ ns. AllPairs (λ n later. n < later) ns) (sym (numbers_push items x))
      (all_pairs_push (λ n later. n < later) (numbers_placed items) x.number are.rising (λ i d less. let few = are.few i d less in omega arith));
})

pub placed_all : (row : ℕ → Option ℕ) (k : ℕ) (items : List Placed) → ((n r : ℕ) → row n ≡ Some r → n < k) → ArePlacedBelow row k items → ArePlaced row items
placed_all row k items below are = record { each = are.each; all = λ n r is. are.all n r (below n r is) is; rising = are.rising }

-- IN THEIR ORDER

abbrev pub comes_first : Placed → Placed → Bool
comes_first one other = is_lt (nat_cmp one.row other.row)

pub comes_first_weak : IsStrictWeakOrder comes_first
comes_first_weak = ranks_by nat_cmp_total (λ (p : Placed). p.row)

abbrev nothing : Placed
nothing = record { row = 0; number = 0 }

distinct : (row : ℕ → Option ℕ) (placed : List Placed) → ArePlaced row placed → IsDistinct nat_eq (numbers_placed placed)
distinct row placed are = IsDistinct-from_apart nat_eq (numbers_placed placed) (λ i j d less within.
    let rises = are.rising i j d less within in
    ne_eqb (get_or (numbers_placed placed) i d) (get_or (numbers_placed placed) j d) (λ e. omega arith))

some_row : (o : Option ℕ) (r : ℕ) → o ≡ Some r → unwrap_or o 0 ≡ r
some_row o r is = ap (λ o. unwrap_or o 0) is

is_some : (o : Option ℕ) (r : ℕ) → o ≡ Some r → IsSome o
is_some o r is = subst IsSome (sym is) refl

row_there : (o : Option ℕ) → IsSome o → (r : ℕ) × (o ≡ Some r)
row_there None some = absurd (cc)
row_there (Some r) some = (r, refl)

contained : (ns : List ℕ) (n : ℕ) → Contains ns n → (k : ℕ) × (slice_get ns k ≡ Some n)
contained ns n has = (has.0, slice_get-get_or ns has.0 n has.1 ∙ ap (λ m. Some m) has.2)

rises : (row : ℕ → Option ℕ) (sorted : List Placed) → IsApart row → All (λ p. row p.number ≡ Some p.row) sorted → IsSortedBy comes_first sorted → IsDistinct nat_eq (numbers_placed sorted)
    → AllPairs (λ n later. unwrap_or (row n) 0 < unwrap_or (row later) 0) (numbers_placed sorted)
rises row sorted one_each each up apart = λ i j d less within.
    let inside : j < length sorted = simp (length-map) at within in
    let one = get_or sorted i nothing in
    let other = get_or sorted j nothing in
    let first : get_or (numbers_placed sorted) i d ≡ one.number = get_or-map (λ (p : Placed). p.number) sorted i nothing d (omega arith) in
    let second : get_or (numbers_placed sorted) j d ≡ other.number = get_or-map (λ (p : Placed). p.number) sorted j nothing d inside in
    let one_row : row one.number ≡ Some one.row = each i nothing (omega arith) in
    let other_row : row other.number ≡ Some other.row = each j nothing inside in
    let differ : one.row ≢ other.row = λ e.
    eqb-false (get_or (numbers_placed sorted) i d) (get_or (numbers_placed sorted) j d) (apart_from_distinct nat_eq (numbers_placed sorted) i j d apart less within)
    (first ∙ one_each one.number other.number one.row one_row (other_row ∙ ap (λ r. Some r) (sym e)) ∙ sym second) in
    let not_after : one.row ≤ other.row = ge_from_not_lt other.row one.row (sorted_far comes_first comes_first_weak sorted up i j nothing (omega arith) inside) in
    let before : one.row < other.row = omega arith in
    subst (λ n. unwrap_or (row n) 0 < unwrap_or (row (get_or (numbers_placed sorted) j d)) 0) (sym first)
    (subst (λ n. unwrap_or (row one.number) 0 < unwrap_or (row n) 0) (sym second) (omega (arith, before, some_row (row one.number) one.row one_row, some_row (row other.number) other.row other_row)))

pub ordered : (row : ℕ → Option ℕ) (placed sorted : List Placed) (numbers : List ℕ) → IsApart row → ArePlaced row placed → IsPermutation placed sorted → IsSortedBy comes_first sorted → numbers ≡ numbers_placed sorted → AreInRowOrder row numbers
ordered row placed sorted numbers one_each are moved up e =
    let Has : Placed → Type 0 = λ p. row p.number ≡ Some p.row in
    let each : All (λ p. row p.number ≡ Some p.row) sorted = All-permutation Has placed sorted moved are.each in
    let moved_numbers : IsPermutation (numbers_placed placed) (numbers_placed sorted) = IsPermutation-map (λ (p : Placed). p.number) placed sorted moved in
    let apart : IsDistinct nat_eq (numbers_placed sorted) = IsDistinct-IsPermutation nat_eq nat_eq_equiv.symm (numbers_placed placed) (numbers_placed sorted) moved_numbers (distinct row placed are) in
    subst (λ ns. AreInRowOrder row ns) (sym e) (record {
      each = recursion_from_All (λ n. IsSome (row n)) (numbers_placed sorted)
          (All-map (λ n. IsSome (row n)) (λ (p : Placed). p.number) sorted (All-weaker Has (λ p. IsSome (row p.number)) (λ p is. is_some (row p.number) p.row is) sorted each));
      all = λ n some.
          let r = row_there (row n) some in
          let at = contained (numbers_placed sorted) n (Contains-permutation (numbers_placed placed) (numbers_placed sorted) n moved_numbers (are.all n r.0 r.1)) in
          in_at (numbers_placed sorted) at.0 n at.1;
      rising = rises row sorted one_each each up apart;
    })

-- TYPES

key_by : (depth : ℕ) (leaf : Leaf) (r : ℕ) → row_of depth leaf ≡ Some r → record { depth = depth; leaf = leaf } ≡ alone (Defined r)
key_by zero (Number integer) r is = absurd (cc)
key_by zero (Library number) r is = absurd (cc)
key_by zero (Defined row) r is = ap (λ row. alone (Defined row)) (same_Some row r is)
key_by (suc depth) leaf r is = absurd (cc)

key_there : (key : Option Key) (r : ℕ) → row_of_key key ≡ Some r → key ≡ Some (alone (Defined r))
key_there None r is = absurd (cc)
key_there (Some key) r is = ap (λ key. Some key) (key_by key.depth key.leaf r is)

pub type_there : (keys : List Key) (n r : ℕ) → type_row keys n ≡ Some r → slice_get keys n ≡ Some (alone (Defined r))
type_there keys n r is = key_there (slice_get keys n) r is

pub type_below : (keys : List Key) (n r : ℕ) → type_row keys n ≡ Some r → n < length keys
type_below keys n r is = slice_get_within keys n (alone (Defined r)) (type_there keys n r is)

pub types_apart : (v : View) (keys : List Key) → IsKept v keys → IsApart (type_row keys)
types_apart v keys kept n m r one other =
    let apart = all_apart kept.numbers in
    sym (number_at keys n (alone (Defined r)) apart (type_there keys n r one)) ∙ number_at keys m (alone (Defined r)) apart (type_there keys m r other)

-- METHODS

at_is : (rows : List ℕ) (n r : ℕ) → slice_get rows n ≡ Some r → get_or rows n 0 ≡ r
at_is rows n r is = same_Some (get_or rows n 0) r (sym (slice_get-get_or rows n 0 (slice_get_within rows n r is)) ∙ is)

not_later : (rows : List ℕ) (n m r : ℕ) → IsDistinct nat_eq rows → slice_get rows n ≡ Some r → slice_get rows m ≡ Some r → n < m → ⊥
not_later rows n m r distinct one other less =
    eqb-false (get_or rows n 0) (get_or rows m 0) (apart_from_distinct nat_eq rows n m 0 distinct less (slice_get_within rows m r other)) (at_is rows n r one ∙ sym (at_is rows m r other))

pub rows_apart : (rows : List ℕ) → IsDistinct nat_eq rows → IsApart (slice_get rows)
rows_apart rows distinct n m r one other =
    let first : n < m → ⊥ = not_later rows n m r distinct one other in
    let second : m < n → ⊥ = not_later rows m n r distinct other one in
    ⊎_elim (λ less. absurd (first less)) (λ more. ⊎_elim (λ less. absurd (second less)) (λ same. omega arith) (cases_lt m n)) (cases_lt n m)
