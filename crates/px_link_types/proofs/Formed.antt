-- The types that keys stand for are well formed.
use Rattle.std.proofs.Common.{◌≡◌, ℕ, zero, suc, ◌+◌, ◌-◌, ◌/◌, ◌%◌, ◌^◌, ◌<◌, ◌≤◌, true, false, List, [], ◌∷◌, ◌++◌, length, map, Option, Some, None, refl, sym, ap, ◌∙◌, subst, ⊎_elim, arith, rules}
use Rattle.std.specs.Prelude.{◌==◌, IfSome, IsSome, slice_get}
use Rattle.std.specs.List.{AllByRecursion}
use Rattle.std.proofs.lemmas.Bool.{and_left, cases_lt, cond_both, ne_eqb, or_cases}
use Rattle.std.proofs.lemmas.Option.{same_Some, slice_get_within}
use Rattle.px_meta.specs.Chains.{HasEnd as EndsAt, base_in as base_row}
use Rattle.px_meta.specs.Faults.{Bases, IsFaultless}
use Rattle.px_meta.specs.Rows.{IsRow, cell, count_of, some_row, type_defs}
use Rattle.px_meta.specs.declared.fault.MetaKind.TheVariants.{CycleOfBases}
use Rattle.px_program.specs.Formed.{AreTypes, FitsPlace, HasEnd, IsArray, IsBase, IsFormedType, IsInteger, base_in, base_of as base_at, element_in, element_of, has_element, type_in}
use Rattle.px_program.specs.Library.{library_types}
use Rattle.px_program.specs.declared.program.TypeInfo.{TypeInfo}
use Rattle.px_program.proofs.Chains.{FallsBy, every_chain_ends, falls_below}
use Rattle.px_program.proofs.Types.{AreTypes-more, FitsPlace-integer, IsBase-library, IsFormedType-array, each_at}
use Rattle.px_sig.specs.declared.sig.Integer.{Integer}
use Rattle.px_sig.specs.declared.sig.Integer.TheVariants as integers
use Rattle.px_tables.specs.Metadata.{IsSound, View}
use Rattle.px_link_types.specs.declared.key.Key.{Key}
use Rattle.px_link_types.specs.declared.key.Leaf.{Leaf}
use Rattle.px_link_types.specs.declared.key.Leaf.TheVariants.{Number, Library, Defined}
use Rattle.px_link_types.specs.Infos.{AreInfos, IsDefined, IsInfoOf, number_in}
use Rattle.px_link_types.specs.Keys.{alone}
use Rattle.px_link_types.specs.Numbers.{base_leaf, field_key, has_key, instance_fields, integer_place, is_integer, is_integer_leaf, is_numbered, leaf_keys, number_of, place_in, place_of_leaf, static_fields}
use Rattle.px_link_types.specs.Making.{AreKnown, AreNumberedIn, IsKnown, IsMade}
use Rattle.px_link_types.proofs.Closed.{each-back, each-front}
use Rattle.px_link_types.proofs.Ends.{LeadsBelow, fewer_left, has_end, steps_left}
use Rattle.px_link_types.proofs.Keyed.{at_number, number_below}
use Rattle.px_link_types.proofs.Known.{at_behind, known_at, library_at, made_at}
use Rattle.px_link_types.proofs.There.{IsBaseLeaf, base_leaf_there, row_there}

-- WHAT A KEY STANDS FOR

integer_fits : (integer : Integer) → IsInteger (integer_place integer)
integer_fits integers.Bool = tt
integer_fits integers.Char = tt
integer_fits integers.I1 = tt
integer_fits integers.U1 = tt
integer_fits integers.I2 = tt
integer_fits integers.U2 = tt
integer_fits integers.I4 = tt
integer_fits integers.U4 = tt
integer_fits integers.I8 = tt
integer_fits integers.U8 = tt
integer_fits integers.N = tt
integer_fits integers.UN = tt

-- a type that isn't an integer has its number among the keys
pub has_by : (keys : List Key) (key : Key) → is_integer key ≡ false → is_numbered keys key ≡ true → has_key keys key ≡ true
has_by keys key other is = ⊎_elim (λ integer. absurd (cc)) (λ has. has) (or_cases (is_integer key) (has_key keys key) is)

array_no_integer : (depth : ℕ) (leaf : Leaf) → is_integer (record { depth = suc depth; leaf = leaf }) ≡ false
array_no_integer depth leaf = and_left (suc depth == 0) (is_integer_leaf leaf) (ne_eqb (suc depth) 0 (λ e. omega arith))

pub place_fits : (keys : List Key) (types : List TypeInfo) → length types ≡ length keys → (depth : ℕ) (leaf : Leaf) → is_numbered keys (record { depth = depth; leaf = leaf }) ≡ true → FitsPlace types (place_of_leaf keys depth leaf)
place_fits keys types size zero (Number integer) is = FitsPlace-integer types (integer_place integer) (integer_fits integer)
place_fits keys types size zero (Library number) is = omega (arith, size, number_below keys (alone (Library number)) (has_by keys (alone (Library number)) refl is))
place_fits keys types size zero (Defined row) is = omega (arith, size, number_below keys (alone (Defined row)) (has_by keys (alone (Defined row)) refl is))
place_fits keys types size (suc depth) leaf is = omega (arith, size, number_below keys (record { depth = suc depth; leaf = leaf }) (has_by keys (record { depth = suc depth; leaf = leaf }) (array_no_integer depth leaf) is))

places_fit : (v : View) (keys : List Key) (types : List TypeInfo) → length types ≡ length keys → (rows : List ℕ) → AreNumberedIn keys (map (field_key v) rows) → AllByRecursion (FitsPlace types) (map (λ f. place_in keys (field_key v f)) rows)
places_fit v keys types size [] are = tt
places_fit v keys types size (row ∷ rows) are = (place_fits keys types size (field_key v row).depth (field_key v row).leaf are.0, places_fit v keys types size rows are.1)

-- what is known of types and of the keys that they stand for
record StandFor (v : View) (keys : List Key) (types : List TypeInfo) : Type 0 where
  pub sound : IsSound v
  pub faultless : IsFaultless v
  pub known : AreKnown v keys
  pub infos : AreInfos v keys types

-- a place in a list has what stands there, or is past the end
pub at_place : {X : Type 0} (xs : List X) (n : ℕ) → n < length xs → (x : X) × (slice_get xs n ≡ Some x)
at_place [] n less = absurd (omega arith)
at_place (x ∷ xs) zero less = (x, refl)
at_place (x ∷ xs) (suc n) less = at_place xs n (omega arith)

info_at : (v : View) (keys : List Key) (types : List TypeInfo) → StandFor v keys types → (n : ℕ) (key : Key) → slice_get keys n ≡ Some key → (info : TypeInfo) × ((slice_get types n ≡ Some info) × IsInfoOf v keys key.depth key.leaf info)
info_at v keys types s n key is =
    let info = at_place types n (omega (arith, s.infos.count, slice_get_within keys n key is)) in
    (info.0, (info.1, s.infos.each n key info.0 is info.1))

key_at : (v : View) (keys : List Key) (types : List TypeInfo) → StandFor v keys types → (n : ℕ) (info : TypeInfo) → slice_get types n ≡ Some info → (key : Key) × ((slice_get keys n ≡ Some key) × IsInfoOf v keys key.depth key.leaf info)
key_at v keys types s n info is =
    let key = at_place keys n (omega (arith, s.infos.count, slice_get_within types n info is)) in
    (key.0, (key.1, s.infos.each n key.0 info key.1 is))

-- THE LIBRARY FIRST

-- a list that begins as another
front_by : {X : Type 0} (xs ys : List X) → ((n : ℕ) → n < length xs → slice_get ys n ≡ slice_get xs n) → (rest : List X) × (ys ≡ xs ++ rest)
front_by [] ys same = (ys, refl)
front_by (x ∷ xs) [] same = absurd (let e = same 0 (omega arith) in cc)
front_by (x ∷ xs) (y ∷ ys) same =
    let rest = front_by xs ys (λ n less. same (suc n) (omega arith)) in
    let first : y ≡ x = same_Some y x (same 0 (omega arith)) in
    (rest.0, (let later = rest.1 in cc))

library_front : (v : View) (keys : List Key) (types : List TypeInfo) → StandFor v keys types → (rest : List TypeInfo) × (types ≡ library_types ++ rest)
library_front v keys types s =
    front_by library_types types (λ n less.
    let info = info_at v keys types s n (alone (Library n)) (library_at v keys s.known n less) in
    info.1.0 ∙ sym info.1.1)

-- EACH TYPE

same_leaf : (one other : Key) → Some one ≡ Some other → one.leaf ≡ other.leaf
same_leaf one other e = ap (λ (key : Key). key.leaf) (same_Some one other e)

no_array : (info : TypeInfo) → info.element ≡ None → has_element (Some info) ≡ false
no_array info none = rw none refl

module _ (v : View) (keys : List Key) (types : List TypeInfo) (s : StandFor v keys types) where
  -- the base of a type by the leaf that it names
  base_known : (base : Leaf) (row : ℕ) → IsBaseLeaf v row base → is_numbered keys (alone base) ≡ true → slice_get keys (number_of keys (alone base)) ≡ Some (alone base)
  base_known (Number integer) row is numbered = absurd is
  base_known (Library number) row is numbered = at_number keys (alone (Library number)) (has_by keys (alone (Library number)) refl numbered)
  base_known (Defined base) row is numbered = at_number keys (alone (Defined base)) (has_by keys (alone (Defined base)) refl numbered)

  -- a place of the library has that type of the library
  library_is : (n number : ℕ) → n < 18 → slice_get keys n ≡ Some (alone (Library number)) → n ≡ number
  library_is n number less is = let same : Library n ≡ Library number = same_leaf (alone (Library n)) (alone (Library number)) (sym (library_at v keys s.known n less) ∙ is) in cc

  library_place : (n number : ℕ) → number < 18 → slice_get keys n ≡ Some (alone (Library number)) → n ≡ number
  library_place n number few is =
      ⊎_elim
      (λ less. library_is n number less is)
      (λ past. absurd (made_at v keys s.known n (alone (Library number)) past is))
      (cases_lt n 18)

  defined_place : (n row : ℕ) → slice_get keys n ≡ Some (alone (Defined row)) → 18 ≤ n
  defined_place n row is =
      ⊎_elim
      (λ less. absurd (let same : Library n ≡ Defined row = same_leaf (alone (Library n)) (alone (Defined row)) (sym (library_at v keys s.known n less) ∙ is) in cc))
      (λ past. past)
      (cases_lt n 18)

  no_element : (info : TypeInfo) (n : ℕ) → slice_get types n ≡ Some info → info.element ≡ None → has_element (slice_get types n) ≡ false
  no_element info n at none = subst (λ o. has_element o ≡ false) (sym at) (no_array info none)

  is_base : (rest : List TypeInfo) → types ≡ library_types ++ rest → (row : ℕ) (base : Leaf) → IsBaseLeaf v row base → (n : ℕ) → slice_get keys n ≡ Some (alone base) → IsBase types n
  is_base rest front row (Number integer) is n at = absurd is
  is_base rest front row (Library number) is n at =
      let same = library_place n number is.0 at in
      subst (λ ts. IsBase ts n) (sym front) (IsBase-library rest n (omega (arith, is.1)))
  is_base rest front row (Defined base) is n at =
      let past = defined_place n base at in
      let info = info_at v keys types s n (alone (Defined base)) at in
      record { there = slice_get_within types n info.0 info.1.0; other = λ e. omega arith; no_array = no_element info.0 n info.1.0 info.1.1.element }

  base_is : (rest : List TypeInfo) → types ≡ library_types ++ rest → (row : ℕ) (base : Option Leaf) → IfSome base (IsBaseLeaf v row) → AreNumberedIn keys (leaf_keys base) → IfSome (number_in keys base) (IsBase types)
  base_is rest front row None is are = tt
  base_is rest front row (Some base) is are = is_base rest front row base is (number_of keys (alone base)) (base_known base row is are.0)

  -- a type of the assembly
  defined_formed : (rest : List TypeInfo) → types ≡ library_types ++ rest → (row : ℕ) (info : TypeInfo) → IsKnown v keys (alone (Defined row)) → IsDefined v keys row info → IsFormedType types info
  defined_formed rest front row info known is =
      let bases = leaf_keys (base_leaf v row) in
      let instances = map (field_key v) (instance_fields v row) in
      let statics = map (field_key v) (static_fields v row) in
      let numbered : Key → Type 0 = λ key. is_numbered keys key ≡ true in
      let own_fields = each-front numbered (bases ++ instances) statics known.own in
      record {
        base = subst (λ o. IfSome o (IsBase types)) (sym is.base) (base_is rest front row (base_leaf v row) (base_leaf_there v row s.sound known.there) (each-front numbered bases instances own_fields));
        element = subst (λ o. IfSome o (FitsPlace types)) (sym is.element) tt;
        array = subst (λ o. IsSome o → IsArray info) (sym is.element) (λ some. absurd (cc));
        fields = subst (λ ps. AllByRecursion (FitsPlace types) ps) (sym is.fields) (places_fit v keys types s.infos.count (instance_fields v row) (each-back numbered bases instances own_fields));
        statics = subst (λ ps. AllByRecursion (FitsPlace types) ps) (sym is.statics) (places_fit v keys types s.infos.count (static_fields v row) (each-back numbered (bases ++ instances) statics known.own));
      }

  made_formed : (rest : List TypeInfo) → types ≡ library_types ++ rest → (depth : ℕ) (leaf : Leaf) (info : TypeInfo) → IsMade depth leaf → IsKnown v keys (record { depth = depth; leaf = leaf }) → IsInfoOf v keys depth leaf info → IsFormedType types info
  made_formed rest front zero (Number integer) info made known is = absurd made
  made_formed rest front zero (Library number) info made known is = absurd made
  made_formed rest front zero (Defined row) info made known is = defined_formed rest front row info known is
  made_formed rest front (suc depth) leaf info made known is =
      subst (IsFormedType types) (sym is)
      (IsFormedType-array types (place_of_leaf keys depth leaf) (subst (λ ts. IsBase ts 0) (sym front) (IsBase-library rest 0 (omega arith))) (place_fits keys types s.infos.count depth leaf known.own.0))

  formed_at : (rest : List TypeInfo) → types ≡ library_types ++ rest → (n : ℕ) (info : TypeInfo) → slice_get rest n ≡ Some info → IsFormedType types info
  formed_at rest front n info at =
      let same : (18 + n) - 18 ≡ n = omega arith in
      let place : slice_get types (18 + n) ≡ Some info = ap (λ ts. slice_get ts (18 + n)) front ∙ at_behind library_types rest (18 + n) (omega arith) ∙ ap (slice_get rest) same ∙ at in
      let key = key_at v keys types s (18 + n) info place in
      made_formed rest front key.0.depth key.0.leaf info (made_at v keys s.known (18 + n) key.0 (omega arith) key.1.0) (known_at v keys s.known (18 + n) key.0 key.1.0) key.1.1

each_from : {X : Type 0} (P : X → Type 0) (xs : List X) → ((n : ℕ) (x : X) → slice_get xs n ≡ Some x → P x) → AllByRecursion P xs
each_from P [] at = tt
each_from P (x ∷ xs) at = (at 0 x refl, each_from P xs (λ n y is. at (suc n) y is))

-- CHAINS OF BASES AND OF ELEMENTS

abbrev row_bound : View → ℕ
row_bound v = suc (count_of v type_defs)

-- a type of the library by its number, then arrays, and then types of the assembly by how many bases they have
abbrev rank_of : View → ℕ → Leaf → ℕ
rank_of v zero (Number integer) = 0
rank_of v zero (Library number) = number
rank_of v zero (Defined row) = 18 + steps_left (base_row v) (row_bound v) row
rank_of v (suc depth) leaf = 18

abbrev rank_in : View → Option Key → ℕ
rank_in v None = 0
rank_in v (Some key) = rank_of v key.depth key.leaf

abbrev depth_in : Option Key → ℕ
depth_in None = 0
depth_in (Some key) = key.depth

base_row_there : (v : View) (row : ℕ) → IfSome (base_row v row) (IsRow v type_defs)
base_row_there v row =
    cond_both (cell v type_defs row 3 % 2 ^ 2 == 0) (some_row v type_defs (cell v type_defs row 3 / 2 ^ 2)) None (λ o. IfSome o (IsRow v type_defs))
    (λ e. row_there v type_defs (cell v type_defs row 3 / 2 ^ 2)) (λ e. tt)

bases_below : (v : View) → LeadsBelow (row_bound v) (base_row v)
bases_below v row base is = let there : IsRow v type_defs base = subst (λ o. IfSome o (IsRow v type_defs)) is (base_row_there v row) in omega (arith, there.few)

base_ends : (v : View) → IsFaultless v → (row : ℕ) → IsRow v type_defs row → EndsAt (base_row v) row
base_ends v faultless row is = has_end (base_row v) (row_bound v) row (bases_below v) (λ none. faultless CycleOfBases type_defs row (Bases row is none))

library_lower : FallsBy (λ number. number) (λ place. base_in (slice_get library_types place))
library_lower = falls_below base_in refl library_types (search rules)

library_without : AllByRecursion (λ (info : TypeInfo). info.element ≡ None) library_types
library_without = search rules

-- the place of an integer is of no type
no_type : (integer : Integer) → type_in (Some (integer_place integer)) ≡ None
no_type integers.Bool = refl
no_type integers.Char = refl
no_type integers.I1 = refl
no_type integers.U1 = refl
no_type integers.I2 = refl
no_type integers.U2 = refl
no_type integers.I4 = refl
no_type integers.U4 = refl
no_type integers.I8 = refl
no_type integers.U8 = refl
no_type integers.N = refl
no_type integers.UN = refl

module _ (v : View) (keys : List Key) (types : List TypeInfo) (s : StandFor v keys types) where
  rank_is : (n : ℕ) (key : Key) → slice_get keys n ≡ Some key → rank_in v (slice_get keys n) ≡ rank_of v key.depth key.leaf
  rank_is n key is = ap (rank_in v) is

  -- the base of a type of the assembly is of lower rank
  lower_base : (row : ℕ) → IsRow v type_defs row → (base : Leaf) → IsBaseLeaf v row base → is_numbered keys (alone base) ≡ true → rank_in v (slice_get keys (number_of keys (alone base))) < 18 + steps_left (base_row v) (row_bound v) row
  lower_base row is (Number integer) base numbered = absurd base
  lower_base row is (Library number) base numbered =
      let rank = rank_is (number_of keys (alone (Library number))) (alone (Library number)) (base_known v keys types s (Library number) row base numbered) in
      omega (arith, rank, base.0)
  lower_base row is (Defined other) base numbered =
      let rank = rank_is (number_of keys (alone (Defined other))) (alone (Defined other)) (base_known v keys types s (Defined other) row base numbered) in
      let fewer = fewer_left (base_row v) (row_bound v) row other (bases_below v) (base_ends v s.faultless row is) base.1 in
      omega (arith, rank, fewer)

  lower_defined : (row : ℕ) → IsRow v type_defs row → (base : Option Leaf) → IfSome base (IsBaseLeaf v row) → AreNumberedIn keys (leaf_keys base) → (behind : ℕ) → number_in keys base ≡ Some behind
      → rank_in v (slice_get keys behind) < 18 + steps_left (base_row v) (row_bound v) row
  lower_defined row is None base are behind e = absurd (cc)
  lower_defined row is (Some leaf) base are behind e =
      let same : number_of keys (alone leaf) ≡ behind = same_Some (number_of keys (alone leaf)) behind e in
      subst (λ n. rank_in v (slice_get keys n) < 18 + steps_left (base_row v) (row_bound v) row) same (lower_base row is leaf base are.0)

  lower_in_library : (number : ℕ) → number < 18 → rank_in v (slice_get keys number) ≡ number
  lower_in_library number less = rank_is number (alone (Library number)) (library_at v keys s.known number less)

  lower_by : (depth : ℕ) (leaf : Leaf) (info : TypeInfo) → IsKnown v keys (record { depth = depth; leaf = leaf }) → IsInfoOf v keys depth leaf info → (behind : ℕ) → info.base ≡ Some behind → rank_in v (slice_get keys behind) < rank_of v depth leaf
  lower_by zero (Number integer) info known is behind e = absurd is
  lower_by zero (Library number) info known is behind e =
      let below : behind < number = library_lower number behind (ap base_in is ∙ e) in
      let there : number < 18 = known.there in
      omega (arith, lower_in_library behind (omega arith))
  lower_by zero (Defined row) info known is behind e =
      let bases = leaf_keys (base_leaf v row) in
      let instances = map (field_key v) (instance_fields v row) in
      let statics = map (field_key v) (static_fields v row) in
      let numbered : Key → Type 0 = λ key. is_numbered keys key ≡ true in
      lower_defined row known.there (base_leaf v row) (base_leaf_there v row s.sound known.there) (each-front numbered bases instances (each-front numbered (bases ++ instances) statics known.own)) behind (sym is.base ∙ e)
  lower_by (suc depth) leaf info known is behind e =
      let zero_is : Some 0 ≡ Some behind = sym (ap (λ (i : TypeInfo). i.base) is) ∙ e in
      let same : 0 ≡ behind = same_Some 0 behind zero_is in
      let rank = lower_in_library behind (omega arith) in
      omega (arith, rank)

  bases_fall : FallsBy (λ n. rank_in v (slice_get keys n)) (base_at types)
  bases_fall number behind is = by_type (slice_get types number) refl is
    where
      by_type : (type : Option TypeInfo) → slice_get types number ≡ type → base_in type ≡ Some behind → rank_in v (slice_get keys behind) < rank_in v (slice_get keys number)
      by_type None at e = absurd (cc)
      by_type (Some info) at e =
          let key = key_at v keys types s number info at in
          let rank = rank_is number key.0 key.1.0 in
          omega (arith, rank, lower_by key.0.depth key.0.leaf info (known_at v keys s.known number key.0 key.1.0) key.1.1 behind e)

  by_number : (key : Key) → is_integer key ≡ false → is_numbered keys key ≡ true → (behind : ℕ) → Some (number_of keys key) ≡ Some behind → depth_in (slice_get keys behind) ≡ key.depth
  by_number key other numbered behind e =
      let same : number_of keys key ≡ behind = same_Some (number_of keys key) behind e in
      subst (λ n. depth_in (slice_get keys n) ≡ key.depth) same (ap depth_in (at_number keys key (has_by keys key other numbered)))

  -- the element of an array is less deep
  shallower : (depth : ℕ) (leaf : Leaf) → is_numbered keys (record { depth = depth; leaf = leaf }) ≡ true → (behind : ℕ) → type_in (Some (place_of_leaf keys depth leaf)) ≡ Some behind → depth_in (slice_get keys behind) ≡ depth
  shallower zero (Number integer) numbered behind e = absurd (let none = no_type integer in cc)
  shallower zero (Library number) numbered behind e = by_number (alone (Library number)) refl numbered behind e
  shallower zero (Defined row) numbered behind e = by_number (alone (Defined row)) refl numbered behind e
  shallower (suc depth) leaf numbered behind e = by_number (record { depth = suc depth; leaf = leaf }) (array_no_integer depth leaf) numbered behind e

  falls_by : (depth : ℕ) (leaf : Leaf) (info : TypeInfo) → IsKnown v keys (record { depth = depth; leaf = leaf }) → IsInfoOf v keys depth leaf info → (behind : ℕ) → element_in (Some info) ≡ Some behind → depth_in (slice_get keys behind) < depth
  falls_by zero (Number integer) info known is behind e = absurd is
  falls_by zero (Library number) info known is behind e = let none = each_at (λ (i : TypeInfo). i.element ≡ None) library_types library_without number info is in absurd (let gone = ap type_in none in cc)
  falls_by zero (Defined row) info known is behind e = absurd (let gone = ap type_in is.element in cc)
  falls_by (suc depth) leaf info known is behind e =
      let place : type_in (Some (place_of_leaf keys depth leaf)) ≡ Some behind = sym (ap (λ i. element_in (Some i)) is) ∙ e in
      omega (arith, shallower depth leaf known.own.0 behind place)

  elements_fall : FallsBy (λ n. depth_in (slice_get keys n)) (element_of types)
  elements_fall number behind is = by_type (slice_get types number) refl is
    where
      by_type : (type : Option TypeInfo) → slice_get types number ≡ type → element_in type ≡ Some behind → depth_in (slice_get keys behind) < depth_in (slice_get keys number)
      by_type None at e = absurd (cc)
      by_type (Some info) at e =
          let key = key_at v keys types s number info at in
          let deep = ap depth_in key.1.0 in
          omega (arith, deep, falls_by key.0.depth key.0.leaf info (known_at v keys s.known number key.0 key.1.0) key.1.1 behind e)

formed_front : (v : View) (keys : List Key) (types rest : List TypeInfo) → StandFor v keys types → types ≡ library_types ++ rest → AreTypes types
formed_front v keys types rest s front =
    subst AreTypes (sym front)
    (AreTypes-more rest
    (subst (λ ts. AllByRecursion (IsFormedType ts) rest) front (each_from (IsFormedType types) rest (formed_at v keys types s rest front)))
    (subst (λ ts. (type : ℕ) → HasEnd (base_at ts) type) front (every_chain_ends (λ n. rank_in v (slice_get keys n)) (base_at types) (bases_fall v keys types s)))
    (subst (λ ts. (type : ℕ) → HasEnd (element_of ts) type) front (every_chain_ends (λ n. depth_in (slice_get keys n)) (element_of types) (elements_fall v keys types s))))

-- the types that keys stand for are well formed
pub are_types : (v : View) (keys : List Key) (types : List TypeInfo) → IsSound v → IsFaultless v → AreKnown v keys → AreInfos v keys types → AreTypes types
are_types v keys types sound faultless known infos =
    let s : StandFor v keys types = record { sound = sound; faultless = faultless; known = known; infos = infos } in
    let front = library_front v keys types s in
    formed_front v keys types front.0 s front.1
