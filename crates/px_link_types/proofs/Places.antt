-- The places and rows that types are made of.
use Rattle.std.proofs.Common.{◌≡◌, ℕ, zero, suc, ◌+◌, ◌-◌, ◌<◌, ◌≤◌, Bool, true, List, [], ◌∷◌, ◌++◌, length, get_or, map, Some, refl, sym, ap, ◌∙◌, subst, ⊎_elim, arith}
use Rattle.std.specs.Prelude.{◌&&◌, IfSome, filter, not, slice_get}
use Rattle.std.specs.List.{AllByRecursion, range_with_len}
use Rattle.std.proofs.lemmas.Bool.{cases_lt, cond_both}
use Rattle.std.proofs.lemmas.List.{length_push}
use Rattle.std.proofs.lemmas.Option.{same_Some, slice_get_within}
use Rattle.px_meta.specs.Rows.{IsRow, count_of, fields, rows_in, type_defs}
use Rattle.px_program.specs.Alone.{array_of}
use Rattle.px_program.specs.Library.{library_types}
use Rattle.px_program.specs.declared.program.Place.TheVariants as places
use Rattle.px_program.specs.declared.program.TypeInfo.{TypeInfo}
use Rattle.px_tables.specs.Metadata.{IsSound, View}
use Rattle.px_link_types.specs.declared.key.Key.{Key}
use Rattle.px_link_types.specs.declared.key.Leaf.{Leaf}
use Rattle.px_link_types.specs.declared.key.Leaf.TheVariants.{Number, Library, Defined}
use Rattle.px_link_types.specs.Infos.{AreInfos, IsInfoOf}
use Rattle.px_link_types.specs.Keys.{alone}
use Rattle.px_link_types.specs.Making.{AreFirst, AreKnown, AreNumberedIn, IsKnown}
use Rattle.px_link_types.specs.Numbers.{base_leaf, field_key, instance_fields, is_field_of, is_numbered, is_static_field, leaf_keys, number_of, place_in, static_fields}
use Rattle.px_link_types.proofs.Closed.{each-back, each-front}
use Rattle.px_link_types.proofs.Known.{key_of, library_at}
use Rattle.px_link_types.proofs.There.{IsBaseLeaf, base_leaf_there}

-- BASES

reference_of : (v : View) (keys : List Key) (row : ℕ) (leaf : Leaf) → IsBaseLeaf v row leaf → place_in keys (alone leaf) ≡ places.Ref (number_of keys (alone leaf))
reference_of v keys row (Number integer) is = absurd is
reference_of v keys row (Library number) is = refl
reference_of v keys row (Defined base) is = refl

-- a base is no integer
pub base_reference : (v : View) (keys : List Key) (row : ℕ) (leaf : Leaf) → IsSound v → IsRow v type_defs row → Some leaf ≡ base_leaf v row → place_in keys (alone leaf) ≡ places.Ref (number_of keys (alone leaf))
base_reference v keys row leaf sound is e = reference_of v keys row leaf (subst (λ o. IfSome o (IsBaseLeaf v row)) (sym e) (base_leaf_there v row sound is))

-- FIELDS

range_there : (v : View) (table from count : ℕ) → 1 ≤ from → from + count ≤ count_of v table + 1 → AllByRecursion (IsRow v table) (range_with_len from count)
range_there v table from zero some few = tt
range_there v table from (suc count) some few = (record { some = some; few = omega arith }, range_there v table (from + 1) count (omega arith) (omega arith))

each-filter : {X : Type 0} (P : X → Type 0) (test : X → Bool) (xs : List X) → AllByRecursion P xs → AllByRecursion P (filter test xs)
each-filter P test [] each = tt
each-filter P test (x ∷ xs) each = cond_both (test x) (x ∷ filter test xs) (filter test xs) (AllByRecursion P) (λ e. (each.0, each-filter P test xs each.1)) (λ e. each-filter P test xs each.1)

pub instances_there : (v : View) (row : ℕ) → AllByRecursion (IsRow v fields) (instance_fields v row)
instances_there v row = each-filter (IsRow v fields) (λ f. is_field_of v row f && not (is_static_field v f)) (rows_in v fields) (range_there v fields 1 (count_of v fields) (omega arith) (omega arith))

pub statics_there : (v : View) (row : ℕ) → AllByRecursion (IsRow v fields) (static_fields v row)
statics_there v row = each-filter (IsRow v fields) (λ f. is_field_of v row f && is_static_field v f) (rows_in v fields) (range_there v fields 1 (count_of v fields) (omega arith) (omega arith))

-- what a type needs of its base and its fields
pub record IsOwned (v : View) (keys : List Key) (row : ℕ) : Type 0 where
  pub base : AreNumberedIn keys (leaf_keys (base_leaf v row))
  pub instances : AreNumberedIn keys (map (field_key v) (instance_fields v row))
  pub statics : AreNumberedIn keys (map (field_key v) (static_fields v row))

pub owned : (v : View) (keys : List Key) (row : ℕ) → IsKnown v keys (alone (Defined row)) → IsOwned v keys row
owned v keys row known =
    let bases = leaf_keys (base_leaf v row) in
    let instances = map (field_key v) (instance_fields v row) in
    let statics = map (field_key v) (static_fields v row) in
    let numbered : Key → Type 0 = λ key. is_numbered keys key ≡ true in
    let own = each-front numbered (bases ++ instances) statics known.own in
    record { base = each-front numbered bases instances own; instances = each-back numbered bases instances own; statics = each-back numbered (bases ++ instances) statics known.own }

pub numbered_at : (v : View) (keys : List Key) (rows : List ℕ) (n : ℕ) → AreNumberedIn keys (map (field_key v) rows) → n < length rows → is_numbered keys (field_key v (get_or rows n 0)) ≡ true
numbered_at v keys [] n are less = absurd (omega arith)
numbered_at v keys (row ∷ rows) zero are less = are.0
numbered_at v keys (row ∷ rows) (suc n) are less = numbered_at v keys rows n are.1 (omega arith)

-- ARRAYS

pub array_info : (v : View) (keys : List Key) (depth : ℕ) (leaf : Leaf) (info : TypeInfo) → 0 < depth → info ≡ array_of (place_in keys (record { depth = depth - 1; leaf = leaf })) → IsInfoOf v keys depth leaf info
array_info v keys zero leaf info some is = absurd (omega arith)
array_info v keys (suc depth) leaf info some is = let same : suc depth - 1 ≡ depth = omega arith in is ∙ ap (λ d. array_of (place_in keys (record { depth = d; leaf = leaf }))) same

-- THE TYPES OF THE FIRST KEYS

pub library_length : (len : ℕ) (types : List TypeInfo) → len ≡ length types → types ≡ library_types → len ≡ 18
library_length len types size is = size ∙ ap length is

pub first_library : (v : View) (keys : List Key) (types : List TypeInfo) → AreKnown v keys → types ≡ library_types → (len : ℕ) → len ≡ length types → AreFirst v keys len types
first_library v keys types known is len size =
    record {
      count = sym size;
      each = λ k key info at there.
          let listed : slice_get library_types k ≡ Some info = ap (λ ts. slice_get ts k) (sym is) ∙ there in
          let same : alone (Library k) ≡ key = same_Some (alone (Library k)) key (sym (library_at v keys known k (slice_get_within library_types k info listed)) ∙ at) in
          subst (λ (other : Key). IsInfoOf v keys other.depth other.leaf info) same listed;
    }

old_place : {X : Type 0} (xs : List X) (x : X) (k : ℕ) → k < length xs → slice_get (xs ++ x ∷ []) k ≡ slice_get xs k
old_place [] x k less = absurd (omega arith)
old_place (y ∷ ys) x zero less = refl
old_place (y ∷ ys) x (suc k) less = old_place ys x k (omega arith)

new_place : {X : Type 0} (xs : List X) (x : X) (k : ℕ) → k ≡ length xs → slice_get (xs ++ x ∷ []) k ≡ Some x
new_place [] x zero e = refl
new_place [] x (suc k) e = absurd (omega arith)
new_place (y ∷ ys) x zero e = absurd (omega arith)
new_place (y ∷ ys) x (suc k) e = new_place ys x k (omega arith)

-- one more type
pub first_more : (v : View) (keys listed : List Key) (n : ℕ) (types news : List TypeInfo) (d : Key) (info : TypeInfo) → AreFirst v keys n types → listed ≡ keys → n < length listed → IsInfoOf v keys (get_or listed n d).depth (get_or listed n d).leaf info
    → news ≡ types ++ info ∷ [] → AreFirst v keys (n + 1) news
first_more v keys listed n types news d info are same less is e =
    let key = get_or listed n d in
    let at = key_of keys listed n d same less in
    subst (λ ts. AreFirst v keys (n + 1) ts) (sym e) (record {
      count = omega (arith, length_push types info, are.count);
      each = λ k other made at_k there. ⊎_elim
          (λ below. are.each k other made at_k (sym (old_place types info k (omega (arith, are.count))) ∙ there))
          (λ above.
          let within = slice_get_within (types ++ info ∷ []) k made there in
          let last : k ≡ n = omega (arith, length_push types info, are.count) in
          let same_key : key ≡ other = same_Some key other (sym at ∙ ap (slice_get keys) (sym last) ∙ at_k) in
          let same_info : info ≡ made = same_Some info made (sym (new_place types info k (omega (arith, are.count))) ∙ there) in
          subst (λ (o : Key). IsInfoOf v keys o.depth o.leaf made) same_key (subst (IsInfoOf v keys key.depth key.leaf) same_info is))
          (cases_lt k n);
    })

pub all_first : (v : View) (keys : List Key) (n : ℕ) (types : List TypeInfo) → AreFirst v keys n types → n ≡ length keys → AreInfos v keys types
all_first v keys n types are e = record { count = are.count ∙ e; each = are.each }
