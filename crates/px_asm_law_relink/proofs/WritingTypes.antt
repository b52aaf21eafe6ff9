-- The types of a linked program that stand in its layout are all that the assembly has of its own.
use Rattle.std.proofs.Common.{◌≡◌, ◌⊎◌, inl, inr, ℕ, zero, suc, ◌≤◌, ◌<◌, true, List, ◌++◌, map, get_or, Option, Some, None, refl, sym, ap, ◌∙◌, subst, arith}
use Rattle.std.specs.Prelude.{◌==◌, AllPairs, IfSome, IsSome, slice_get}
use Rattle.std.specs.List.{AllByRecursion, IsDistinct}
use Rattle.std.proofs.lemmas.Bool.{ne_eqb}
use Rattle.std.proofs.lemmas.Map.Keys.{IsDistinct-from_apart}
use Rattle.std.proofs.lemmas.Option.{slice_get_within}
use Rattle.px_link.proofs.LinkedBases.{all_apart, number_at}
use Rattle.px_link.proofs.LinkedProgram.{numbering_of}
use Rattle.px_link.proofs.LinkedTypes.{HaveTypes, StandsFor, defined_type, have_types}
use Rattle.px_link_methods.proofs.RowPlaces.{each_in, one_of_each}
use Rattle.px_link.specs.Layout.{row_of, row_of_key, type_row}
use Rattle.px_link.specs.Overrides.{in_order}
use Rattle.px_meta.specs.Rows.{IsRow, is_in, type_defs}
use Rattle.px_link_methods.specs.Methods.{met_by_all}
use Rattle.px_program.proofs.Types.{each_at}
use Rattle.px_program.specs.Library.{library_types}
use Rattle.px_program.specs.declared.program.Place.{Place}
use Rattle.px_program.specs.declared.program.Program.{Program}
use Rattle.px_program.specs.declared.program.TypeInfo.{TypeInfo}
use Rattle.px_link_reach.specs.Met.{IsOwned}
use Rattle.px_tables.specs.Metadata.{View}
use Rattle.px_link_types.proofs.Closed.{each-front, each_numbered, grows}
use Rattle.px_link_types.proofs.Formed.{at_place, has_by}
use Rattle.px_link_types.proofs.Keyed.{at_number}
use Rattle.px_link_types.proofs.Known.{are_known, has_at, library_at}
use Rattle.px_link_types.proofs.There.{IsBaseLeaf, base_leaf_there, own_there}
use Rattle.px_link_types.specs.Infos.{number_in}
use Rattle.px_link_types.specs.Keys.{IsKey, alone}
use Rattle.px_link_types.specs.Making.{AreKnown, AreNumberedIn}
use Rattle.px_link_types.specs.Numbers.{base_leaf, field_key, has_key, instance_fields, is_numbered, leaf_keys, library_keys, number_of, own_types, place_of_leaf, static_fields}
use Rattle.px_link_types.specs.declared.key.Key.{Key}
use Rattle.px_link_types.specs.declared.key.Leaf.{Leaf}
use Rattle.px_link_types.specs.declared.key.Leaf.TheVariants.{Number, Library, Defined}
use Rattle.px_asm_law_relink.proofs.TypeKeys.{each_own, number_past}
use Rattle.px_asm_law_relink.proofs.TypeMet.{library_keys_there, met_there}
use Rattle.px_asm_law_relink.proofs.TypeOwned.{reached_owned}
use Rattle.px_asm_law_relink.proofs.WritingTexts.{type_text}
use Rattle.px_asm_law_relink.specs.Linked.{IsLinked}
use Rattle.px_asm_described.specs.Writable.{IsAssemblyType}

-- KEYS

-- the keys that the numbers of a program's types stand for
abbrev pub keys_of : {p : Program} → IsLinked p → List Key
keys_of l = l.assembly.reads.keys

-- the type of a row has a number
abbrev pub HasNumber : {p : Program} → IsLinked p → ℕ → Type 0
HasNumber l row = has_key (keys_of l) (alone (Defined row)) ≡ true

module _ (p : Program) (l : IsLinked p) where
  abbrev v : View
  v = l.assembly.v

  abbrev keys : List Key
  keys = l.assembly.reads.keys

  abbrev met : List Key
  met = met_by_all l.assembly.v l.assembly.reads.reached.rows l.assembly.reads.reached.bodies

  pub have_all : HaveTypes l.assembly.v (keys_of l) p.types
  have_all = let r = l.assembly.reads in have_types v (numbering_of r) r.lists (in_order r.reached.rows r.reached.virtual_targets) p.types r.types

  met_are_there : AllByRecursion (IsKey v) met
  met_are_there = met_there v l.assembly.reads.reached.rows l.assembly.reads.reached.bodies (each_in (IsOwned v) l.assembly.reads.reached.rows (reached_owned l.assembly.reads))

  all_there : AllByRecursion (IsKey v) keys
  all_there = each_numbered (IsKey v) (own_there v l.sound) l.assembly.reads.numbers (library_keys_there v) met_are_there

  pub all_known : AreKnown l.assembly.v (keys_of l)
  all_known = are_known v met keys l.sound l.assembly.reads.numbers met_are_there

  pub row_there : (row : ℕ) → HasNumber l row → IsRow l.assembly.v type_defs row
  row_there row has = each_at (IsKey v) keys all_there (number_of keys (alone (Defined row))) (alone (Defined row)) (at_number keys (alone (Defined row)) has)

  pub type_behind : (row : ℕ) → 18 ≤ number_of (keys_of l) (alone (Defined row))
  type_behind row =
      let g = grows l.assembly.reads.numbers in
      subst (λ ks. 18 ≤ number_of ks (alone (Defined row))) (sym g.all_is) (number_past library_keys g.more (alone (Defined row)) refl)

  pub type_placed : (row : ℕ) → HasNumber l row → is_in p.layout.types (number_of (keys_of l) (alone (Defined row))) ≡ true
  type_placed row has =
      l.assembly.reads.layout.types.all (number_of keys (alone (Defined row))) (subst (λ key. IsSome (row_of_key key)) (sym (at_number keys (alone (Defined row)) has)) refl)

  -- BASES

  base_has : (row base : ℕ) → HasNumber l row → base_leaf v row ≡ Some (Defined base) → HasNumber l base
  base_has row base has is =
      let key = alone (Defined row) in
      let numbered : Key → Type 0 = λ k. is_numbered keys k ≡ true in
      let bases = leaf_keys (base_leaf v row) in
      let instances = map (field_key v) (instance_fields v row) in
      let statics = map (field_key v) (static_fields v row) in
      let own : AreNumberedIn keys (own_types v key) = each_at (λ k. AreNumberedIn keys (own_types v k)) keys (each_own v met keys l.assembly.reads.numbers) (number_of keys key) key (at_number keys key has) in
      let base_own = each-front numbered bases instances (each-front numbered (bases ++ instances) statics own) in
      let one : AreNumberedIn keys (leaf_keys (Some (Defined base))) = subst (λ leaf. AreNumberedIn keys (leaf_keys leaf)) is base_own in
      has_by keys (alone (Defined base)) refl one.0

  pub library_number : (n : ℕ) → n < 18 → number_of (keys_of l) (alone (Library n)) ≡ n
  library_number n less = number_at keys n (alone (Library n)) (all_apart l.assembly.reads.numbers) (library_at v keys all_known n less)

  -- a type of the library that has a number is there
  pub library_few : (n : ℕ) → has_key (keys_of l) (alone (Library n)) ≡ true → n < 18
  library_few n has = each_at (IsKey v) keys all_there (number_of keys (alone (Library n))) (alone (Library n)) (at_number keys (alone (Library n)) has)

  abbrev IsBase : ℕ → Type 0
  IsBase base = (base < 17) ⊎ ((18 ≤ base) × (is_in p.layout.types base ≡ true))

  base_by : (row : ℕ) → HasNumber l row → (leaf : Option Leaf) → base_leaf v row ≡ leaf → IfSome leaf (IsBaseLeaf v row) → IfSome (number_in keys leaf) IsBase
  base_by row has None e is = tt
  base_by row has (Some (Number integer)) e is = absurd is
  base_by row has (Some (Library n)) e is = inl (let same = library_number n is.0 in let other = is.1 in let few = is.0 in omega arith)
  base_by row has (Some (Defined base)) e is = inr (type_behind base, type_placed base (base_has row base has e))

  -- TYPES

  -- the type of a row is one of the assembly
  row_type : (row : ℕ) → HasNumber l row → IsAssemblyType p (number_of keys (alone (Defined row)))
  row_type row has =
      let type = defined_type v keys p.types have_all row has in
      record {
        behind = type_behind row;
        info = type.type;
        at = type.at;
        no_array = type.element;
        name = type_text v row type.type.name l.assembly.resolved (row_there row has) type.name;
        base = subst (λ o. IfSome o IsBase) (sym type.base) (base_by row has (base_leaf v row) refl (base_leaf_there v row l.sound (row_there row has)));
      }

  row_by : (depth : ℕ) (leaf : Leaf) → IsSome (row_of depth leaf) → (row : ℕ) × (record { depth = depth; leaf = leaf } ≡ alone (Defined row))
  row_by zero (Number integer) some = absurd (cc)
  row_by zero (Library n) some = absurd (cc)
  row_by zero (Defined row) some = (row, refl)
  row_by (suc depth) leaf some = absurd (cc)

  -- the row of a type that stands in the layout
  row_in : (n : ℕ) (found : Option Key) → slice_get keys n ≡ found → IsSome (row_of_key found) → (row : ℕ) × (slice_get keys n ≡ Some (alone (Defined row)))
  row_in n None at some = absurd (cc)
  row_in n (Some key) at some =
      let is = row_by key.depth key.leaf some in
      (is.0, at ∙ ap (λ k. Some k) is.1)

  -- a number in the layout is that of a row
  pub number_row : (n : ℕ) → is_in p.layout.types n ≡ true → (row : ℕ) × (HasNumber l row × (number_of (keys_of l) (alone (Defined row)) ≡ n))
  number_row n there =
      let is = row_in n (slice_get keys n) refl (one_of_each (λ m. IsSome (type_row keys m)) p.layout.types n l.assembly.reads.layout.types.each there) in
      (is.0, (has_at keys n (alone (Defined is.0)) is.1, number_at keys n (alone (Defined is.0)) (all_apart l.assembly.reads.numbers) is.1))

  pub types_are : AllByRecursion (IsAssemblyType p) p.layout.types
  types_are = each_in (IsAssemblyType p) p.layout.types (λ n there. let is = number_row n there in subst (IsAssemblyType p) is.1.1 (row_type is.0 is.1.0))

  -- ALL TYPES

  no_place : (place : Place) (found : Option Place) → found ≡ Some place → found ≡ None → ⊥
  no_place place found is none = absurd (cc)

  found_by : (type depth : ℕ) (leaf : Leaf) (info : TypeInfo) → 18 ≤ type → slice_get keys type ≡ Some (record { depth = depth; leaf = leaf }) → StandsFor v keys (record { depth = depth; leaf = leaf }) info → info.element ≡ None
      → is_in p.layout.types type ≡ true
  found_by type zero (Number integer) info past at stands none = absurd stands.info
  found_by type zero (Library n) info past at stands none =
      let few : n < 18 = slice_get_within library_types n stands.bare stands.info in
      let one = library_number n few in
      let other = number_at keys type (alone (Library n)) (all_apart l.assembly.reads.numbers) at in
      absurd (omega arith)
  found_by type zero (Defined row) info past at stands none =
      let is = number_at keys type (alone (Defined row)) (all_apart l.assembly.reads.numbers) at in
      subst (λ n. is_in p.layout.types n ≡ true) is (type_placed row (has_at keys type (alone (Defined row)) at))
  found_by type (suc depth) leaf info past at stands none =
      absurd (no_place (place_of_leaf keys depth leaf) info.element (stands.alike.element ∙ ap (λ (t : TypeInfo). t.element) stands.info) none)

  pub all_types : (type : ℕ) (info : TypeInfo) → 18 ≤ type → slice_get p.types type ≡ Some info → info.element ≡ None → is_in p.layout.types type ≡ true
  all_types type info past at none =
      let within = slice_get_within p.types type info at in
      let key = at_place keys type (omega (arith, have_all.count)) in
      found_by type key.0.depth key.0.leaf info past key.1 (have_all.each type key.0 info key.1 at) none

-- EACH ONCE

-- what rises has nothing twice
pub rising_once : (f : ℕ → ℕ) (xs : List ℕ) → AllPairs (λ n later. f n < f later) xs → IsDistinct (λ n other. n == other) xs
rising_once f xs rising =
    IsDistinct-from_apart (λ n other. n == other) xs
    (λ i j d less within. ne_eqb (get_or xs i d) (get_or xs j d) (λ same. let rises = rising i j d less within in let level = ap f same in absurd (omega arith)))
