-- The bases of a linked program's types are those of the assembly.
use Rattle.std.proofs.Common.{◌≡◌, ℕ, zero, suc, ◌+◌, ◌/◌, ◌%◌, true, false, List, [], ◌∷◌, ◌++◌, map, Option, Some, None, refl, sym, ap, ◌∙◌, subst, ⊎_elim, arith, rules, eqb-true}
use Rattle.std.specs.Prelude.{◌==◌, ◌&&◌, if◌then◌else◌, nat_le, slice_get}
use Rattle.std.specs.List.{AllByRecursion}
use Rattle.std.proofs.lemmas.Bool.{and_parts, cases_Bool, cond-false, cond-true, cond_both, leb-true, ne_eqb, or_cases, or_from, or_parts}
use Rattle.std.proofs.lemmas.Option.{same_Some}
use Rattle.px_meta.specs.Chains.{GoesOn, IsChain, base_in as base_row}
use Rattle.px_meta.specs.Overriding.{Derives, Directly, Through}
use Rattle.px_meta.specs.Rows.{count_of, is_in, some_row, type_defs}
use Rattle.px_link_methods.specs.Codes.{owner_number}
use Rattle.px_program.specs.Formed.{DerivesFrom, IsKindOf, base_in, base_of}
use Rattle.px_program.specs.declared.program.TypeInfo.{TypeInfo}
use Rattle.px_program.proofs.Types.{each-append, each_at}
use Rattle.px_tables.specs.Metadata.{View}
use Rattle.px_link_types.specs.declared.key.Key.{Key}
use Rattle.px_link_types.specs.declared.key.Leaf.{Leaf}
use Rattle.px_link_types.specs.declared.key.Leaf.TheVariants.{Defined, Library}
use Rattle.px_link_types.specs.Infos.{number_in}
use Rattle.px_link_types.specs.Keys.{alone, base_index, library_ref}
use Rattle.px_link_types.specs.Making.{AreNumberedIn}
use Rattle.px_link_types.specs.Numbers.{Ends, Meets, Numbers, Passes, base_in_library, base_leaf, field_key, has_key, instance_fields, is_integer, is_numbered, key_eq, leaf_keys, library_keys, number_of, own_types, static_fields}
use Rattle.px_link_types.proofs.Closed.{each-front, grows}
use Rattle.px_link_types.proofs.Formed.{has_by}
use Rattle.px_link_types.proofs.Keyed.{at_number, key_eq-refl, key_same}
use Rattle.px_link_types.proofs.Known.{has_at}
use Rattle.px_link.proofs.LinkedTypes.{HaveTypes, defined_type}

-- NO KEY HAS TWO NUMBERS

abbrev pub AreApart : List Key → Type 0
AreApart [] = Unit {0}
AreApart (key ∷ keys) = (has_key keys key ≡ false) × AreApart keys

other_way : (a b : Key) → key_eq a b ≡ false → key_eq b a ≡ false
other_way a b differ =
    ⊎_elim
    (λ same. absurd (let e = subst (λ k. key_eq k b ≡ false) (sym (key_same b a same)) differ in let is = key_eq-refl b in cc))
    (λ differs. differs)
    (cases_Bool (key_eq b a))

has_more : (keys : List Key) (key new : Key) → has_key keys key ≡ false → key_eq key new ≡ false → has_key (keys ++ new ∷ []) key ≡ false
has_more [] key new none differ = or_from (key_eq key new) false differ refl
has_more (other ∷ keys) key new none differ =
    let parts = or_parts (key_eq key other) (has_key keys key) none in
    or_from (key_eq key other) (has_key (keys ++ new ∷ []) key) parts.0 (has_more keys key new parts.1 differ)

apart_more : (keys : List Key) (new : Key) → AreApart keys → has_key keys new ≡ false → AreApart (keys ++ new ∷ [])
apart_more [] new apart none = (refl, tt)
apart_more (key ∷ keys) new apart none =
    let parts = or_parts (key_eq new key) (has_key keys new) none in
    (has_more keys key new apart.0 (other_way new key parts.0), apart_more keys new apart.1 parts.1)

apart_by : {v : View} {from met all : List Key} → Numbers v from met all → AreApart from → AreApart all
apart_by (Ends keys) apart = apart
apart_by (Passes keys key rest all has numbers) apart = apart_by numbers apart
apart_by (Meets keys key rest all none numbers) apart = apart_by numbers (apart_more keys key apart (or_parts (is_integer key) (has_key keys key) none).1)

library_apart : AreApart library_keys
library_apart = search rules

pub all_apart : {v : View} {met all : List Key} → Numbers v library_keys met all → AreApart all
all_apart numbers = apart_by numbers library_apart

-- a key's number is where it stands
pub number_at : (keys : List Key) (k : ℕ) (key : Key) → AreApart keys → slice_get keys k ≡ Some key → number_of keys key ≡ k
number_at [] k key apart at = absurd (cc)
number_at (other ∷ keys) zero key apart at =
    let same = same_Some other key at in
    cond-true (key_eq other key) 0 (1 + number_of keys key) (subst (λ o. key_eq o key ≡ true) (sym same) (key_eq-refl key))
number_at (other ∷ keys) (suc k) key apart at =
    cond_both (key_eq other key) 0 (1 + number_of keys key) (λ n. n ≡ suc k)
    (λ same. absurd (let has = subst (λ o. has_key keys o ≡ true) (sym (key_same other key same)) (has_at keys k key at) in let none = apart.0 in cc))
    (λ differs. omega (arith, number_at keys k key apart.1 at))

-- BASES

defined_by : (v : View) (index base : ℕ) → (if index % 4 == 0 then some_row v type_defs (index / 4) else None) ≡ Some base → ((index / 4 == 0) ≡ false) × ((index % 4 == 0) ≡ true) × (index / 4 ≡ base)
defined_by v index base =
    let Is : Type 0 = ((index / 4 == 0) ≡ false) × ((index % 4 == 0) ≡ true) × (index / 4 ≡ base) in
    let test = nat_le 1 (index / 4) && nat_le (index / 4) (count_of v type_defs) in
    cond_both (index % 4 == 0) (some_row v type_defs (index / 4)) None (λ o. o ≡ Some base → Is)
    (λ defined. cond_both test (Some (index / 4)) None (λ o. o ≡ Some base → Is)
    (λ there is. (ne_eqb (index / 4) 0 (λ none. let some = leb-true 1 (index / 4) (and_parts (nat_le 1 (index / 4)) (nat_le (index / 4) (count_of v type_defs)) there).0 in omega arith), defined, same_Some (index / 4) base is))
    (λ gone is. absurd (cc)))
    (λ other is. absurd (cc))

-- the base of a type that is one of the assembly
base_is : (v : View) (row base : ℕ) → base_row v row ≡ Some base → base_leaf v row ≡ Some (Defined base)
base_is v row base is =
    let index = base_index v row in
    let last : Option Leaf = if index % 4 == 1 then Some (base_in_library (library_ref v (index / 4))) else Some (Library 0) in
    let by = defined_by v index base is in
    cond-false (index / 4 == 0) None (if index % 4 == 0 then Some (Defined (index / 4)) else last) by.0
    ∙ cond-true (index % 4 == 0) (Some (Defined (index / 4))) last by.1
    ∙ ap (λ b. Some (Defined b)) by.2

all_own : (v : View) (met keys : List Key) → Numbers v library_keys met keys → AllByRecursion (λ key. AreNumberedIn keys (own_types v key)) keys
all_own v met keys numbers =
    let g = grows numbers in
    subst (λ ks. AllByRecursion (λ key. AreNumberedIn keys (own_types v key)) ks) (sym g.all_is)
    (each-append (λ key. AreNumberedIn keys (own_types v key)) library_keys g.more (search rules) g.own)

module _ (v : View) (met keys : List Key) (types : List TypeInfo) (numbers : Numbers v library_keys met keys) (have : HaveTypes v keys types) where
  -- the base of a type with a number has one
  base_numbered : (row base : ℕ) → has_key keys (alone (Defined row)) ≡ true → base_row v row ≡ Some base → has_key keys (alone (Defined base)) ≡ true
  base_numbered row base has is =
      let key = alone (Defined row) in
      let numbered : Key → Type 0 = λ k. is_numbered keys k ≡ true in
      let bases = leaf_keys (base_leaf v row) in
      let instances = map (field_key v) (instance_fields v row) in
      let statics = map (field_key v) (static_fields v row) in
      let own : AreNumberedIn keys (own_types v key) = each_at (λ k. AreNumberedIn keys (own_types v k)) keys (all_own v met keys numbers) (number_of keys key) key (at_number keys key has) in
      let base_own = each-front numbered bases instances (each-front numbered (bases ++ instances) statics own) in
      let one : AreNumberedIn keys (leaf_keys (Some (Defined base))) = subst (λ leaf. AreNumberedIn keys (leaf_keys leaf)) (base_is v row base is) base_own in
      has_by keys (alone (Defined base)) refl one.0

  -- a type's base in the program is its base in the assembly
  step : (row base : ℕ) → has_key keys (alone (Defined row)) ≡ true → base_row v row ≡ Some base → base_of types (owner_number v keys row) ≡ Some (owner_number v keys base)
  step row base has is =
      let type = defined_type v keys types have row has in
      ap base_in type.at ∙ type.base ∙ ap (number_in keys) (base_is v row base is)

  -- a type is one of each that its chain of bases has
  pub kind_of : (row : ℕ) (behind : List ℕ) → has_key keys (alone (Defined row)) ≡ true → IsChain (base_row v) row behind → (owner : ℕ) → is_in (row ∷ behind) owner ≡ true → IsKindOf types (owner_number v keys row) (owner_number v keys owner)
  kind_of row [] has chain owner there =
      ⊎_elim (λ same. record { steps = 0; way = ap (owner_number v keys) (eqb-true row owner same) }) (λ later. absurd (cc)) (or_cases (row == owner) (is_in [] owner) there)
  kind_of row (base ∷ behind) has (GoesOn _ _ _ is chain) owner there =
      ⊎_elim
      (λ same. record { steps = 0; way = ap (owner_number v keys) (eqb-true row owner same) })
      (λ later.
      let rest : IsKindOf types (owner_number v keys base) (owner_number v keys owner) = kind_of base behind (base_numbered row base has is) chain owner later in
      record { steps = suc rest.steps; way = (owner_number v keys base, step row base has is, rest.way) })
      (or_cases (row == owner) (is_in (base ∷ behind) owner) there)

  -- a type that derives from another has it among its bases
  pub derives_from : (row other : ℕ) → has_key keys (alone (Defined row)) ≡ true → Derives v row other → DerivesFrom types (owner_number v keys row) (owner_number v keys other)
  derives_from row other has (Directly _ _ is) = record { steps = 0; way = (owner_number v keys other, step row other has is, refl) }
  derives_from row other has (Through _ between _ is behind) =
      let rest : DerivesFrom types (owner_number v keys between) (owner_number v keys other) = derives_from between other (base_numbered row between has is) behind in
      record { steps = suc rest.steps; way = (owner_number v keys between, step row between has is, rest.way) }
