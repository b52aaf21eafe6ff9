-- Types are well formed with their overrides where they are without.
use Rattle.std.proofs.Common.{◌≡◌, ℕ, zero, suc, ◌<◌, true, false, List, [], ◌∷◌, length, map, take, Option, Some, None, refl, sym, ap, ◌∙◌, subst, arith}
use Rattle.std.specs.Prelude.{IfSome, IsSome, slice_get}
use Rattle.std.specs.List.{AllByRecursion, AllZip}
use Rattle.std.proofs.lemmas.Option.{slice_get_within}
use Rattle.std.proofs.lemmas.Slice.Zip.{AllZip-long}
use Rattle.px_meta.specs.FullNames.{IsTypeName}
use Rattle.px_program.specs.Formed.{AreTypes, FitsPlace, HasEnd, IsArray, IsBare, IsBase, IsChain, IsFormedType, base_in, base_of, element_in, element_of, has_element}
use Rattle.px_program.specs.declared.program.Place.{Place}
use Rattle.px_program.specs.declared.program.Place.TheVariants as places
use Rattle.px_program.specs.declared.program.TypeInfo.{TypeInfo}
use Rattle.px_tables.specs.Metadata.{View}
use Rattle.px_link_types.specs.declared.key.Key.{Key}
use Rattle.px_link_types.specs.declared.key.Leaf.TheVariants.{Defined}
use Rattle.px_link_types.specs.Infos.{IsInfoOf, number_in}
use Rattle.px_link_types.specs.Keys.{alone}
use Rattle.px_link_types.specs.Numbers.{base_leaf, field_key, has_key, instance_fields, is_integer, is_numbered, number_of, place_in, static_fields}
use Rattle.px_link_types.proofs.Formed.{at_place, has_by}
use Rattle.px_link_types.proofs.Keyed.{at_number, number_below}
use Rattle.px_link_methods.specs.Codes.{Numbering, owner_number}
use Rattle.px_link.specs.Overrides.{AreLinkedTypes, IsLinkedType}

-- a type differs from another in nothing but the methods that take the place of others in it
pub record IsAlike (bare type : TypeInfo) : Type 0 where
  pub name : type.name ≡ bare.name
  pub base : type.base ≡ bare.base
  pub element : type.element ≡ bare.element
  pub fields : type.fields ≡ bare.fields
  pub statics : type.statics ≡ bare.statics

-- WHAT IS READ OF ONE IS READ OF THE OTHER

same_in_each : {X : Type 0} (read : TypeInfo → X) → ((bare type : TypeInfo) → IsAlike bare type → read type ≡ read bare) → (bares types : List TypeInfo) → AllZip IsAlike bares types → map read types ≡ map read bares
same_in_each read same [] [] alike = refl
same_in_each read same [] (t ∷ ts) alike = absurd alike
same_in_each read same (b ∷ bs) [] alike = absurd alike
same_in_each read same (b ∷ bs) (t ∷ ts) alike = let first = same b t alike.0 in let later = same_in_each read same bs ts alike.1 in cc

same_at : {X : Type 0} (read : Option TypeInfo → X) → ((bare type : TypeInfo) → IsAlike bare type → read (Some type) ≡ read (Some bare)) → (bares types : List TypeInfo) → AllZip IsAlike bares types
    → (n : ℕ) → read (slice_get types n) ≡ read (slice_get bares n)
same_at read same [] [] alike n = refl
same_at read same [] (t ∷ ts) alike n = absurd alike
same_at read same (b ∷ bs) [] alike n = absurd alike
same_at read same (b ∷ bs) (t ∷ ts) alike zero = same b t alike.0
same_at read same (b ∷ bs) (t ∷ ts) alike (suc n) = same_at read same bs ts alike.1 n

first_alike : (n : ℕ) (bares types : List TypeInfo) → AllZip IsAlike bares types → AllZip IsAlike (take n bares) (take n types)
first_alike zero bs ts alike = tt
first_alike (suc n) [] [] alike = tt
first_alike (suc n) [] (t ∷ ts) alike = absurd alike
first_alike (suc n) (b ∷ bs) [] alike = absurd alike
first_alike (suc n) (b ∷ bs) (t ∷ ts) alike = (alike.0, first_alike n bs ts alike.1)

each_alike : (P Q : TypeInfo → Type 0) → ((bare type : TypeInfo) → IsAlike bare type → P bare → Q type) → (bares types : List TypeInfo) → AllZip IsAlike bares types → AllByRecursion P bares → AllByRecursion Q types
each_alike P Q goes [] [] alike each = tt
each_alike P Q goes [] (t ∷ ts) alike each = absurd alike
each_alike P Q goes (b ∷ bs) [] alike each = absurd alike
each_alike P Q goes (b ∷ bs) (t ∷ ts) alike each = (goes b t alike.0 each.0, each_alike P Q goes bs ts alike.1 each.1)

-- WELL FORMED

fits_more : (bares types : List TypeInfo) → length types ≡ length bares → (place : Place) → FitsPlace bares place → FitsPlace types place
fits_more bares types size (places.Ref type) fits = omega arith
fits_more bares types size _ fits = tt

all_fit_more : (bares types : List TypeInfo) → length types ≡ length bares → (ps : List Place) → AllByRecursion (FitsPlace bares) ps → AllByRecursion (FitsPlace types) ps
all_fit_more bares types size [] fit = tt
all_fit_more bares types size (p ∷ ps) fit = (fits_more bares types size p fit.0, all_fit_more bares types size ps fit.1)

element_fits : (bares types : List TypeInfo) → length types ≡ length bares → (place : Option Place) → IfSome place (FitsPlace bares) → IfSome place (FitsPlace types)
element_fits bares types size None fits = tt
element_fits bares types size (Some place) fits = fits_more bares types size place fits

-- none, or some type of elements
same_element : (bare type : TypeInfo) → IsAlike bare type → has_element (Some type) ≡ has_element (Some bare)
same_element bare type alike = rw alike.element refl

same_array : (bares types : List TypeInfo) → AllZip IsAlike bares types → (n : ℕ) → has_element (slice_get types n) ≡ has_element (slice_get bares n)
same_array bares types alike n = same_at has_element same_element bares types alike n

base_more : (bares types : List TypeInfo) → AllZip IsAlike bares types → (base : Option ℕ) → IfSome base (IsBase bares) → IfSome base (IsBase types)
base_more bares types alike None is = tt
base_more bares types alike (Some base) is = record {
  there = omega (arith, is.there, AllZip-long IsAlike bares types alike);
  other = is.other;
  no_array = same_array bares types alike base ∙ is.no_array;
}

bare_array : (bare type : TypeInfo) → IsAlike bare type → IsArray bare → IsArray type
bare_array bare type alike is = record {
  no_fields = alike.fields ∙ is.no_fields;
  no_statics = alike.statics ∙ is.no_statics;
  base = rw alike.base is.base;
}

bare_library : (bare type : TypeInfo) → IsAlike bare type → IsBare bare → IsBare type
bare_library bare type alike is = record { no_fields = alike.fields ∙ is.no_fields; no_statics = alike.statics ∙ is.no_statics }

formed_type : (bares types : List TypeInfo) → AllZip IsAlike bares types → (bare type : TypeInfo) → IsAlike bare type → IsFormedType bares bare → IsFormedType types type
formed_type bares types alike bare type same is =
    let size = AllZip-long IsAlike bares types alike in
    record {
      base = rw same.base (base_more bares types alike bare.base is.base);
      element = rw same.element (element_fits bares types size bare.element is.element);
      array = λ some. bare_array bare type same (is.array (subst IsSome same.element some));
      fields = rw same.fields (all_fit_more bares types size bare.fields is.fields);
      statics = rw same.statics (all_fit_more bares types size bare.statics is.statics);
    }

same_chain : (next other : ℕ → Option ℕ) → ((n : ℕ) → other n ≡ next n) → (number : ℕ) (behind : List ℕ) → IsChain next number behind → IsChain other number behind
same_chain next other same number [] is = same number ∙ is
same_chain next other same number (b ∷ rest) is = (same number ∙ is.0, same_chain next other same b rest is.1)

same_end : (next other : ℕ → Option ℕ) → ((n : ℕ) → other n ≡ next n) → (number : ℕ) → HasEnd next number → HasEnd other number
same_end next other same number end = record { behind = end.behind; chain = same_chain next other same number end.behind end.chain }

pub alike_types : (bares types : List TypeInfo) → AllZip IsAlike bares types → AreTypes bares → AreTypes types
alike_types bares types alike are =
    let front = first_alike 18 bares types alike in
    record {
      library = same_in_each (λ t. t.base) (λ bare type same. same.base) (take 18 bares) (take 18 types) front ∙ are.library;
      bare = each_alike IsBare IsBare bare_library (take 18 bares) (take 18 types) front are.bare;
      no_arrays = each_alike (λ t. t.element ≡ None) (λ t. t.element ≡ None) (λ bare type same none. same.element ∙ none) (take 17 bares) (take 17 types) (first_alike 17 bares types alike) are.no_arrays;
      each = each_alike (IsFormedType bares) (IsFormedType types) (formed_type bares types alike) bares types alike are.each;
      bases = λ type. same_end (base_of bares) (base_of types) (same_at base_in (λ bare type same. same.base) bares types alike) type (are.bases type);
      elements = λ type. same_end (element_of bares) (element_of types) (same_at element_in (λ bare type same. rw same.element refl) bares types alike) type (are.elements type);
    }

-- THE TYPES OF A PROGRAM

zip_from : (R : TypeInfo → TypeInfo → Type 0) (xs ys : List TypeInfo) → length ys ≡ length xs → ((n : ℕ) (x y : TypeInfo) → slice_get xs n ≡ Some x → slice_get ys n ≡ Some y → R x y) → AllZip R xs ys
zip_from R [] [] size at = tt
zip_from R [] (y ∷ ys) size at = absurd (omega arith)
zip_from R (x ∷ xs) [] size at = absurd (omega arith)
zip_from R (x ∷ xs) (y ∷ ys) size at = (at 0 x y refl refl, zip_from R xs ys (omega arith) (λ n a b p q. at (suc n) a b p q))

linked_alike : (v : View) (n : Numbering) (lists : List (List ℕ)) (targets : List ℕ) (key : Key) (info type : TypeInfo) → IsLinkedType v n lists targets key info type → IsAlike info type
linked_alike v n lists targets key info type is = record {
  name = ap (λ (t : TypeInfo). t.name) is.is;
  base = ap (λ (t : TypeInfo). t.base) is.is;
  element = ap (λ (t : TypeInfo). t.element) is.is;
  fields = ap (λ (t : TypeInfo). t.fields) is.is;
  statics = ap (λ (t : TypeInfo). t.statics) is.is;
}

pub are_alike : (v : View) (n : Numbering) (lists : List (List ℕ)) (targets : List ℕ) (types : List TypeInfo) → (are : AreLinkedTypes v n lists targets types) → AllZip IsAlike are.bare types
are_alike v n lists targets types are =
    zip_from IsAlike are.bare types are.count
    (λ k info type at there.
    let key = at_place n.keys k (omega (arith, are.infos.count, slice_get_within are.bare k info at)) in
    linked_alike v n lists targets key.0 info type (are.each k key.0 info type key.1 at there))

pub linked_types : (v : View) (n : Numbering) (lists : List (List ℕ)) (targets : List ℕ) (types : List TypeInfo) → (are : AreLinkedTypes v n lists targets types) → AreTypes are.bare → AreTypes types
linked_types v n lists targets types are formed = alike_types are.bare types (are_alike v n lists targets types are) formed

-- what a program says of the type that a key stands for, but for the methods that take the place of others in it
pub record StandsFor (v : View) (keys : List Key) (key : Key) (type : TypeInfo) : Type 0 where
  pub bare : TypeInfo
  pub info : IsInfoOf v keys key.depth key.leaf bare
  pub alike : IsAlike bare type

-- each key has its type, and each type its key
pub record HaveTypes (v : View) (keys : List Key) (types : List TypeInfo) : Type 0 where
  pub count : length types ≡ length keys
  pub each : (k : ℕ) (key : Key) (type : TypeInfo) → slice_get keys k ≡ Some key → slice_get types k ≡ Some type → StandsFor v keys key type

pub have_types : (v : View) (n : Numbering) (lists : List (List ℕ)) (targets : List ℕ) (types : List TypeInfo) → AreLinkedTypes v n lists targets types → HaveTypes v n.keys types
have_types v n lists targets types are = record {
  count = are.count ∙ are.infos.count;
  each = λ k key type at there.
      let info = at_place are.bare k (omega (arith, are.infos.count, slice_get_within n.keys k key at)) in
      record {
        bare = info.0;
        info = are.infos.each k key info.0 at info.1;
        alike = linked_alike v n lists targets key info.0 type (are.each k key info.0 type at info.1 there);
      };
}

-- the type of a key that has a number
pub type_of : (v : View) (keys : List Key) (types : List TypeInfo) → HaveTypes v keys types → (key : Key) → has_key keys key ≡ true
    → (type : TypeInfo) × ((slice_get types (number_of keys key) ≡ Some type) × StandsFor v keys key type)
type_of v keys types have key has =
    let at = at_number keys key has in
    let type = at_place types (number_of keys key) (omega (arith, have.count, slice_get_within keys (number_of keys key) key at)) in
    (type.0, (type.1, have.each (number_of keys key) key type.0 at type.1))

-- the number of a key that has one is that of a type
pub number_fits : (v : View) (keys : List Key) (types : List TypeInfo) → HaveTypes v keys types → (key : Key) → is_integer key ≡ false → is_numbered keys key ≡ true → number_of keys key < length types
number_fits v keys types have key other is = omega (arith, have.count, number_below keys key (has_by keys key other is))

-- the type of a row in a program
pub record HasDefined (v : View) (keys : List Key) (types : List TypeInfo) (row : ℕ) : Type 0 where
  pub type : TypeInfo
  pub at : slice_get types (owner_number v keys row) ≡ Some type
  pub name : IsTypeName v row type.name
  pub base : type.base ≡ number_in keys (base_leaf v row)
  pub element : type.element ≡ None
  pub fields : type.fields ≡ map (λ f. place_in keys (field_key v f)) (instance_fields v row)
  pub statics : type.statics ≡ map (λ f. place_in keys (field_key v f)) (static_fields v row)

pub defined_type : (v : View) (keys : List Key) (types : List TypeInfo) → HaveTypes v keys types → (row : ℕ) → has_key keys (alone (Defined row)) ≡ true → HasDefined v keys types row
defined_type v keys types have row has =
    let found = type_of v keys types have (alone (Defined row)) has in
    let stands : StandsFor v keys (alone (Defined row)) found.0 = found.1.1 in
    record {
      type = found.0;
      at = found.1.0;
      name = subst (IsTypeName v row) (sym stands.alike.name) stands.info.name;
      base = stands.alike.base ∙ stands.info.base;
      element = stands.alike.element ∙ stands.info.element;
      fields = stands.alike.fields ∙ stands.info.fields;
      statics = stands.alike.statics ∙ stands.info.statics;
    }
