-- The types of a program, read again: keys, numbers and what is said of types.
use Rattle.std.proofs.Common.{◌≡◌, ℕ, zero, suc, ◌+◌, ◌*◌, ◌^◌, ◌≤◌, ◌<◌, true, false, List, Option, Some, None, map, refl, sym, ap, ◌∙◌, subst, ⊎_elim, arith, rules, [], ◌∷◌, ◌++◌, length}
use Rattle.std.specs.Prelude.{◌==◌, ◌&&◌, IsSome, nat_lt, slice_get, IfSome}
use Rattle.std.specs.List.{AllByRecursion, AllZip}
use Rattle.std.specs.Option.{option_map}
use Rattle.std.proofs.lemmas.Bool.{and_left, and_right, cond-false, cond-true, ne_eqb, or_cases, or_left, or_right, or_from, or_parts}
use Rattle.std.proofs.lemmas.Option.{same_Some, slice_get_within}
use Rattle.px_link.proofs.LinkedBases.{all_apart, number_at}
use Rattle.px_link.proofs.LinkedTypes.{HasDefined, HaveTypes, StandsFor, defined_type, have_types}
use Rattle.px_link_methods.proofs.RowPlaces.{at_place_of, each_in, place_below}
use Rattle.px_link.specs.Layout.{row_of_key}
use Rattle.px_link.specs.Overrides.{in_order}
use Rattle.px_meta.specs.Chains.{IsChain, base_in, Ends as ChainEnds, GoesOn}
use Rattle.px_meta.specs.FullNames.{own_name}
use Rattle.px_meta.specs.Overriding.{Derives, Directly, Through}
use Rattle.px_meta.specs.Rows.{IsRow, is_in, type_defs, type_refs}
use Rattle.px_link_methods.specs.Codes.{place_of}
use Rattle.px_link_methods.specs.Methods.{met_by_all}
use Rattle.px_link_tokens.specs.Operands.{known_key}
use Rattle.px_program.proofs.Types.{each_at}
use Rattle.px_program.specs.Alone.{array_of}
use Rattle.px_program.specs.Formed.{type_in}
use Rattle.px_program.specs.Library.{library_types}
use Rattle.px_program.specs.declared.program.Place.{Place}
use Rattle.px_program.specs.declared.program.Place.TheVariants as places
use Rattle.px_program.specs.declared.program.TypeInfo.{TypeInfo}
use Rattle.px_link_reach.specs.Met.{IsOwned}
use Rattle.px_sig.specs.Grammar.{array_of as type_array, plain_type}
use Rattle.px_sig.specs.declared.sig.SigLeaf.TheVariants.{Int, Class}
use Rattle.px_sig.specs.declared.sig.SigType.{SigType}
use Rattle.px_link_types.proofs.Closed.{each_numbered, grows, each-back, each-front}
use Rattle.px_link_types.proofs.Formed.{has_by}
use Rattle.px_link_types.proofs.Keyed.{at_number}
use Rattle.px_link_types.proofs.Known.{are_known, has_at, library_at, known_at}
use Rattle.px_link_types.proofs.Places.{IsOwned as HasOwn, owned}
use Rattle.px_link_types.proofs.There.{IsBaseLeaf, base_leaf_there, own_there}
use Rattle.px_link_types.specs.Infos.{AreInfos, IsInfoOf, number_in, IsDefined}
use Rattle.px_link_types.specs.Keys.{IsKey, alone, class_of, key_of, base_index, key_or_object}
use Rattle.px_link_types.specs.Making.{AreKnown, AreNumberedIn}
use Rattle.px_link_types.specs.Numbers.{Numbers, has_key, is_integer, is_integer_leaf, is_numbered, library_keys, number_of, own_types, place_in, place_of_leaf, base_leaf, field_key, instance_fields, leaf_keys, own_of_key, read_key, static_fields, Ends, Meets, Passes}
use Rattle.px_link_types.specs.declared.key.Key.{Key}
use Rattle.px_link_types.specs.declared.key.Leaf.{Leaf}
use Rattle.px_link_types.specs.declared.key.Leaf.TheVariants.{Number, Library, Defined}
use Rattle.px_asm_law_relink.proofs.TypeBases.{base_defined, base_is, base_library, base_none, no_base}
use Rattle.px_asm_law_relink.proofs.TypeKeys.{each_has, each_own, has_map, key_by_parts, number_map, number_past, none_map}
use Rattle.px_asm_law_relink.proofs.TypeMet.{library_keys_there, met_there}
use Rattle.px_asm_law_relink.proofs.TypeOwned.{reached_owned}
use Rattle.px_asm_law_relink.proofs.TypeReads.{IsRead, array_read, class_read, defined_class, int_read, integer_key, less_test, library_class, more_test, no_integer_place, object_read, text_read}
use Rattle.px_asm_law_relink.specs.Again.{Again, first_numbers, key_for, keys_for, leaf_for, type_for}
use Rattle.px_asm_described.specs.Describes.{IsTypeOf, IsTypeRow, IsArray, IsNumber, IsObject, IsOther, IsText, class_token, type_row, IsFieldRow, extends_of as base_index_of}

-- the type of a row was met: it has a number
abbrev pub IsMet : Again → ℕ → Type 0
IsMet a row = has_key a.reads.keys (alone (Defined row)) ≡ true

-- the row that stands for that of a type, and what it says
pub record HasTypeFor (a : Again) (row : ℕ) : Type 0 where
  pub behind : 18 ≤ number_of a.reads.keys (alone (Defined row))
  pub info : TypeInfo
  pub at : slice_get a.p.types (number_of a.reads.keys (alone (Defined row))) ≡ Some info
  pub there : IsRow a.v type_defs (type_for a row)
  pub is : IsTypeRow a.p a.v (type_for a row) info

-- the types of the program are those of the keys
pub have_all : (a : Again) → HaveTypes a.first a.reads.keys a.p.types
have_all a = have_types a.first (first_numbers a) a.reads.lists (in_order a.reads.reached.rows a.reads.reached.virtual_targets) a.p.types a.reads.types

pub type_has : (a : Again) (row : ℕ) → IsMet a row → HasDefined a.first a.reads.keys a.p.types row
type_has a row met = defined_type a.first a.reads.keys a.p.types (have_all a) row met

type_behind : (a : Again) (row : ℕ) → 18 ≤ number_of a.reads.keys (alone (Defined row))
type_behind a row =
    let g = grows a.reads.numbers in
    subst (λ keys. 18 ≤ number_of keys (alone (Defined row))) (sym g.all_is) (number_past library_keys g.more (alone (Defined row)) refl)

type_placed : (a : Again) (row : ℕ) → IsMet a row → is_in a.p.layout.types (number_of a.reads.keys (alone (Defined row))) ≡ true
type_placed a row met =
    a.reads.layout.types.all (number_of a.reads.keys (alone (Defined row))) (subst (λ key. IsSome (row_of_key key)) (sym (at_number a.reads.keys (alone (Defined row)) met)) refl)

pub type_stands : (a : Again) (row : ℕ) → IsMet a row → HasTypeFor a row
type_stands a row met =
    let n = number_of a.reads.keys (alone (Defined row)) in
    let type = type_has a row met in
    let placed = type_placed a row met in
    record {
      behind = type_behind a row;
      info = type.type;
      at = type.at;
      there = record { some = omega arith; few = omega (arith, a.describes.types_count, place_below a.p.layout.types n placed) };
      is = a.describes.types (place_of a.p.layout.types n) n type.type (at_place_of a.p.layout.types n placed) type.at;
    }

-- the row says what the program does
pub row_reads : (a : Again) (row : ℕ) (met : IsMet a row) → IsTypeRow a.p a.v (type_for a row) (type_has a row met).type
row_reads a row met =
    let stands = type_stands a row met in
    let has = type_has a row met in
    subst (IsTypeRow a.p a.v (type_for a row)) (same_Some stands.info has.type (sym stands.at ∙ has.at)) stands.is

abbrev row_in_leaf : Leaf → ℕ
row_in_leaf (Defined row) = row
row_in_leaf leaf = 0

pub types_apart : (a : Again) (row other : ℕ) → IsMet a row → IsMet a other → type_for a row ≡ type_for a other → row ≡ other
types_apart a row other met other_met same =
    let n = number_of a.reads.keys (alone (Defined row)) in
    let m = number_of a.reads.keys (alone (Defined other)) in
    let places : place_of a.p.layout.types n ≡ place_of a.p.layout.types m = omega arith in
    let numbers : n ≡ m =
    same_Some n m (sym (at_place_of a.p.layout.types n (type_placed a row met)) ∙ ap (slice_get a.p.layout.types) places ∙ at_place_of a.p.layout.types m (type_placed a other other_met)) in
    let keys : alone (Defined row) ≡ alone (Defined other) =
    same_Some (alone (Defined row)) (alone (Defined other)) (sym (at_number a.reads.keys (alone (Defined row)) met) ∙ ap (slice_get a.reads.keys) numbers ∙ at_number a.reads.keys (alone (Defined other)) other_met) in
    ap (λ (key : Key). row_in_leaf key.leaf) keys

-- NUMBERS

-- the types that the first assembly's methods meet, and all that have numbers
pub met_are_there : (a : Again) → AllByRecursion (IsKey a.first) (met_by_all a.first a.reads.reached.rows a.reads.reached.bodies)
met_are_there a = met_there a.first a.reads.reached.rows a.reads.reached.bodies (each_in (IsOwned a.first) a.reads.reached.rows (reached_owned a.reads))

pub all_there : (a : Again) → AllByRecursion (IsKey a.first) a.reads.keys
all_there a = each_numbered (IsKey a.first) (own_there a.first a.sound) a.reads.numbers (library_keys_there a.first) (met_are_there a)

pub all_known : (a : Again) → AreKnown a.first a.reads.keys
all_known a = are_known a.first (met_by_all a.first a.reads.reached.rows a.reads.reached.bodies) a.reads.keys a.sound a.reads.numbers (met_are_there a)

pub row_there : (a : Again) (row : ℕ) → IsMet a row → IsRow a.first type_defs row
row_there a row met = each_at (IsKey a.first) a.reads.keys (all_there a) (number_of a.reads.keys (alone (Defined row))) (alone (Defined row)) (at_number a.reads.keys (alone (Defined row)) met)

abbrev Has : Again → Key → Type 0
Has a key = has_key a.reads.keys key ≡ true

-- the own types of a key with a number have numbers
pub own_numbered : (a : Again) (key : Key) → has_key a.reads.keys key ≡ true → AreNumberedIn a.reads.keys (own_types a.first key)
own_numbered a key has =
    each_at (λ k. AreNumberedIn a.reads.keys (own_types a.first k)) a.reads.keys (each_own a.first (met_by_all a.first a.reads.reached.rows a.reads.reached.bodies) a.reads.keys a.reads.numbers) (number_of a.reads.keys key) key
    (at_number a.reads.keys key has)

pub no_integer : (depth : ℕ) (leaf : Leaf) → is_integer (record { depth = suc depth; leaf = leaf }) ≡ false
no_integer depth leaf = and_left (suc depth == 0) (is_integer_leaf leaf) (ne_eqb (suc depth) 0 (λ e. omega arith))

-- what lies at the bottom of an array of a type of the assembly was met
pub row_met : (a : Again) (depth row : ℕ) → Has a (record { depth = depth; leaf = Defined row }) → IsMet a row
row_met a zero row has = has
row_met a (suc depth) row has =
    let own = own_numbered a (record { depth = suc depth; leaf = Defined row }) has in
    row_met a depth row (has_by a.reads.keys (record { depth = depth; leaf = Defined row }) (and_right (depth == 0) false refl) own.0)

leaves_apart : (a : Again) (depth : ℕ) (leaf other : Leaf) → Has a (record { depth = depth; leaf = leaf }) → Has a (record { depth = depth; leaf = other }) → leaf_for a leaf ≡ leaf_for a other → leaf ≡ other
leaves_apart a depth (Number i) (Number j) has other_has same = same
leaves_apart a depth (Library n) (Library m) has other_has same = same
leaves_apart a depth (Defined row) (Defined other) has other_has same =
    ap (λ r. Defined r) (types_apart a row other (row_met a depth row has) (row_met a depth other other_has) (ap row_in_leaf same))
leaves_apart a depth (Number i) (Library m) has other_has same = absurd (cc)
leaves_apart a depth (Number i) (Defined other) has other_has same = absurd (cc)
leaves_apart a depth (Library n) (Number j) has other_has same = absurd (cc)
leaves_apart a depth (Library n) (Defined other) has other_has same = absurd (cc)
leaves_apart a depth (Defined row) (Number j) has other_has same = absurd (cc)
leaves_apart a depth (Defined row) (Library m) has other_has same = absurd (cc)

-- keys that have numbers stay apart
pub keys_apart : (a : Again) (key other : Key) → has_key a.reads.keys key ≡ true → has_key a.reads.keys other ≡ true → key_for a key ≡ key_for a other → key ≡ other
keys_apart a key other has other_has same =
    let depths : key.depth ≡ other.depth = ap (λ (k : Key). k.depth) same in
    let leaves : leaf_for a key.leaf ≡ leaf_for a other.leaf = ap (λ (k : Key). k.leaf) same in
    key_by_parts key other depths (leaves_apart a other.depth key.leaf other.leaf (subst (λ d. Has a (record { depth = d; leaf = key.leaf })) depths has) other_has leaves)

pub same_number : (a : Again) (key : Key) → has_key a.reads.keys key ≡ true → number_of (keys_for a a.reads.keys) (key_for a key) ≡ number_of a.reads.keys key
same_number a key has = number_map (key_for a) (Has a) (keys_apart a) a.reads.keys key (each_has a.reads.keys) has

same_integer : (a : Again) (leaf : Leaf) → is_integer_leaf (leaf_for a leaf) ≡ is_integer_leaf leaf
same_integer a (Number integer) = refl
same_integer a (Library number) = refl
same_integer a (Defined row) = refl

pub integer_for : (a : Again) (key : Key) → is_integer (key_for a key) ≡ is_integer key
integer_for a key = ap (λ b. (key.depth == 0) && b) (same_integer a key.leaf)

same_place_by : (a : Again) (depth : ℕ) (leaf : Leaf) → is_numbered a.reads.keys (record { depth = depth; leaf = leaf }) ≡ true
    → place_of_leaf (keys_for a a.reads.keys) depth (leaf_for a leaf) ≡ place_of_leaf a.reads.keys depth leaf
same_place_by a zero (Number integer) numbered = refl
same_place_by a zero (Library number) numbered = ap places.Ref (same_number a (alone (Library number)) (has_by a.reads.keys (alone (Library number)) refl numbered))
same_place_by a zero (Defined row) numbered = ap places.Ref (same_number a (alone (Defined row)) (has_by a.reads.keys (alone (Defined row)) refl numbered))
same_place_by a (suc depth) leaf numbered = ap places.Ref (same_number a (record { depth = suc depth; leaf = leaf }) (has_by a.reads.keys (record { depth = suc depth; leaf = leaf }) (no_integer depth leaf) numbered))

pub same_place : (a : Again) (key : Key) → is_numbered a.reads.keys key ≡ true → place_in (keys_for a a.reads.keys) (key_for a key) ≡ place_in a.reads.keys key
same_place a key numbered = same_place_by a key.depth key.leaf numbered

pub numbered_map : (a : Again) (keys : List Key) (key : Key) → is_numbered keys key ≡ true → is_numbered (keys_for a keys) (key_for a key) ≡ true
numbered_map a keys key numbered =
    ⊎_elim
    (λ integer. or_left (is_integer (key_for a key)) (has_key (keys_for a keys) (key_for a key)) (integer_for a key ∙ integer))
    (λ has. or_right (is_integer (key_for a key)) (has_key (keys_for a keys) (key_for a key)) (has_map (key_for a) keys key has))
    (or_cases (is_integer key) (has_key keys key) numbered)

pub same_numbered : (a : Again) (key : Key) → is_numbered a.reads.keys key ≡ true → is_numbered (keys_for a a.reads.keys) (key_for a key) ≡ true
same_numbered a key numbered = numbered_map a a.reads.keys key numbered

-- SIGNATURES

-- a type in a signature reads as the key, and so where all classes must be known
pub record ReadsAs (a : Again) (key : Key) (type : SigType) : Type 0 where
  pub key_is : key_of a.v type ≡ Some (key_for a key)
  pub known : known_key a.v type ≡ Some (key_for a key)

abbrev read_as : (a : Again) (key : Key) (type : SigType) → IsRead a.v type (key_for a key) → ReadsAs a key type
read_as a key type is = record { key_is = is.key_is; known = is.known }

number_at_ref : (n m : ℕ) → places.Ref n ≡ places.Ref m → n ≡ m
number_at_ref n m same = same_Some n m (ap (λ p. type_in (Some p)) same)

-- the key whose place is a reference
key_at_ref : (a : Again) (type depth : ℕ) (leaf : Leaf) → is_numbered a.reads.keys (record { depth = depth; leaf = leaf }) ≡ true → places.Ref type ≡ place_of_leaf a.reads.keys depth leaf
    → slice_get a.reads.keys type ≡ Some (record { depth = depth; leaf = leaf })
key_at_ref a type zero (Number integer) numbered same = absurd (no_integer_place integer type same)
key_at_ref a type zero (Library number) numbered same =
    let key = alone (Library number) in
    ap (slice_get a.reads.keys) (number_at_ref type (number_of a.reads.keys key) same) ∙ at_number a.reads.keys key (has_by a.reads.keys key refl numbered)
key_at_ref a type zero (Defined row) numbered same =
    let key = alone (Defined row) in
    ap (slice_get a.reads.keys) (number_at_ref type (number_of a.reads.keys key) same) ∙ at_number a.reads.keys key (has_by a.reads.keys key refl numbered)
key_at_ref a type (suc depth) leaf numbered same =
    let key : Key = record { depth = suc depth; leaf = leaf } in
    ap (slice_get a.reads.keys) (number_at_ref type (number_of a.reads.keys key) same) ∙ at_number a.reads.keys key (has_by a.reads.keys key (no_integer depth leaf) numbered)

-- a type of the library
library_reads : (a : Again) (type : SigType) (key : Key) (number : ℕ) → number < 18 → slice_get a.reads.keys number ≡ Some key → IsRead a.v type (alone (Library number)) → ReadsAs a key type
library_reads a type key number less at is =
    let same : alone (Library number) ≡ key = same_Some (alone (Library number)) key (sym (library_at a.first a.reads.keys (all_known a) number less) ∙ at) in
    subst (λ k. ReadsAs a k type) same (read_as a (alone (Library number)) type is)

-- a class, by what its number stands for
class_reads : (a : Again) (class depth : ℕ) (leaf : Leaf) (bare : TypeInfo) → slice_get a.reads.keys class ≡ Some (record { depth = depth; leaf = leaf }) → IsInfoOf a.first a.reads.keys depth leaf bare → bare.element ≡ None
    → IsRead a.v (plain_type (Class (class_token a.p class))) (record { depth = depth; leaf = leaf_for a leaf })
class_reads a class zero (Number integer) bare at info none = absurd info
class_reads a class zero (Library number) bare at info none =
    let less : number < 18 = slice_get_within library_types number bare info in
    let apart = all_apart a.reads.numbers in
    let same : class ≡ number = sym (number_at a.reads.keys class (alone (Library number)) apart at) ∙ number_at a.reads.keys number (alone (Library number)) apart (library_at a.first a.reads.keys (all_known a) number less) in
    let row = a.describes.library number less in
    let token : class_token a.p class ≡ type_refs * 2 ^ 24 + (number + 1) =
    ap (class_token a.p) same ∙ cond-true (nat_lt number 18) (type_refs * 2 ^ 24 + (number + 1)) (type_defs * 2 ^ 24 + type_row a.p number) (less_test number 18 less) in
    class_read a.v (class_token a.p class) (Library number) (ap (class_of a.v) token ∙ library_class a.v (number + 1) number row.row (omega arith) row.names)
class_reads a class zero (Defined row) bare at info none =
    let n = number_of a.reads.keys (alone (Defined row)) in
    let same : class ≡ n = sym (number_at a.reads.keys class (alone (Defined row)) (all_apart a.reads.numbers) at) in
    let stands = type_stands a row (has_at a.reads.keys class (alone (Defined row)) at) in
    let token : class_token a.p class ≡ type_defs * 2 ^ 24 + type_for a row =
    ap (class_token a.p) same ∙ cond-false (nat_lt n 18) (type_refs * 2 ^ 24 + (n + 1)) (type_defs * 2 ^ 24 + type_row a.p n) (more_test n 18 stands.behind) in
    class_read a.v (class_token a.p class) (Defined (type_for a row))
    (ap (class_of a.v) token ∙ defined_class a.v (type_for a row) stands.there (omega (arith, stands.there.few, a.describes.few_types)) stands.is.class)
class_reads a class (suc depth) leaf bare at info none = absurd (let some : Some (place_of_leaf a.reads.keys depth leaf) ≡ None = sym (ap (λ (i : TypeInfo). i.element) info) ∙ none in cc)

library_no_arrays : AllByRecursion (λ (info : TypeInfo). info.element ≡ None) library_types
library_no_arrays = search rules

-- an array, by what its number stands for
array_reads : (a : Again) (array depth : ℕ) (leaf : Leaf) (bare : TypeInfo) (element : Place) (inner : SigType) → slice_get a.reads.keys array ≡ Some (record { depth = depth; leaf = leaf })
    → IsInfoOf a.first a.reads.keys depth leaf bare → bare.element ≡ Some element
    → ((key : Key) → is_numbered a.reads.keys key ≡ true → element ≡ place_in a.reads.keys key → ReadsAs a key inner) → IsRead a.v (type_array inner) (record { depth = depth; leaf = leaf_for a leaf })
array_reads a array zero (Number integer) bare element inner at info some reads = absurd info
array_reads a array zero (Library number) bare element inner at info some reads = absurd (let none = each_at (λ (i : TypeInfo). i.element ≡ None) library_types library_no_arrays number bare info in cc)
array_reads a array zero (Defined row) bare element inner at info some reads = absurd (let none = info.element in cc)
array_reads a array (suc depth) leaf bare element inner at info some reads =
    let has = has_at a.reads.keys array (record { depth = suc depth; leaf = leaf }) at in
    let own = own_numbered a (record { depth = suc depth; leaf = leaf }) has in
    let place : element ≡ place_of_leaf a.reads.keys depth leaf = same_Some element (place_of_leaf a.reads.keys depth leaf) (sym some ∙ ap (λ (i : TypeInfo). i.element) info) in
    let inner_reads = reads (record { depth = depth; leaf = leaf }) own.0 place in
    array_read a.v inner depth (leaf_for a leaf) (record { key_is = inner_reads.key_is; known = inner_reads.known })

-- what the program says of the type that a key stands for
stands_for : (a : Again) (type : ℕ) (key : Key) (info : TypeInfo) → slice_get a.reads.keys type ≡ Some key → slice_get a.p.types type ≡ Some info → StandsFor a.first a.reads.keys key info
stands_for a type key info at there = (have_all a).each type key info at there

pub type_reads : (a : Again) (key : Key) (place : Place) (type : SigType) → is_numbered a.reads.keys key ≡ true → place ≡ place_in a.reads.keys key → IsTypeOf a.p place type → ReadsAs a key type
type_reads a key place type numbered place_is (IsNumber integer _ _ p t) =
    let same : key ≡ alone (Number integer) = integer_key a.reads.keys key.depth key.leaf integer (sym place_is ∙ p) in
    subst (λ k. ReadsAs a k type) (sym same) (subst (λ ty. ReadsAs a (alone (Number integer)) ty) (sym t) (read_as a (alone (Number integer)) (plain_type (Int integer)) (int_read a.v integer)))
type_reads a key place type numbered place_is (IsObject _ _ p t) =
    library_reads a type key 0 (omega arith) (key_at_ref a 0 key.depth key.leaf numbered (sym p ∙ place_is)) (subst (λ ty. IsRead a.v ty (alone (Library 0))) (sym t) (object_read a.v))
type_reads a key place type numbered place_is (IsText _ _ p t) =
    library_reads a type key 17 (omega arith) (key_at_ref a 17 key.depth key.leaf numbered (sym p ∙ place_is)) (subst (λ ty. IsRead a.v ty (alone (Library 17))) (sym t) (text_read a.v))
type_reads a key place type numbered place_is (IsOther class _ _ some other is p t) =
    let at = key_at_ref a class key.depth key.leaf numbered (sym p ∙ place_is) in
    let stands = stands_for a class key is.info at is.at in
    read_as a key type (subst (λ ty. IsRead a.v ty (key_for a key)) (sym t) (class_reads a class key.depth key.leaf stands.bare at stands.info (sym stands.alike.element ∙ is.no_element)))
type_reads a key place type numbered place_is (IsArray array element _ inner _ has is p t) =
    let at = key_at_ref a array key.depth key.leaf numbered (sym p ∙ place_is) in
    let stands = stands_for a array key has.info at has.at in
    read_as a key type (subst (λ ty. IsRead a.v ty (key_for a key)) (sym t)
    (array_reads a array key.depth key.leaf stands.bare element inner at stands.info (sym stands.alike.element ∙ has.is) (λ other other_numbered e. type_reads a other element inner other_numbered e is)))

-- BASES

-- a type of the assembly and its own types
owned_at : (a : Again) (row : ℕ) → IsMet a row → HasOwn a.first a.reads.keys row
owned_at a row met =
    owned a.first a.reads.keys row (known_at a.first a.reads.keys (all_known a) (number_of a.reads.keys (alone (Defined row))) (alone (Defined row)) (at_number a.reads.keys (alone (Defined row)) met))

-- the base of a type by its leaf and by its row, where it is read again
record IsBaseAgain (a : Again) (row : ℕ) (found : Option Leaf) : Type 0 where
  pub by_leaf : base_leaf a.v (type_for a row) ≡ option_map (leaf_for a) found
  pub by_row : base_in a.v (type_for a row) ≡ option_map (type_for a) (base_in a.first row)

base_by : (a : Again) (row : ℕ) (found : Option Leaf) → base_leaf a.first row ≡ found → IfSome found (IsBaseLeaf a.first row) → AreNumberedIn a.reads.keys (leaf_keys found) → base_index a.v (type_for a row) ≡ base_index_of a.p (number_in a.reads.keys found)
    → IsBaseAgain a row found
base_by a row None e is numbered index =
    let by = base_none a.v (type_for a row) index in
    record { by_leaf = by.0; by_row = by.1 ∙ sym (ap (option_map (type_for a)) (no_base a.first row None e (λ base same. absurd (cc)))) }
base_by a row (Some (Number integer)) e is numbered index = absurd is
base_by a row (Some (Library number)) e is numbered index =
    let n : number_of a.reads.keys (alone (Library number)) ≡ number =
    number_at a.reads.keys number (alone (Library number)) (all_apart a.reads.numbers) (library_at a.first a.reads.keys (all_known a) number is.0) in
    let at : base_index a.v (type_for a row) ≡ 4 * (number + 1) + 1 =
    index ∙ ap (λ k. base_index_of a.p (Some k)) n ∙ cond-true (nat_lt number 18) (4 * (number + 1) + 1) (4 * type_row a.p number) (less_test number 18 is.0) in
    let by = base_library a.v (type_for a row) number at (a.describes.library number is.0).names is.1 in
    record { by_leaf = by.0; by_row = by.1 ∙ sym (ap (option_map (type_for a)) (no_base a.first row (Some (Library number)) e (λ base same. absurd (cc)))) }
base_by a row (Some (Defined base)) e is numbered index =
    let n = number_of a.reads.keys (alone (Defined base)) in
    let stands = type_stands a base (has_by a.reads.keys (alone (Defined base)) refl numbered.0) in
    let at : base_index a.v (type_for a row) ≡ 4 * type_for a base = index ∙ cond-false (nat_lt n 18) (4 * (n + 1) + 1) (4 * type_row a.p n) (more_test n 18 stands.behind) in
    let by = base_defined a.v (type_for a row) (type_for a base) at stands.there in
    record { by_leaf = by.0; by_row = by.1 ∙ sym (ap (option_map (type_for a)) is.1) }

base_read : (a : Again) (row : ℕ) → IsMet a row → IsBaseAgain a row (base_leaf a.first row)
base_read a row met =
    let has = type_has a row met in
    let reads = row_reads a row met in
    base_by a row (base_leaf a.first row) refl (base_leaf_there a.first row a.sound (row_there a row met)) (owned_at a row met).base (reads.base ∙ ap (base_index_of a.p) has.base)

pub base_again : (a : Again) (row : ℕ) → IsMet a row → base_in a.v (type_for a row) ≡ option_map (type_for a) (base_in a.first row)
base_again a row met = (base_read a row met).by_row

pub base_met : (a : Again) (row base : ℕ) → IsMet a row → base_in a.first row ≡ Some base → IsMet a base
base_met a row base met on =
    let one : AreNumberedIn a.reads.keys (leaf_keys (Some (Defined base))) = subst (λ leaf. AreNumberedIn a.reads.keys (leaf_keys leaf)) (base_is a.first row base on) (owned_at a row met).base in
    has_by a.reads.keys (alone (Defined base)) refl one.0

pub chain_again : (a : Again) (row : ℕ) (behind : List ℕ) → IsMet a row → IsChain (base_in a.first) row behind → IsChain (base_in a.v) (type_for a row) (map (type_for a) behind)
chain_again a row [] met (ChainEnds _ none) = ChainEnds (type_for a row) (base_again a row met ∙ ap (option_map (type_for a)) none)
chain_again a row (base ∷ behind) met (GoesOn _ _ _ on chain) =
    GoesOn (type_for a row) (type_for a base) (map (type_for a) behind) (base_again a row met ∙ ap (option_map (type_for a)) on) (chain_again a base behind (base_met a row base met on) chain)

pub derives_again : (a : Again) (row base : ℕ) → IsMet a row → Derives a.first row base → Derives a.v (type_for a row) (type_for a base)
derives_again a row base met (Directly _ _ on) = Directly (type_for a row) (type_for a base) (base_again a row met ∙ ap (option_map (type_for a)) on)
derives_again a row base met (Through _ between _ on derives) =
    Through (type_for a row) (type_for a between) (type_for a base) (base_again a row met ∙ ap (option_map (type_for a)) on) (derives_again a between base (base_met a row between met on) derives)

-- ALL TYPES

pub keys_append : (a : Again) (keys more : List Key) → keys_for a (keys ++ more) ≡ keys_for a keys ++ keys_for a more
keys_append a [] more = refl
keys_append a (key ∷ keys) more = ap (λ ks. key_for a key ∷ ks) (keys_append a keys more)

-- the fields of a type, read again
pub field_again : (a : Again) (row field : ℕ) → is_numbered a.reads.keys (field_key a.first row) ≡ true → IsFieldRow a.p a.v (place_in a.reads.keys (field_key a.first row)) field → field_key a.v field ≡ key_for a (field_key a.first row)
field_again a row field numbered is =
    let reads = type_reads a (field_key a.first row) (place_in a.reads.keys (field_key a.first row)) is.type numbered refl is.is in
    ap (read_key a.v) is.has_sig ∙ ap key_or_object reads.key_is

fields_again : (a : Again) (rows others : List ℕ) → AreNumberedIn a.reads.keys (map (field_key a.first) rows) → AllZip (IsFieldRow a.p a.v) (map (λ f. place_in a.reads.keys (field_key a.first f)) rows) others
    → map (field_key a.v) others ≡ keys_for a (map (field_key a.first) rows)
fields_again a [] [] numbered are = refl
fields_again a [] (other ∷ others) numbered are = absurd are
fields_again a (row ∷ rows) [] numbered are = absurd are
fields_again a (row ∷ rows) (other ∷ others) numbered are = let first = field_again a row other numbered.0 are.0 in let later = fields_again a rows others numbered.1 are.1 in cc

-- the own types of a type of the assembly
pub record AreOwnAgain (a : Again) (row : ℕ) : Type 0 where
  pub instances : map (field_key a.v) (instance_fields a.v (type_for a row)) ≡ keys_for a (map (field_key a.first) (instance_fields a.first row))
  pub statics : map (field_key a.v) (static_fields a.v (type_for a row)) ≡ keys_for a (map (field_key a.first) (static_fields a.first row))

pub fields_read : (a : Again) (row : ℕ) → IsMet a row → AreOwnAgain a row
fields_read a row met =
    let has = type_has a row met in
    let reads = row_reads a row met in
    let own = owned_at a row met in
    record {
      instances = fields_again a (instance_fields a.first row) (instance_fields a.v (type_for a row)) own.instances (subst (λ ps. AllZip (IsFieldRow a.p a.v) ps (instance_fields a.v (type_for a row))) has.fields reads.fields);
      statics = fields_again a (static_fields a.first row) (static_fields a.v (type_for a row)) own.statics (subst (λ ps. AllZip (IsFieldRow a.p a.v) ps (static_fields a.v (type_for a row))) has.statics reads.statics);
    }

leaf_keys_for : (a : Again) (leaf : Option Leaf) → leaf_keys (option_map (leaf_for a) leaf) ≡ keys_for a (leaf_keys leaf)
leaf_keys_for a None = refl
leaf_keys_for a (Some leaf) = refl

own_by : (a : Again) (depth : ℕ) (leaf : Leaf) → Has a (record { depth = depth; leaf = leaf }) → own_of_key a.v depth (leaf_for a leaf) ≡ keys_for a (own_of_key a.first depth leaf)
own_by a zero (Number integer) has = refl
own_by a zero (Library number) has = refl
own_by a zero (Defined row) has =
    let bases = leaf_keys (base_leaf a.first row) in
    let instances = map (field_key a.first) (instance_fields a.first row) in
    let statics = map (field_key a.first) (static_fields a.first row) in
    let base = ap leaf_keys (base_read a row has).by_leaf ∙ leaf_keys_for a (base_leaf a.first row) in
    let fields = fields_read a row has in
    let first = keys_append a bases instances in
    let all = keys_append a (bases ++ instances) statics in
    ap (λ ks. (ks ++ map (field_key a.v) (instance_fields a.v (type_for a row))) ++ map (field_key a.v) (static_fields a.v (type_for a row))) base
    ∙ ap (λ ks. (keys_for a bases ++ ks) ++ map (field_key a.v) (static_fields a.v (type_for a row))) fields.instances
    ∙ ap (λ ks. (keys_for a bases ++ keys_for a instances) ++ ks) fields.statics
    ∙ ap (λ ks. ks ++ keys_for a statics) (sym first) ∙ sym all
own_by a (suc depth) leaf has = refl

-- a key's own types
pub own_again : (a : Again) (key : Key) → has_key a.reads.keys key ≡ true → own_types a.v (key_for a key) ≡ keys_for a (own_types a.first key)
own_again a key has = own_by a key.depth key.leaf has

-- keys that have numbers in the end
none_again : (a : Again) (keys : List Key) (key : Key) → AllByRecursion (Has a) keys → Has a key → is_numbered keys key ≡ false → is_numbered (keys_for a keys) (key_for a key) ≡ false
none_again a keys key each has none =
    let parts = or_parts (is_integer key) (has_key keys key) none in
    or_from (is_integer (key_for a key)) (has_key (keys_for a keys) (key_for a key)) (integer_for a key ∙ parts.0) (none_map (key_for a) (Has a) (keys_apart a) keys key each has parts.1)

numbers_from : (a : Again) {from met all : List Key} → Numbers a.first from met all → all ≡ a.reads.keys → Numbers a.v (keys_for a from) (keys_for a met) (keys_for a all)
numbers_from a (Ends keys) e = Ends (keys_for a keys)
numbers_from a (Passes keys key rest all has numbers) e = Passes (keys_for a keys) (key_for a key) (keys_for a rest) (keys_for a all) (numbered_map a keys key has) (numbers_from a numbers e)
numbers_from a (Meets keys key rest all none numbers) e =
    let g = grows numbers in
    let each : AllByRecursion (Has a) (keys ++ key ∷ []) =
    each-front (Has a) (keys ++ key ∷ []) g.more (subst (λ ks. AllByRecursion (Has a) ks) (sym e ∙ g.all_is) (each_has a.reads.keys)) in
    let has = each-back (Has a) keys (key ∷ []) each in
    let before = keys_append a keys (key ∷ []) in
    let own = keys_append a (own_types a.first key) rest ∙ ap (λ ks. ks ++ keys_for a rest) (sym (own_again a key has.0)) in
    Meets (keys_for a keys) (key_for a key) (keys_for a rest) (keys_for a all) (none_again a keys key (each-front (Has a) keys (key ∷ []) each) has.0 none)
    (subst (λ ks. Numbers a.v ks (own_types a.v (key_for a key) ++ keys_for a rest) (keys_for a all)) before
    (subst (λ ks. Numbers a.v (keys_for a (keys ++ key ∷ [])) ks (keys_for a all)) own (numbers_from a numbers e)))

pub numbers_again : (a : Again) → Numbers a.v library_keys (keys_for a (met_by_all a.first a.reads.reached.rows a.reads.reached.bodies)) (keys_for a a.reads.keys)
numbers_again a = numbers_from a a.reads.numbers refl

-- INFOS

places_by : (a : Again) (keys : List Key) (rows : List ℕ) → map (λ f. place_in keys (field_key a.v f)) rows ≡ map (place_in keys) (map (field_key a.v) rows)
places_by a keys [] = refl
places_by a keys (row ∷ rows) = ap (λ ps. place_in keys (field_key a.v row) ∷ ps) (places_by a keys rows)

places_for : (a : Again) (rows : List ℕ) → AreNumberedIn a.reads.keys (map (field_key a.first) rows) → map (place_in (keys_for a a.reads.keys)) (keys_for a (map (field_key a.first) rows)) ≡ map (λ f. place_in a.reads.keys (field_key a.first f)) rows
places_for a [] numbered = refl
places_for a (row ∷ rows) numbered = let first = same_place a (field_key a.first row) numbered.0 in let later = places_for a rows numbered.1 in cc

places_again : (a : Again) (rows others : List ℕ) → AreNumberedIn a.reads.keys (map (field_key a.first) rows) → map (field_key a.v) others ≡ keys_for a (map (field_key a.first) rows)
    → map (λ f. place_in a.reads.keys (field_key a.first f)) rows ≡ map (λ f. place_in (keys_for a a.reads.keys) (field_key a.v f)) others
places_again a rows others numbered e =
    let keys = keys_for a a.reads.keys in
    sym (places_by a keys others ∙ ap (map (place_in keys)) e ∙ places_for a rows numbered)

number_again : (a : Again) (row : ℕ) (found : Option Leaf) → IfSome found (IsBaseLeaf a.first row) → AreNumberedIn a.reads.keys (leaf_keys found) → number_in a.reads.keys found ≡ number_in (keys_for a a.reads.keys) (option_map (leaf_for a) found)
number_again a row None is numbered = refl
number_again a row (Some (Number integer)) is numbered = absurd is
number_again a row (Some (Library number)) is numbered = ap (λ n. Some n) (sym (same_number a (alone (Library number)) (has_by a.reads.keys (alone (Library number)) refl numbered.0)))
number_again a row (Some (Defined base)) is numbered = ap (λ n. Some n) (sym (same_number a (alone (Defined base)) (has_by a.reads.keys (alone (Defined base)) refl numbered.0)))

-- a type of the assembly
defined_again : (a : Again) (row : ℕ) (info : TypeInfo) → IsMet a row → slice_get a.reads.types.bare (number_of a.reads.keys (alone (Defined row))) ≡ Some info → IsDefined a.first a.reads.keys row info
    → IsDefined a.v (keys_for a a.reads.keys) (type_for a row) info
defined_again a row info met at is =
    let n = number_of a.reads.keys (alone (Defined row)) in
    let stands = type_stands a row met in
    let own = owned_at a row met in
    let fields = fields_read a row met in
    let linked = a.reads.types.each n (alone (Defined row)) info stands.info (at_number a.reads.keys (alone (Defined row)) met) at stands.at in
    let name : info.name ≡ own_name a.v (type_for a row) = sym (stands.is.name ∙ ap (λ (t : TypeInfo). t.name) linked.is) in
    let base = base_leaf_there a.first row a.sound (row_there a row met) in
    record {
      name = record { outers = []; chain = ChainEnds (type_for a row) stands.is.not_nested; is = name };
      base = is.base ∙ number_again a row (base_leaf a.first row) base own.base ∙ ap (number_in (keys_for a a.reads.keys)) (sym (base_read a row met).by_leaf);
      element = is.element;
      fields = is.fields ∙ places_again a (instance_fields a.first row) (instance_fields a.v (type_for a row)) own.instances fields.instances;
      statics = is.statics ∙ places_again a (static_fields a.first row) (static_fields a.v (type_for a row)) own.statics fields.statics;
      no_overrides = is.no_overrides;
    }

info_by : (a : Again) (n depth : ℕ) (leaf : Leaf) (info : TypeInfo) → slice_get a.reads.keys n ≡ Some (record { depth = depth; leaf = leaf }) → slice_get a.reads.types.bare n ≡ Some info → IsInfoOf a.first a.reads.keys depth leaf info
    → IsInfoOf a.v (keys_for a a.reads.keys) depth (leaf_for a leaf) info
info_by a n zero (Number integer) info at there is = is
info_by a n zero (Library number) info at there is = is
info_by a n zero (Defined row) info at there is =
    let key = alone (Defined row) in
    let same : number_of a.reads.keys key ≡ n = number_at a.reads.keys n key (all_apart a.reads.numbers) at in
    defined_again a row info (has_at a.reads.keys n key at) (ap (slice_get a.reads.types.bare) same ∙ there) is
info_by a n (suc depth) leaf info at there is =
    let own = own_numbered a (record { depth = suc depth; leaf = leaf }) (has_at a.reads.keys n (record { depth = suc depth; leaf = leaf }) at) in
    is ∙ ap array_of (sym (same_place a (record { depth = depth; leaf = leaf }) own.0))

key_behind : (a : Again) (keys : List Key) (n : ℕ) (key : Key) → slice_get (keys_for a keys) n ≡ Some key → (first : Key) × ((slice_get keys n ≡ Some first) × (key_for a first ≡ key))
key_behind a [] n key at = absurd (cc)
key_behind a (first ∷ keys) zero key at = (first, (refl, same_Some (key_for a first) key at))
key_behind a (first ∷ keys) (suc n) key at = key_behind a keys n key at

pub keys_length : (a : Again) (keys : List Key) → length (keys_for a keys) ≡ length keys
keys_length a [] = refl
keys_length a (key ∷ keys) = ap suc (keys_length a keys)

pub infos_again : (a : Again) → AreInfos a.v (keys_for a a.reads.keys) a.reads.types.bare
infos_again a = record {
  count = a.reads.types.infos.count ∙ sym (keys_length a a.reads.keys);
  each = λ n key info at there.
      let behind = key_behind a a.reads.keys n key at in
      let first : Key = behind.0 in
      subst (λ (k : Key). IsInfoOf a.v (keys_for a a.reads.keys) k.depth k.leaf info) behind.1.1 (info_by a n first.depth first.leaf info behind.1.0 there (a.reads.types.infos.each n first info behind.1.0 there));
}
