-- What a type of the assembly names is there.
use Rattle.std.proofs.Common.{◌≡◌, ◌≢◌, ℕ, zero, suc, ◌+◌, ◌/◌, ◌%◌, ◌^◌, ◌<◌, ◌≤◌, Bool, true, false, List, [], ◌∷◌, ◌++◌, length, map, Option, Some, None, refl, sym, ◌∙◌, subst, arith, eqb-true, eq-eqb, le-leb}
use Rattle.std.specs.Prelude.{◌==◌, ◌&&◌, IfSome, codes, if◌then◌else◌, nat_le}
use Rattle.std.specs.List.{AllByRecursion}
use Rattle.std.specs.Str.{bytes_eq}
use Rattle.std.proofs.lemmas.Bool.{and_from, and_parts, cond-true, cond_both, eqb-false, leb-true, ltb-false}
use Rattle.px_meta.specs.Chains.{base_in}
use Rattle.px_meta.specs.Members.{field_sig_at}
use Rattle.px_meta.specs.Rows.{IsRow, cell, count_of, fields, some_row, type_defs, type_refs}
use Rattle.px_meta.specs.Tokens.{row_in, table_in}
use Rattle.px_program.specs.Library.{library_types}
use Rattle.px_program.specs.declared.program.TypeInfo.{TypeInfo}
use Rattle.px_program.proofs.Types.{each-append}
use Rattle.px_sig.specs.declared.sig.SigType.{SigType}
use Rattle.px_sig.specs.declared.sig.SigLeaf.{SigLeaf}
use Rattle.px_sig.specs.declared.sig.SigLeaf.TheVariants.{Void, Int, Str, Object, Class, Other}
use Rattle.px_tables.specs.Metadata.{IsSound, View}
use Rattle.px_link_types.specs.declared.key.Key.{Key}
use Rattle.px_link_types.specs.declared.key.Leaf.{Leaf}
use Rattle.px_link_types.specs.declared.key.Leaf.TheVariants.{Number, Library, Defined}
use Rattle.px_link_types.specs.Keys.{IsKey, IsLeaf, base_index, class_of, class_or_object, defined_in, is_class, is_system, in_arrays, key_of, key_or_object, leaf_of, library_in, library_leaf, library_number, library_ref, number_from, ref_name}
use Rattle.px_link_types.specs.Numbers.{base_in_library, base_leaf, field_key, instance_fields, leaf_keys, own_of_key, own_types, read_key, static_fields}

-- CLASSES

row_by_test : (v : View) (table row : ℕ) (is : Bool) → (nat_le 1 row && nat_le row (count_of v table)) ≡ is → IfSome (if is then Some row else None) (IsRow v table)
row_by_test v table row true e =
    let parts = and_parts (nat_le 1 row) (nat_le row (count_of v table)) e in
    record { some = leb-true 1 row parts.0; few = leb-true row (count_of v table) parts.1 }
row_by_test v table row false e = tt

pub row_there : (v : View) (table row : ℕ) → IfSome (some_row v table row) (IsRow v table)
row_there v table row = row_by_test v table row (nat_le 1 row && nat_le row (count_of v table)) refl

number_within : (number : ℕ) (types : List TypeInfo) (name : List ℕ) → IfSome (number_from number types name) (λ n. n < number + length types)
number_within number [] name = tt
number_within number (type ∷ types) name =
    cond_both (bytes_eq type.name name) (Some number) (number_from (number + 1) types name) (λ o. IfSome o (λ n. n < number + suc (length types)))
    (λ same. omega arith)
    (λ other. let more : (number + 1) + length types ≡ number + suc (length types) = omega arith in subst (λ k. IfSome (number_from (number + 1) types name) (λ n. n < k)) more (number_within (number + 1) types name))

library_there : (v : View) (row : ℕ) → IfSome (library_ref v row) (λ n. n < 18)
library_there v row =
    cond_both (is_system v row) (library_number (ref_name v row)) None (λ o. IfSome o (λ n. n < 18)) (λ is. number_within 0 library_types (codes "System." ++ ref_name v row)) (λ other. tt)

leaf_there : (v : View) (number : Option ℕ) → IfSome number (λ n. n < 18) → IfSome (library_leaf number) (IsLeaf v)
leaf_there v None below = tt
leaf_there v (Some number) below = below

library_in_there : (v : View) (row : Option ℕ) → IfSome (library_in v row) (IsLeaf v)
library_in_there v None = tt
library_in_there v (Some row) = leaf_there v (library_ref v row) (library_there v row)

defined_there : (v : View) (row : Option ℕ) → IfSome row (IsRow v type_defs) → IfSome (defined_in v row) (IsLeaf v)
defined_there v None is = tt
defined_there v (Some row) is = cond_both (is_class v row) (Some (Defined row)) None (λ o. IfSome o (IsLeaf v)) (λ e. is) (λ e. tt)

class_there : (v : View) (at : ℕ) → IfSome (class_of v at) (IsLeaf v)
class_there v at =
    cond_both (table_in at == type_defs) (defined_in v (some_row v type_defs (row_in at))) (if table_in at == type_refs then library_in v (some_row v type_refs (row_in at)) else None) (λ o. IfSome o (IsLeaf v))
    (λ e. defined_there v (some_row v type_defs (row_in at)) (row_there v type_defs (row_in at)))
    (λ e. cond_both (table_in at == type_refs) (library_in v (some_row v type_refs (row_in at))) None (λ o. IfSome o (IsLeaf v)) (λ f. library_in_there v (some_row v type_refs (row_in at))) (λ f. tt))

class_or_object_there : (v : View) (leaf : Option Leaf) → IfSome leaf (IsLeaf v) → IsLeaf v (class_or_object leaf)
class_or_object_there v None is = omega arith
class_or_object_there v (Some leaf) is = is

-- PLACES

leaf_of_there : (v : View) (leaf : SigLeaf) → IfSome (leaf_of v leaf) (IsLeaf v)
leaf_of_there v Void = tt
leaf_of_there v (Int integer) = tt
leaf_of_there v Str = omega arith
leaf_of_there v Object = omega arith
leaf_of_there v (Class at) = class_or_object_there v (class_of v at) (class_there v at)
leaf_of_there v Other = tt

in_arrays_there : (v : View) (depth : ℕ) (leaf : Option Leaf) → IfSome leaf (IsLeaf v) → IfSome (in_arrays depth leaf) (IsKey v)
in_arrays_there v depth None is = tt
in_arrays_there v depth (Some leaf) is = is

key_there : (v : View) (type : SigType) → IfSome (key_of v type) (IsKey v)
key_there v type = in_arrays_there v type.depth (leaf_of v type.leaf) (leaf_of_there v type.leaf)

or_object_there : (v : View) (key : Option Key) → IfSome key (IsKey v) → IsKey v (key_or_object key)
or_object_there v None is = omega arith
or_object_there v (Some key) is = is

read_there : (v : View) (type : Option SigType) → IsKey v (read_key v type)
read_there v None = omega arith
read_there v (Some type) = or_object_there v (key_of v type) (key_there v type)

field_there : (v : View) (field : ℕ) → IsKey v (field_key v field)
field_there v field = read_there v (field_sig_at v (cell v fields field 2))

-- OWN TYPES

-- The base of a type: one of the library that is no `String`, or the row that the chain of bases goes on to.
abbrev pub IsBaseLeaf : View → ℕ → Leaf → Type 0
IsBaseLeaf v row (Number integer) = ⊥
IsBaseLeaf v row (Library number) = (number < 18) × (number ≢ 17)
IsBaseLeaf v row (Defined base) = IsRow v type_defs base × (base_in v row ≡ Some base)

-- each index of a sound assembly names a row
index_there : (v : View) (row : ℕ) → IsSound v → IsRow v type_defs row → base_index v row % 4 ≡ 0 → base_index v row / 4 ≤ count_of v type_defs
index_there v row sound is table =
    let good = sound.indexes type_defs row 3 refl (omega (arith, is.some)) is.few (omega arith) in
    ltb-false (count_of v type_defs) (base_index v row / 4) (rw table at good)

some_row_is : (v : View) (table row : ℕ) → IsRow v table row → some_row v table row ≡ Some row
some_row_is v table row is = cond-true (nat_le 1 row && nat_le row (count_of v table)) (Some row) None (and_from (nat_le 1 row) (nat_le row (count_of v table)) (le-leb 1 row is.some) (le-leb row (count_of v table) is.few))

defined_base : (v : View) (row : ℕ) → IsSound v → IsRow v type_defs row → (base_index v row / 4 ≡ 0 → ⊥) → base_index v row % 4 ≡ 0 → IsBaseLeaf v row (Defined (base_index v row / 4))
defined_base v row sound is some table =
    let there : IsRow v type_defs (base_index v row / 4) = record { some = omega arith; few = index_there v row sound is table } in
    (there, cond-true (base_index v row % 4 == 0) (some_row v type_defs (base_index v row / 4)) None (eq-eqb (base_index v row % 4) 0 table) ∙ some_row_is v type_defs (base_index v row / 4) there)

library_base : (v : View) (row : ℕ) (number : Option ℕ) → IfSome number (λ n. n < 18) → IsBaseLeaf v row (base_in_library number)
library_base v row None below = (omega arith, λ e. omega arith)
library_base v row (Some number) below =
    cond_both (number == 17) (Library 0) (Library number) (IsBaseLeaf v row) (λ e. (omega arith, λ f. omega arith)) (λ e. (below, eqb-false number 17 e))

pub base_leaf_there : (v : View) (row : ℕ) → IsSound v → IsRow v type_defs row → IfSome (base_leaf v row) (IsBaseLeaf v row)
base_leaf_there v row sound is =
    let index = base_index v row in
    let last : Option Leaf = Some (Library 0) in
    let library : Option Leaf = Some (base_in_library (library_ref v (index / 4))) in
    cond_both (index / 4 == 0) None (if index % 4 == 0 then Some (Defined (index / 4)) else if index % 4 == 1 then library else last) (λ o. IfSome o (IsBaseLeaf v row))
    (λ none. tt)
    (λ some. cond_both (index % 4 == 0) (Some (Defined (index / 4))) (if index % 4 == 1 then library else last) (λ o. IfSome o (IsBaseLeaf v row))
    (λ defined. defined_base v row sound is (eqb-false (index / 4) 0 some) (eqb-true (index % 4) 0 defined))
    (λ other. cond_both (index % 4 == 1) library last (λ o. IfSome o (IsBaseLeaf v row))
    (λ ref. library_base v row (library_ref v (index / 4)) (library_there v (index / 4)))
    (λ spec. (omega arith, λ e. omega arith))))

base_there : (v : View) (row : ℕ) (base : Option Leaf) → IfSome base (IsBaseLeaf v row) → AllByRecursion (IsKey v) (leaf_keys base)
base_there v row None is = tt
base_there v row (Some (Number integer)) is = absurd is
base_there v row (Some (Library number)) is = (is.0, tt)
base_there v row (Some (Defined base)) is = (is.0, tt)

pub fields_there : (v : View) (rows : List ℕ) → AllByRecursion (IsKey v) (map (field_key v) rows)
fields_there v [] = tt
fields_there v (row ∷ rows) = (field_there v row, fields_there v rows)

own_of_there : (v : View) → IsSound v → (depth : ℕ) (leaf : Leaf) → IsLeaf v leaf → AllByRecursion (IsKey v) (own_of_key v depth leaf)
own_of_there v sound zero (Number integer) is = tt
own_of_there v sound zero (Library number) is = tt
own_of_there v sound zero (Defined row) is =
    let instances = map (field_key v) (instance_fields v row) in
    let statics = map (field_key v) (static_fields v row) in
    each-append (IsKey v) (leaf_keys (base_leaf v row) ++ instances) statics
    (each-append (IsKey v) (leaf_keys (base_leaf v row)) instances (base_there v row (base_leaf v row) (base_leaf_there v row sound is)) (fields_there v (instance_fields v row)))
    (fields_there v (static_fields v row))
own_of_there v sound (suc depth) leaf is = (is, tt)

-- the own types of what is there are there
pub own_there : (v : View) → IsSound v → (key : Key) → IsKey v key → AllByRecursion (IsKey v) (own_types v key)
own_there v sound key is = own_of_there v sound key.depth key.leaf is
