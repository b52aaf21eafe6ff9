-- What types in signatures read as.
use Rattle.std.proofs.Common.{◌≡◌, ℕ, zero, suc, ◌+◌, ◌*◌, ◌^◌, ◌≤◌, ◌<◌, true, false, List, Option, Some, None, refl, sym, ap, ◌∙◌, arith, eq-eqb, le-leb}
use Rattle.std.specs.Prelude.{◌==◌, ◌&&◌, if◌then◌else◌, nat_le, nat_lt}
use Rattle.std.proofs.lemmas.Bool.{and_from, cond-false, cond-true, ne_eqb}
use Rattle.std.proofs.lemmas.Bool.Decides.{nat_tests}
use Rattle.px_meta.specs.Rows.{IsRow, count_of, some_row, type_defs, type_refs}
use Rattle.px_meta.specs.Tokens.{row_in, table_in}
use Rattle.px_link_tokens.specs.Operands.{known_key, known_leaf}
use Rattle.px_program.specs.Formed.{type_in}
use Rattle.px_program.specs.declared.program.Place.{Place}
use Rattle.px_program.specs.declared.program.Place.TheVariants as places
use Rattle.px_sig.specs.declared.sig.Integer.{Integer}
use Rattle.px_sig.specs.declared.sig.Integer.TheVariants as integers
use Rattle.px_sig.specs.Grammar.{array_of, plain_type}
use Rattle.px_sig.specs.declared.sig.SigLeaf.TheVariants.{Int, Str, Object, Class}
use Rattle.px_sig.specs.declared.sig.SigType.{SigType}
use Rattle.px_tables.specs.Metadata.{View}
use Rattle.px_link_types.specs.declared.key.Key.{Key}
use Rattle.px_link_types.specs.declared.key.Leaf.{Leaf}
use Rattle.px_link_types.specs.declared.key.Leaf.TheVariants.{Number, Library, Defined}
use Rattle.px_link_types.specs.Keys.{alone, class_of, class_or_object, defined_in, in_arrays, is_class, key_of, leaf_of, library_in, library_leaf, library_ref, object}
use Rattle.px_link_types.specs.Numbers.{integer_place, number_of, place_of_leaf}

-- TOKENS OF CLASSES

pub less_test : (a b : ℕ) → a < b → nat_lt a b ≡ true
less_test a b less = grind (arith, nat_tests)

pub more_test : (a b : ℕ) → b ≤ a → nat_lt a b ≡ false
more_test a b more = grind (arith, nat_tests)

pub some_row_is : (v : View) (table row : ℕ) → IsRow v table row → some_row v table row ≡ Some row
some_row_is v table row is = cond-true (nat_le 1 row && nat_le row (count_of v table)) (Some row) None (and_from (nat_le 1 row) (nat_le row (count_of v table)) (le-leb 1 row is.some) (le-leb row (count_of v table) is.few))

table_of : (table row : ℕ) → row < 2 ^ 24 → table_in (table * 2 ^ 24 + row) ≡ table
table_of table row few = omega arith

row_of : (table row : ℕ) → row < 2 ^ 24 → row_in (table * 2 ^ 24 + row) ≡ row
row_of table row few = omega arith

-- the token of a class of the assembly
pub defined_class : (v : View) (row : ℕ) → IsRow v type_defs row → row < 2 ^ 24 → is_class v row ≡ true → class_of v (type_defs * 2 ^ 24 + row) ≡ Some (Defined row)
defined_class v row is few class =
    let at = type_defs * 2 ^ 24 + row in
    cond-true (table_in at == type_defs) (defined_in v (some_row v type_defs (row_in at))) (if table_in at == type_refs then library_in v (some_row v type_refs (row_in at)) else None) (eq-eqb (table_in at) type_defs (table_of type_defs row few))
    ∙ ap (λ r. defined_in v (some_row v type_defs r)) (row_of type_defs row few) ∙ ap (defined_in v) (some_row_is v type_defs row is) ∙ cond-true (is_class v row) (Some (Defined row)) None class

-- the token of a class of the library
pub library_class : (v : View) (row number : ℕ) → IsRow v type_refs row → row < 2 ^ 24 → library_ref v row ≡ Some number → class_of v (type_refs * 2 ^ 24 + row) ≡ Some (Library number)
library_class v row number is few names =
    let at = type_refs * 2 ^ 24 + row in
    let table = table_of type_refs row few in
    let rest = if table_in at == type_refs then library_in v (some_row v type_refs (row_in at)) else None in
    cond-false (table_in at == type_defs) (defined_in v (some_row v type_defs (row_in at))) rest (ne_eqb (table_in at) type_defs (λ e. omega (arith, table, e)))
    ∙ cond-true (table_in at == type_refs) (library_in v (some_row v type_refs (row_in at))) None (eq-eqb (table_in at) type_refs table)
    ∙ ap (λ r. library_in v (some_row v type_refs r)) (row_of type_refs row few) ∙ ap (library_in v) (some_row_is v type_refs row is) ∙ ap library_leaf names

-- READING

-- a type in a signature reads as the key, and so where all classes must be known
pub record IsRead (v : View) (type : SigType) (key : Key) : Type 0 where
  pub key_is : key_of v type ≡ Some key
  pub known : known_key v type ≡ Some key

pub int_read : (v : View) (integer : Integer) → IsRead v (plain_type (Int integer)) (alone (Number integer))
int_read v integer = record { key_is = refl; known = refl }

pub text_read : (v : View) → IsRead v (plain_type Str) (alone (Library 17))
text_read v = record { key_is = refl; known = refl }

pub object_read : (v : View) → IsRead v (plain_type Object) object
object_read v = record { key_is = refl; known = refl }

pub class_read : (v : View) (at : ℕ) (leaf : Leaf) → class_of v at ≡ Some leaf → IsRead v (plain_type (Class at)) (alone leaf)
class_read v at leaf is = record { key_is = ap (λ o. Some (alone (class_or_object o))) is; known = ap (in_arrays 0) is }

abbrev one_more : Option Key → Option Key
one_more None = None
one_more (Some key) = Some (record { depth = suc key.depth; leaf = key.leaf })

deeper : (depth : ℕ) (leaf : Option Leaf) → in_arrays (suc depth) leaf ≡ one_more (in_arrays depth leaf)
deeper depth None = refl
deeper depth (Some leaf) = refl

pub array_read : (v : View) (inner : SigType) (depth : ℕ) (leaf : Leaf) → IsRead v inner (record { depth = depth; leaf = leaf }) → IsRead v (array_of inner) (record { depth = suc depth; leaf = leaf })
array_read v inner depth leaf is = record {
  key_is = deeper inner.depth (leaf_of v inner.leaf) ∙ ap one_more is.key_is;
  known = deeper inner.depth (known_leaf v inner.leaf) ∙ ap one_more is.known;
}

-- PLACES

abbrev integer_in : Place → Integer
integer_in places.Bool = integers.Bool
integer_in places.Char = integers.Char
integer_in places.I1 = integers.I1
integer_in places.U1 = integers.U1
integer_in places.I2 = integers.I2
integer_in places.U2 = integers.U2
integer_in places.I4 = integers.I4
integer_in places.U4 = integers.U4
integer_in places.I8 = integers.I8
integer_in places.U8 = integers.U8
integer_in places.N = integers.N
integer_in places.UN = integers.UN
integer_in (places.Ref type) = integers.Bool

integer_back : (integer : Integer) → integer_in (integer_place integer) ≡ integer
integer_back integers.Bool = refl
integer_back integers.Char = refl
integer_back integers.I1 = refl
integer_back integers.U1 = refl
integer_back integers.I2 = refl
integer_back integers.U2 = refl
integer_back integers.I4 = refl
integer_back integers.U4 = refl
integer_back integers.I8 = refl
integer_back integers.U8 = refl
integer_back integers.N = refl
integer_back integers.UN = refl

no_reference : (integer : Integer) → type_in (Some (integer_place integer)) ≡ None
no_reference integers.Bool = refl
no_reference integers.Char = refl
no_reference integers.I1 = refl
no_reference integers.U1 = refl
no_reference integers.I2 = refl
no_reference integers.U2 = refl
no_reference integers.I4 = refl
no_reference integers.U4 = refl
no_reference integers.I8 = refl
no_reference integers.U8 = refl
no_reference integers.N = refl
no_reference integers.UN = refl

pub no_integer_place : (integer : Integer) (type : ℕ) → places.Ref type ≡ integer_place integer → ⊥
no_integer_place integer type same = let none : Some type ≡ None = ap (λ p. type_in (Some p)) same ∙ no_reference integer in absurd (cc)

-- the key whose place is an integer's is that integer
pub integer_key : (keys : List Key) (depth : ℕ) (leaf : Leaf) (integer : Integer) → place_of_leaf keys depth leaf ≡ integer_place integer → record { depth = depth; leaf = leaf } ≡ alone (Number integer)
integer_key keys zero (Number other) integer same = ap (λ i. alone (Number i)) (sym (integer_back other) ∙ ap integer_in same ∙ integer_back integer)
integer_key keys zero (Library number) integer same = absurd (no_integer_place integer (number_of keys (alone (Library number))) same)
integer_key keys zero (Defined row) integer same = absurd (no_integer_place integer (number_of keys (alone (Defined row))) same)
integer_key keys (suc depth) leaf integer same = absurd (no_integer_place integer (number_of keys (record { depth = suc depth; leaf = leaf })) same)
