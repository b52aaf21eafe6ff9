-- What a domain can be given for, read again: an integer, or an array of integers.
use Rattle.std.proofs.Common.{◌≡◌, ℕ, ◌+◌, true, false, List, [], ◌∷◌, map, Option, Some, None, refl, ap, ◌∙◌}
use Rattle.std.specs.Prelude.{◌==◌, ◌||◌, not, nat_le, IfSome}
use Rattle.std.specs.List.{AllZip}
use Rattle.std.proofs.lemmas.Bool.{and_from, and_parts, cond-false, cond_both, not-false, or_from, or_parts}
use Rattle.std.proofs.lemmas.Option.{same_Some}
use Rattle.px_link.proofs.LinkedOperands.{class_class}
use Rattle.px_link.specs.Link.{first_unfit, is_argument, is_integer, unfit_from}
use Rattle.px_link_methods.specs.Methods.{place_of_type}
use Rattle.px_sig.specs.declared.sig.Integer.{Integer}
use Rattle.px_sig.specs.declared.sig.SigLeaf.{SigLeaf}
use Rattle.px_sig.specs.declared.sig.SigLeaf.TheVariants.{Void, Int, Str, Object, Class, Other}
use Rattle.px_sig.specs.declared.sig.SigType.{SigType}
use Rattle.px_tables.specs.Metadata.{View}
use Rattle.px_link_types.specs.Keys.{class_of, class_or_object, in_arrays, key_of, key_or_object, leaf_of, place_key}
use Rattle.px_link_types.specs.Making.{AreNumberedIn}
use Rattle.px_link_types.specs.Numbers.{is_integer_leaf, is_numbered}
use Rattle.px_link_types.specs.declared.key.Key.{Key}
use Rattle.px_link_types.specs.declared.key.Leaf.{Leaf}
use Rattle.px_link_types.specs.declared.key.Leaf.TheVariants.{Number, Library, Defined}
use Rattle.px_asm_law_relink.specs.Again.{Again, key_for}
use Rattle.px_asm_described.specs.Describes.{IsTypeOf}
use Rattle.px_asm_law_relink.proofs.TypesAgain.{type_reads}

-- LEAVES

-- an array so deep of integers
abbrev deep : ℕ → Integer → Key
deep depth integer = record { depth = depth; leaf = Number integer }

record HasInteger (v : View) (leaf : SigLeaf) : Type 0 where
  pub integer : Integer
  pub is : leaf_of v leaf ≡ Some (Number integer)

integer_leaf : (v : View) (leaf : SigLeaf) → is_integer leaf ≡ true → HasInteger v leaf
integer_leaf v (Int integer) is = record { integer = integer; is = refl }
integer_leaf v Void is = absurd (cc)
integer_leaf v Str is = absurd (cc)
integer_leaf v Object is = absurd (cc)
integer_leaf v (Class at) is = absurd (cc)
integer_leaf v Other is = absurd (cc)

-- a class is no integer
no_class : (leaf : Option Leaf) (integer : Integer) → IfSome leaf (λ l. is_integer_leaf l ≡ false) → class_or_object leaf ≡ Number integer → ⊥
no_class None integer class e = cc
no_class (Some (Number other)) integer class e = absurd (cc)
no_class (Some (Library number)) integer class e = cc
no_class (Some (Defined row)) integer class e = cc

leaf_integer : (v : View) (leaf : SigLeaf) (found : Leaf) (integer : Integer) → leaf_of v leaf ≡ Some found → found ≡ Number integer → is_integer leaf ≡ true
leaf_integer v (Int other) found integer is same = refl
leaf_integer v Void found integer is same = absurd (cc)
leaf_integer v Str found integer is same = absurd (let text : Library 17 ≡ found = same_Some (Library 17) found is in cc)
leaf_integer v Object found integer is same = absurd (let object : Library 0 ≡ found = same_Some (Library 0) found is in cc)
leaf_integer v (Class at) found integer is same = absurd (no_class (class_of v at) integer (class_class v at) (same_Some (class_or_object (class_of v at)) found is ∙ same))
leaf_integer v Other found integer is same = absurd (cc)

-- TYPES

-- the arrays and the leaf of a key that was read
read_back : (depth : ℕ) (leaf : Option Leaf) (key : Key) → in_arrays depth leaf ≡ Some key → (depth ≡ key.depth) × (leaf ≡ Some key.leaf)
read_back depth None key is = absurd (cc)
read_back depth (Some leaf) key is =
    let same : record { depth = depth; leaf = leaf } ≡ key = same_Some (record { depth = depth; leaf = leaf }) key is in
    (ap (λ (k : Key). k.depth) same, ap (λ (k : Key). Some k.leaf) same)

record HasArgument (v : View) (type : SigType) : Type 0 where
  pub integer : Integer
  pub few : nat_le type.depth 1 ≡ true
  pub is : key_of v type ≡ Some (deep type.depth integer)

argument_key : (v : View) (type : SigType) → is_argument type ≡ true → HasArgument v type
argument_key v type is =
    let parts = and_parts (nat_le type.depth 1) (is_integer type.leaf) is in
    let has = integer_leaf v type.leaf parts.1 in
    record { integer = has.integer; few = parts.0; is = ap (in_arrays type.depth) has.is }

key_argument : (v : View) (type : SigType) (depth : ℕ) (integer : Integer) → nat_le depth 1 ≡ true → key_of v type ≡ Some (deep depth integer) → is_argument type ≡ true
key_argument v type depth integer few is =
    let parts = read_back type.depth (leaf_of v type.leaf) (deep depth integer) is in
    and_from (nat_le type.depth 1) (is_integer type.leaf) (ap (λ d. nat_le d 1) parts.0 ∙ few) (leaf_integer v type.leaf (Number integer) integer parts.1 refl)

-- READ AGAIN

key_again : (a : Again) (first type : SigType) (key : Key) → key_of a.first first ≡ Some key → is_numbered a.reads.keys (place_key a.first first) ≡ true → IsTypeOf a.p (place_of_type a.first a.reads.keys first) type
    → key_of a.v type ≡ Some (key_for a key)
key_again a first type key is numbered of =
    (type_reads a (place_key a.first first) (place_of_type a.first a.reads.keys first) type numbered refl of).key_is ∙ ap (λ o. Some (key_for a (key_or_object o))) is

argument_again : (a : Again) (first type : SigType) → is_argument first ≡ true → is_numbered a.reads.keys (place_key a.first first) ≡ true → IsTypeOf a.p (place_of_type a.first a.reads.keys first) type → is_argument type ≡ true
argument_again a first type is numbered of =
    let has = argument_key a.first first is in
    key_argument a.v type first.depth has.integer has.few (key_again a first type (deep first.depth has.integer) has.is numbered of)

fit_by : (a : Again) (k : ℕ) (firsts types : List SigType) → unfit_from k firsts ≡ None → AreNumberedIn a.reads.keys (map (place_key a.first) firsts) → AllZip (IsTypeOf a.p) (map (place_of_type a.first a.reads.keys) firsts) types
    → unfit_from k types ≡ None
fit_by a k [] [] fit numbered are = refl
fit_by a k [] (type ∷ types) fit numbered are = absurd are
fit_by a k (first ∷ firsts) [] fit numbered are = absurd are
fit_by a k (first ∷ firsts) (type ∷ types) fit numbered are =
    cond_both ((k == 16) || not (is_argument first)) (Some k) (unfit_from (k + 1) firsts) (λ o. o ≡ None → unfit_from k (type ∷ types) ≡ None)
    (λ unfit none. absurd (cc))
    (λ fits none.
    let parts = or_parts (k == 16) (not (is_argument first)) fits in
    cond-false ((k == 16) || not (is_argument type)) (Some k) (unfit_from (k + 1) types)
    (or_from (k == 16) (not (is_argument type)) parts.0 (ap not (argument_again a first type (not-false (is_argument first) parts.1) numbered.0 are.0)))
    ∙ fit_by a (k + 1) firsts types none numbered.1 are.1)
    fit

pub fit_again : (a : Again) (firsts types : List SigType) → first_unfit firsts ≡ None → AreNumberedIn a.reads.keys (map (place_key a.first) firsts) → AllZip (IsTypeOf a.p) (map (place_of_type a.first a.reads.keys) firsts) types
    → first_unfit types ≡ None
fit_again a firsts types fit numbered are = fit_by a 0 firsts types fit numbered are
