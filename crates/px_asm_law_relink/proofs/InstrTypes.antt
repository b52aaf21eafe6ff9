-- Texts and types that tokens name, read again.
use Rattle.std.proofs.Common.{◌≡◌, ℕ, zero, suc, ◌+◌, ◌%◌, ◌^◌, ◌<◌, Bool, true, false, List, length, Option, Some, None, refl, sym, ap, ◌∙◌, subst, arith, rules, eq-eqb}
use Rattle.std.specs.Prelude.{◌==◌, ◌&&◌, nat_lt, if◌then◌else◌}
use Rattle.std.specs.List.{AllByRecursion}
use Rattle.std.proofs.lemmas.Bool.{and_left, cond-true, cond_both, ltb-true, ne_eqb}
use Rattle.std.proofs.lemmas.Option.{same_Some}
use Rattle.px_blobs.specs.Items.{blob_at}
use Rattle.px_meta.specs.Rows.{some_row, type_specs}
use Rattle.px_meta.specs.Tokens.{row_in, table_in}
use Rattle.px_link_tokens.specs.Operands.{element_at, operand_of, read_known, spec_in, text_at_token, text_of, type_at, type_only, type_operand, units_of}
use Rattle.px_link_tokens.specs.declared.operand.Operand.TheVariants as operand
use Rattle.px_program.proofs.Types.{each-append, each_at}
use Rattle.px_program.specs.declared.instr.Code.TheVariants as code
use Rattle.px_program.specs.declared.instr.ElementForm.TheVariants as form
use Rattle.px_program.specs.declared.program.Place.{Place}
use Rattle.px_program.specs.declared.program.Place.TheVariants as places
use Rattle.px_program.specs.declared.program.TypeInfo.{TypeInfo}
use Rattle.px_link_types.specs.declared.key.Key.{Key}
use Rattle.px_link_types.specs.declared.key.Leaf.{Leaf}
use Rattle.px_link_types.specs.declared.key.Leaf.TheVariants.{Number, Library, Defined}
use Rattle.px_link_types.specs.Keys.{array_in}
use Rattle.px_link_types.specs.Making.{AreNumberedIn}
use Rattle.px_link_types.specs.Numbers.{has_key, is_integer, is_integer_leaf, is_numbered, library_keys, number_of, own_types, place_in, place_of_leaf}
use Rattle.px_link_types.proofs.Closed.{grows}
use Rattle.px_link_types.proofs.Formed.{has_by}
use Rattle.px_link_types.proofs.Keyed.{at_number}
use Rattle.px_link.proofs.LinkedOperands.{IsType}
use Rattle.px_link.proofs.LinkedProgram.{has_numbered}
use Rattle.px_link.proofs.LinkedTypes.{StandsFor, type_of}
use Rattle.px_asm_law_relink.specs.Again.{Again, key_for, leaf_for}
use Rattle.px_asm_described.specs.Describes.{HasElement, Spells}
use Rattle.px_asm_law_relink.proofs.InstrOperands.{StandsWith}
use Rattle.px_asm_law_relink.proofs.TypeReads.{some_row_is}
use Rattle.px_asm_law_relink.proofs.TypesAgain.{same_number, same_place, type_reads}

-- the own types of each key that has a number have numbers
pub own_numbered : (a : Again) (key : Key) → has_key a.reads.keys key ≡ true → AreNumberedIn a.reads.keys (own_types a.first key)
own_numbered a key has =
    let g = grows a.reads.numbers in
    let own : Key → Type 0 = λ k. AreNumberedIn a.reads.keys (own_types a.first k) in
    let all : AllByRecursion own a.reads.keys = subst (AllByRecursion own) (sym g.all_is) (each-append own library_keys g.more (search rules) g.own) in
    each_at own a.reads.keys all (number_of a.reads.keys key) key (at_number a.reads.keys key has)

-- TEXTS

text_stands : (a : Again) (bytes : Option (List ℕ)) → StandsWith a 0x72 (text_of bytes)
unfolding operand_of
text_stands a None = tt
text_stands a (Some bytes) =
    let text = operand.Text (units_of bytes) in
    cond_both (length bytes % 2 == 1) (Some text) None (StandsWith a 0x72) (λ e met. record { opcode_is = refl; named = λ token names. record { other = text; at = names; keys = refl; targets = refl; code = refl } }) (λ e. tt)

pub token_stands : (a : Again) (at : ℕ) → StandsWith a 0x72 (text_at_token a.first at)
token_stands a at = cond_both (table_in at == 0x70) (text_of (blob_at a.first.user_strings (row_in at))) None (StandsWith a 0x72) (λ e. text_stands a (blob_at a.first.user_strings (row_in at))) (λ e. tt)

-- TYPES

-- what the token spells is what stands for the key
spelled : (a : Again) (key : Key) (place : Place) (at : ℕ) → is_numbered a.reads.keys key ≡ true → place ≡ place_in a.reads.keys key → Spells a.p a.v at place
    → spec_in a.v (some_row a.v type_specs (row_in at)) ≡ Some (key_for a key)
spelled a key place at numbered place_is spells =
    ap (spec_in a.v) (some_row_is a.v type_specs (row_in at) spells.row) ∙ ap (read_known a.v) spells.has_sig ∙ (type_reads a key place spells.type numbered place_is spells.is).known

element_is : (a : Again) (key : Key) (place : Place) (at : ℕ) → is_numbered a.reads.keys key ≡ true → place ≡ place_in a.reads.keys key → Spells a.p a.v at place → element_at a.v at ≡ Some (key_for a key)
element_is a key place at numbered place_is spells =
    cond-true (table_in at == type_specs) (spec_in a.v (some_row a.v type_specs (row_in at))) _ (eq-eqb (table_in at) type_specs spells.table) ∙ spelled a key place at numbered place_is spells

same_integer_leaf : (a : Again) (leaf : Leaf) → is_integer_leaf (leaf_for a leaf) ≡ is_integer_leaf leaf
same_integer_leaf a (Number integer) = refl
same_integer_leaf a (Library number) = refl
same_integer_leaf a (Defined row) = refl

same_integer : (a : Again) (key : Key) → is_integer (key_for a key) ≡ is_integer key
same_integer a key = ap (λ b. (key.depth == 0) && b) (same_integer_leaf a key.leaf)

only_type : (key : Key) (integer : Bool) → integer ≡ false → (if integer then None else Some key) ≡ Some key
only_type key true is = absurd (cc)
only_type key false is = refl

type_is : (a : Again) (key : Key) (place : Place) (at : ℕ) → is_integer key ≡ false → is_numbered a.reads.keys key ≡ true → place ≡ place_in a.reads.keys key → Spells a.p a.v at place → type_at a.v at ≡ Some (key_for a key)
type_is a key place at no_integer numbered place_is spells =
    cond-true (table_in at == type_specs) (type_only (spec_in a.v (some_row a.v type_specs (row_in at)))) _ (eq-eqb (table_in at) type_specs spells.table)
    ∙ ap type_only (spelled a key place at numbered place_is spells) ∙ only_type (key_for a key) (is_integer (key_for a key)) (same_integer a key ∙ no_integer)

-- what is no integer has its number as its place
numbered_place : (keys : List Key) (depth : ℕ) (leaf : Leaf) → is_integer (record { depth = depth; leaf = leaf }) ≡ false → places.Ref (number_of keys (record { depth = depth; leaf = leaf })) ≡ place_of_leaf keys depth leaf
numbered_place keys zero (Number integer) no_integer = absurd (cc)
numbered_place keys zero (Library number) no_integer = refl
numbered_place keys zero (Defined row) no_integer = refl
numbered_place keys (suc depth) leaf no_integer = refl

-- ELEMENTS

load_stands_as : (a : Again) (key : Key) → StandsWith a 0xA3 (Some (operand.Type key))
unfolding operand_of
load_stands_as a key met = record {
  opcode_is = refl;
  named = λ token names. record {
    other = operand.Type (key_for a key);
    at = ap type_operand (element_is a key (place_in a.reads.keys key) token met.keys.0 refl names);
    keys = refl;
    targets = refl;
    code = ap (λ place. code.Element false (form.Typed place)) (same_place a key met.keys.0);
  };
}

store_stands_as : (a : Again) (key : Key) → StandsWith a 0xA4 (Some (operand.Type key))
unfolding operand_of
store_stands_as a key met = record {
  opcode_is = refl;
  named = λ token names. record {
    other = operand.Type (key_for a key);
    at = ap type_operand (element_is a key (place_in a.reads.keys key) token met.keys.0 refl names);
    keys = refl;
    targets = refl;
    code = ap (λ place. code.Element true (form.Typed place)) (same_place a key met.keys.0);
  };
}

pub load_stands : (a : Again) (key : Option Key) → StandsWith a 0xA3 (type_operand key)
load_stands a None = tt
load_stands a (Some key) = load_stands_as a key

pub store_stands : (a : Again) (key : Option Key) → StandsWith a 0xA4 (type_operand key)
store_stands a None = tt
store_stands a (Some key) = store_stands_as a key

-- CASTS

cast_stands_as : (a : Again) (key : Key) → is_integer key ≡ false → StandsWith a 0x74 (Some (operand.Type key))
unfolding operand_of
cast_stands_as a key no_integer met = record {
  opcode_is = refl;
  named = λ token names. record {
    other = operand.Type (key_for a key);
    at = ap type_operand (type_is a key (places.Ref (number_of a.reads.keys key)) token no_integer met.keys.0 (numbered_place a.reads.keys key.depth key.leaf no_integer) names);
    keys = refl;
    targets = refl;
    code = ap (code.Cast true) (same_number a key (has_by a.reads.keys key no_integer met.keys.0));
  };
}

test_stands_as : (a : Again) (key : Key) → is_integer key ≡ false → StandsWith a 0x75 (Some (operand.Type key))
unfolding operand_of
test_stands_as a key no_integer met = record {
  opcode_is = refl;
  named = λ token names. record {
    other = operand.Type (key_for a key);
    at = ap type_operand (type_is a key (places.Ref (number_of a.reads.keys key)) token no_integer met.keys.0 (numbered_place a.reads.keys key.depth key.leaf no_integer) names);
    keys = refl;
    targets = refl;
    code = ap (code.Cast false) (same_number a key (has_by a.reads.keys key no_integer met.keys.0));
  };
}

pub cast_stands : (a : Again) (key : Option Key) → IsType key → StandsWith a 0x74 (type_operand key)
cast_stands a None is = tt
cast_stands a (Some key) is = cast_stands_as a key is

pub test_stands : (a : Again) (key : Option Key) → IsType key → StandsWith a 0x75 (type_operand key)
test_stands a None is = tt
test_stands a (Some key) is = test_stands_as a key is

-- NEW ARRAYS

deep : (depth : ℕ) (leaf : Leaf) → is_integer (record { depth = suc depth; leaf = leaf }) ≡ false
deep depth leaf = and_left (suc depth == 0) (is_integer_leaf leaf) (ne_eqb (suc depth) 0 (λ e. omega arith))

-- what an array's own type says of its elements
element_place : (a : Again) (depth : ℕ) (leaf : Leaf) (element : Place) → has_key a.reads.keys (record { depth = suc depth; leaf = leaf }) ≡ true
    → HasElement a.p (number_of a.reads.keys (record { depth = suc depth; leaf = leaf })) element → element ≡ place_of_leaf a.reads.keys depth leaf
element_place a depth leaf element has is =
    let array : Key = record { depth = suc depth; leaf = leaf } in
    let types = (has_numbered a.first a.from a.name a.p a.reads).types in
    let found = type_of a.first a.reads.keys a.p.types types array has in
    let stands : StandsFor a.first a.reads.keys array found.0 = found.1.1 in
    let same : is.info ≡ found.0 = same_Some is.info found.0 (sym is.at ∙ found.1.0) in
    same_Some element (place_of_leaf a.reads.keys depth leaf)
    (sym is.is ∙ ap (λ (t : TypeInfo). t.element) same ∙ stands.alike.element ∙ ap (λ (t : TypeInfo). t.element) stands.info)

array_is : (element : Option Key) (key : Key) → element ≡ Some key → key.depth + 1 < 2 ^ 32 → array_in element ≡ Some (record { depth = suc key.depth; leaf = key.leaf })
array_is None key e few = absurd (cc)
array_is (Some other) key e few =
    let same : other ≡ key = same_Some other key e in
    let one : key.depth + 1 ≡ suc key.depth = omega arith in
    ap (λ (k : Key). array_in (Some k)) same
    ∙ cond-true (nat_lt (key.depth + 1) (2 ^ 32)) (Some (record { depth = key.depth + 1; leaf = key.leaf })) None (search (rules, arith))
    ∙ ap (λ d. Some (record { depth = d; leaf = key.leaf })) one

array_stands_as : (a : Again) (depth : ℕ) (leaf : Leaf) → depth + 1 < 2 ^ 32 → StandsWith a 0x8D (Some (operand.Type (record { depth = suc depth; leaf = leaf })))
unfolding operand_of
array_stands_as a depth leaf few met =
    let array : Key = record { depth = suc depth; leaf = leaf } in
    let element : Key = record { depth = depth; leaf = leaf } in
    let has = has_by a.reads.keys array (deep depth leaf) met.keys.0 in
    let numbered : is_numbered a.reads.keys element ≡ true = (own_numbered a array has).0 in
    record {
      opcode_is = refl;
      named = λ token names. record {
        other = operand.Type (key_for a array);
        at = ap type_operand (array_is (element_at a.v token) (key_for a element) (element_is a element names.element token numbered (element_place a depth leaf names.element has names.has) names.spells) few);
        keys = refl;
        targets = refl;
        code = ap code.NewArray (same_number a array has);
      };
    }

pub array_stands : (a : Again) (element : Option Key) → StandsWith a 0x8D (type_operand (array_in element))
array_stands a None = tt
array_stands a (Some key) =
    let one : suc key.depth ≡ key.depth + 1 = omega arith in
    cond_both (nat_lt (key.depth + 1) (2 ^ 32)) (Some (record { depth = key.depth + 1; leaf = key.leaf })) None (λ o. StandsWith a 0x8D (type_operand o))
    (λ e. subst (λ d. StandsWith a 0x8D (Some (operand.Type (record { depth = d; leaf = key.leaf })))) one (array_stands_as a key.depth key.leaf (ltb-true (key.depth + 1) (2 ^ 32) e))) (λ e. tt)
