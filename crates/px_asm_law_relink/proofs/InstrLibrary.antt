-- Constructors of the library and checks that tokens name, read again.
use Rattle.std.proofs.Common.{◌≡◌, ℕ, ◌≤◌, Bool, true, false, List, [], ◌∷◌, map, Option, Some, None, refl, ap, ◌∙◌, arith, eq-eqb}
use Rattle.std.specs.Prelude.{◌==◌, ◌&&◌, not, nat_le, if◌then◌else◌, codes}
use Rattle.std.specs.List.{AllZip, list_all}
use Rattle.std.specs.Str.{bytes_eq}
use Rattle.std.proofs.lemmas.Bool.{and_from, and_parts, cond-false, cond-true, cond_both, leb-true, ne_eqb}
use Rattle.px_meta.specs.Members.{method_sig_at}
use Rattle.px_meta.specs.Rows.{cell, member_refs, methods, some_row}
use Rattle.px_meta.specs.Tokens.{row_in, table_in}
use Rattle.px_link_tokens.specs.Operands.{Called, Made, ◌else◌, callee_at, check_in, check_of, check_operand, constructor_of, constructor_with, each_known, is_bool, is_exception_leaf, is_text_leaf, is_text_or_exception, is_void, library_by, library_constructor, library_in, may_take, member_name, method_in, operand_of, parent_ref, reference_in, virtual_at, with_key, CalledVirtually}
use Rattle.px_link_tokens.specs.declared.operand.Operand.{Operand}
use Rattle.px_link_tokens.specs.declared.operand.Operand.TheVariants as operand
use Rattle.px_program.specs.declared.instr.Callee.TheVariants as callees
use Rattle.px_program.specs.declared.instr.Check.{Check}
use Rattle.px_program.specs.declared.instr.Code.TheVariants as code
use Rattle.px_asm_law_relink.proofs.TypeReads.{some_row_is}
use Rattle.px_sig.specs.declared.sig.Integer.TheVariants as integers
use Rattle.px_sig.specs.declared.sig.MethodSig.{MethodSig}
use Rattle.px_sig.specs.Grammar.{plain_type}
use Rattle.px_sig.specs.declared.sig.SigLeaf.TheVariants.{Int}
use Rattle.px_sig.specs.declared.sig.SigType.{SigType}
use Rattle.px_tables.specs.Metadata.{View}
use Rattle.px_link_types.specs.declared.key.Key.{Key}
use Rattle.px_link_types.specs.declared.key.Leaf.{Leaf}
use Rattle.px_link_types.specs.declared.key.Leaf.TheVariants.{Number, Library, Defined}
use Rattle.px_link_types.specs.Making.{AreNumberedIn}
use Rattle.px_link_types.specs.Numbers.{place_in}
use Rattle.px_asm_law_relink.specs.Again.{Again, key_for, keys_for, leaf_for}
use Rattle.px_asm_described.specs.Describes.{IsTypeOf, NamesCheck, NamesConstructor, NamesReference}
use Rattle.px_asm_law_relink.proofs.InstrMethods.{call_stands, make_stands, virtual_stands, void_is_void}
use Rattle.px_asm_law_relink.proofs.InstrOperands.{StandsWith}
use Rattle.px_asm_law_relink.proofs.TypesAgain.{same_place, type_reads}

-- REFERENCES

-- a reference to a member, with its signature
referred : (v : View) (made : Bool) (at : ℕ) (name : List ℕ) (sig : MethodSig) → NamesReference v at name sig → callee_at v made at ≡ library_by v made (row_in at) (Some sig)
referred v made at name sig names =
    let row = row_in at in
    let other : table_in at ≡ methods → ⊥ = λ e. omega (arith, e, names.table) in
    let reference = reference_in v made (some_row v member_refs row) in
    cond-false (table_in at == methods) (method_in v (if made then Made else Called) (some_row v methods row)) (if table_in at == member_refs then reference else None) (ne_eqb (table_in at) methods other)
    ∙ cond-true (table_in at == member_refs) reference None (eq-eqb (table_in at) member_refs names.table)
    ∙ ap (reference_in v made) (some_row_is v member_refs row names.row)
    ∙ ap (library_by v made row) names.has_sig

void_by : (v : View) (at : ℕ) (name : List ℕ) (sig : MethodSig) → NamesReference v at name sig → is_void sig.ret ≡ true
void_by v at name sig names = ap is_void names.no_return ∙ void_is_void

-- CONSTRUCTORS

same_text_leaf : (a : Again) (leaf : Leaf) → is_text_leaf (leaf_for a leaf) ≡ is_text_leaf leaf
same_text_leaf a (Number integer) = refl
same_text_leaf a (Library number) = refl
same_text_leaf a (Defined row) = refl

same_exception_leaf : (a : Again) (leaf : Leaf) → is_exception_leaf (leaf_for a leaf) ≡ is_exception_leaf leaf
same_exception_leaf a (Number integer) = refl
same_exception_leaf a (Library number) = refl
same_exception_leaf a (Defined row) = refl

same_parameter : (a : Again) (key : Key) → is_text_or_exception (key_for a key) ≡ is_text_or_exception key
same_parameter a key = let text = same_text_leaf a key.leaf in let exception = same_exception_leaf a key.leaf in rw (text, exception) refl

same_parameters : (a : Again) (keys : List Key) → list_all is_text_or_exception (keys_for a keys) ≡ list_all is_text_or_exception keys
same_parameters a [] = refl
same_parameters a (key ∷ keys) = let first = same_parameter a key in let later = same_parameters a keys in rw (first, later) refl

same_taken : (a : Again) (class : ℕ) (keys : List Key) → may_take class (keys_for a keys) ≡ may_take class keys
same_taken a class [] = refl
same_taken a class (key ∷ keys) = ap (λ b. nat_le 1 class && nat_le class 16 && b) (same_parameters a (key ∷ keys))

same_places : (a : Again) (keys : List Key) → AreNumberedIn a.reads.keys keys → map (place_in (keys_for a a.reads.keys)) (keys_for a keys) ≡ map (place_in a.reads.keys) keys
same_places a [] numbered = refl
same_places a (key ∷ keys) numbered = let first = same_place a key numbered.0 in let later = same_places a keys numbered.1 in cc

known_again : (a : Again) (keys : List Key) (types : List SigType) → AreNumberedIn a.reads.keys keys → AllZip (IsTypeOf a.p) (map (place_in a.reads.keys) keys) types → each_known a.v types ≡ Some (keys_for a keys)
known_again a [] [] numbered zipped = refl
known_again a [] (type ∷ types) numbered zipped = absurd zipped
known_again a (key ∷ keys) [] numbered zipped = absurd zipped
known_again a (key ∷ keys) (type ∷ types) numbered zipped =
    ap (λ k. with_key k (each_known a.v types)) (type_reads a key (place_in a.reads.keys key) type numbered.0 refl zipped.0).known
    ∙ ap (with_key (Some (key_for a key))) (known_again a keys types numbered.1 zipped.1)

few_classes : (class : ℕ) (keys : List Key) → may_take class keys ≡ true → class ≤ 16
few_classes class [] may = leb-true class 16 may
few_classes class (key ∷ keys) may =
    let within = (and_parts (nat_le 1 class && nat_le class 16) (list_all is_text_or_exception (key ∷ keys)) may).0 in
    leb-true class 16 (and_parts (nat_le 1 class) (nat_le class 16) within).1

constructed : (a : Again) (class : ℕ) (keys : List Key) (at : ℕ) → may_take class keys ≡ true → AreNumberedIn a.reads.keys keys → (names : NamesConstructor a.p a.v class (map (place_in a.reads.keys) keys) at)
    → library_constructor a.v (row_in at) names.sig ≡ Some (operand.Constructor class (keys_for a keys))
constructed a class keys at may numbered names =
    let row = row_in at in
    let sig = names.sig in
    let library = a.describes.library class (omega (arith, few_classes class keys may)) in
    let instance = sig.has_this && sig.plain in
    let all : (instance && is_void sig.ret) ≡ true =
    and_from instance (is_void sig.ret) (and_from sig.has_this sig.plain names.instance names.reference.plain) (void_by a.v at (codes ".ctor") sig names.reference) in
    cond-true (bytes_eq (member_name a.v row) (codes ".ctor")) (constructor_of a.v sig (library_in a.v (parent_ref a.v row))) None (ap (λ name. bytes_eq name (codes ".ctor")) names.reference.name_is)
    ∙ ap (λ parent. constructor_of a.v sig (library_in a.v parent)) names.parent
    ∙ ap (constructor_of a.v sig) library.names
    ∙ cond-true (instance && is_void sig.ret) (constructor_with class (each_known a.v sig.params)) None all
    ∙ ap (constructor_with class) (known_again a keys sig.params numbered names.takes)
    ∙ cond-true (may_take class (keys_for a keys)) (Some (operand.Constructor class (keys_for a keys))) None (same_taken a class keys ∙ may)

or_else : (one other : Option Operand) (x : Operand) → one ≡ Some x → (one else other) ≡ Some x
or_else None other x is = absurd (cc)
or_else (Some y) other x is = is

call_constructor : (a : Again) (class : ℕ) (keys : List Key) → may_take class keys ≡ true → StandsWith a 0x28 (Some (operand.Constructor class keys))
unfolding operand_of
call_constructor a class keys may met = record {
  opcode_is = refl;
  named = λ token names. record {
    other = operand.Constructor class (keys_for a keys);
    at = referred a.v false token (codes ".ctor") names.sig names.reference
        ∙ or_else (library_constructor a.v (row_in token) names.sig) (check_of a.v (row_in token) names.sig) (operand.Constructor class (keys_for a keys)) (constructed a class keys token may met.keys.1 names);
    keys = refl;
    targets = refl;
    code = ap (λ places. code.Call (callees.Constructor class places)) (same_places a keys met.keys.1);
  };
}

make_constructor : (a : Again) (class : ℕ) (keys : List Key) → may_take class keys ≡ true → StandsWith a 0x73 (Some (operand.Constructor class keys))
unfolding operand_of
make_constructor a class keys may met = record {
  opcode_is = refl;
  named = λ token names. record {
    other = operand.Constructor class (keys_for a keys);
    at = referred a.v true token (codes ".ctor") names.sig names.reference ∙ constructed a class keys token may met.keys.1 names;
    keys = refl;
    targets = refl;
    code = ap (λ places. code.NewObject (callees.Constructor class places)) (same_places a keys met.keys.1);
  };
}

-- CHECKS

bool_is_bool : is_bool (plain_type (Int integers.Bool) ∷ []) ≡ true
bool_is_bool = refl

checked : (a : Again) (check : Check) (at : ℕ) → (names : NamesCheck a.v check at) → check_of a.v (row_in at) names.sig ≡ Some (operand.Check check)
checked a check at names =
    let row = row_in at in
    let sig = names.sig in
    let named = bytes_eq (member_name a.v row) (codes "IsTrue") in
    let static = not sig.has_this in
    let name : named ≡ true = ap (λ n. bytes_eq n (codes "IsTrue")) names.reference.name_is in
    let one = and_from named static name (ap not names.static) in
    let two = and_from (named && static) sig.plain one names.reference.plain in
    let three = and_from (named && static && sig.plain) (is_void sig.ret) two (void_by a.v at (codes "IsTrue") sig names.reference) in
    let four = and_from (named && static && sig.plain && is_void sig.ret) (is_bool sig.params) three (ap is_bool names.takes ∙ bool_is_bool) in
    cond-true (named && static && sig.plain && is_void sig.ret && is_bool sig.params) (check_operand (check_in a.v (parent_ref a.v row))) None four ∙ ap check_operand names.parent

no_constructor : (v : View) (row : ℕ) (sig : MethodSig) → member_name v row ≡ codes "IsTrue" → library_constructor v row sig ≡ None
no_constructor v row sig named = cond-false (bytes_eq (member_name v row) (codes ".ctor")) (constructor_of v sig (library_in v (parent_ref v row))) None (ap (λ n. bytes_eq n (codes ".ctor")) named)

call_check : (a : Again) (check : Check) → StandsWith a 0x28 (Some (operand.Check check))
unfolding operand_of
call_check a check met = record {
  opcode_is = refl;
  named = λ token names. record {
    other = operand.Check check;
    at = referred a.v false token (codes "IsTrue") names.sig names.reference
        ∙ ap (λ o. o else check_of a.v (row_in token) names.sig) (no_constructor a.v (row_in token) names.sig names.reference.name_is) ∙ checked a check token names;
    keys = refl;
    targets = refl;
    code = refl;
  };
}

-- OPCODES

with_keys : (a : Again) (opcode class : ℕ) (keys : Option (List Key)) → ((class : ℕ) (keys : List Key) → may_take class keys ≡ true → StandsWith a opcode (Some (operand.Constructor class keys)))
    → StandsWith a opcode (constructor_with class keys)
with_keys a opcode class None stands = tt
with_keys a opcode class (Some keys) stands = cond_both (may_take class keys) (Some (operand.Constructor class keys)) None (StandsWith a opcode) (λ may. stands class keys may) (λ e. tt)

of_class : (a : Again) (opcode : ℕ) (sig : MethodSig) (class : Option ℕ) → ((class : ℕ) (keys : List Key) → may_take class keys ≡ true → StandsWith a opcode (Some (operand.Constructor class keys)))
    → StandsWith a opcode (constructor_of a.first sig class)
of_class a opcode sig None stands = tt
of_class a opcode sig (Some class) stands =
    cond_both (sig.has_this && sig.plain && is_void sig.ret) (constructor_with class (each_known a.first sig.params)) None (StandsWith a opcode) (λ e. with_keys a opcode class (each_known a.first sig.params) stands) (λ e. tt)

constructor_stands : (a : Again) (opcode row : ℕ) (sig : MethodSig) → ((class : ℕ) (keys : List Key) → may_take class keys ≡ true → StandsWith a opcode (Some (operand.Constructor class keys)))
    → StandsWith a opcode (library_constructor a.first row sig)
constructor_stands a opcode row sig stands =
    cond_both (bytes_eq (member_name a.first row) (codes ".ctor")) (constructor_of a.first sig (library_in a.first (parent_ref a.first row))) None (StandsWith a opcode)
    (λ e. of_class a opcode sig (library_in a.first (parent_ref a.first row)) stands) (λ e. tt)

a_check : (a : Again) (check : Option Check) → StandsWith a 0x28 (check_operand check)
a_check a None = tt
a_check a (Some check) = call_check a check

check_stands : (a : Again) (row : ℕ) (sig : MethodSig) → StandsWith a 0x28 (check_of a.first row sig)
check_stands a row sig =
    cond_both (bytes_eq (member_name a.first row) (codes "IsTrue") && not sig.has_this && sig.plain && is_void sig.ret && is_bool sig.params) (check_operand (check_in a.first (parent_ref a.first row))) None (StandsWith a 0x28)
    (λ e. a_check a (check_in a.first (parent_ref a.first row))) (λ e. tt)

first_stands : (a : Again) (opcode : ℕ) (one other : Option Operand) → StandsWith a opcode one → StandsWith a opcode other → StandsWith a opcode (one else other)
first_stands a opcode None other h k = k
first_stands a opcode (Some one) other h k = h

call_library : (a : Again) (row : ℕ) (sig : Option MethodSig) → StandsWith a 0x28 (library_by a.first false row sig)
call_library a row None = tt
call_library a row (Some sig) =
    first_stands a 0x28 (library_constructor a.first row sig) (check_of a.first row sig) (constructor_stands a 0x28 row sig (call_constructor a)) (check_stands a row sig)

make_library : (a : Again) (row : ℕ) (sig : Option MethodSig) → StandsWith a 0x73 (library_by a.first true row sig)
make_library a row None = tt
make_library a row (Some sig) = constructor_stands a 0x73 row sig (make_constructor a)

reference_stands : (a : Again) (opcode : ℕ) (made : Bool) → ((row : ℕ) (sig : Option MethodSig) → StandsWith a opcode (library_by a.first made row sig)) → (row : Option ℕ) → StandsWith a opcode (reference_in a.first made row)
reference_stands a opcode made stands None = tt
reference_stands a opcode made stands (Some row) = stands row (method_sig_at a.first (cell a.first member_refs row 2))

-- a method of the assembly, or a reference
callee_stands : (a : Again) (opcode : ℕ) (made : Bool) (at : ℕ) → StandsWith a opcode (method_in a.first (if made then Made else Called) (some_row a.first methods (row_in at)))
    → StandsWith a opcode (reference_in a.first made (some_row a.first member_refs (row_in at))) → StandsWith a opcode (callee_at a.first made at)
callee_stands a opcode made at method reference =
    let named = reference_in a.first made (some_row a.first member_refs (row_in at)) in
    cond_both (table_in at == methods) (method_in a.first (if made then Made else Called) (some_row a.first methods (row_in at))) (if table_in at == member_refs then named else None) (StandsWith a opcode)
    (λ e. method) (λ e. cond_both (table_in at == member_refs) named None (StandsWith a opcode) (λ f. reference) (λ f. tt))

pub callee_called : (a : Again) (at : ℕ) → StandsWith a 0x28 (callee_at a.first false at)
callee_called a at = callee_stands a 0x28 false at (call_stands a (some_row a.first methods (row_in at))) (reference_stands a 0x28 false (call_library a) (some_row a.first member_refs (row_in at)))

pub callee_made : (a : Again) (at : ℕ) → StandsWith a 0x73 (callee_at a.first true at)
callee_made a at = callee_stands a 0x73 true at (make_stands a (some_row a.first methods (row_in at))) (reference_stands a 0x73 true (make_library a) (some_row a.first member_refs (row_in at)))

pub callee_virtual : (a : Again) (at : ℕ) → StandsWith a 0x6F (virtual_at a.first at)
callee_virtual a at =
    cond_both (table_in at == methods) (method_in a.first CalledVirtually (some_row a.first methods (row_in at))) None (StandsWith a 0x6F) (λ e. virtual_stands a (some_row a.first methods (row_in at))) (λ e. tt)
