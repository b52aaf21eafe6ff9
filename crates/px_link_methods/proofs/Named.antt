-- What a token names fits its instruction.
use Rattle.std.proofs.Common.{◌≡◌, ◌≢◌, ℕ, ◌+◌, ◌<◌, ◌%◌, ◌^◌, Bool, true, false, List, [], ◌∷◌, Option, Some, None, length, refl, sym, ap, ◌∙◌, subst, arith, eq-eqb}
use Rattle.std.specs.Prelude.{Result, Ok, Err, IfOk, codes, ◌==◌, ◌&&◌, ◌||◌, not, nat_le, nat_lt, IfSome, if◌then◌else◌}
use Rattle.std.proofs.lemmas.Bool.{and_parts, cond_both, false≢true, leb-true, ne_eqb}
use Rattle.std.specs.Str.{bytes_eq}
use Rattle.px_blobs.specs.Items.{blob_at}
use Rattle.px_meta.specs.Members.{field_sig_at, method_sig_at, owner_of}
use Rattle.px_meta.specs.Rows.{cell, fields, member_refs, methods, some_row, type_defs, type_refs, type_specs}
use Rattle.px_meta.specs.Tokens.{row_in, table_in}
use Rattle.px_link_tokens.specs.Operands.{Called, CalledVirtually, Made, Way, ◌else◌, callee_at, check_in, check_of, check_operand, constructor_of, constructor_with, each_known, element_at, field_at, field_in, has_initialiser, is_bool, is_field, is_owned, is_run, is_void, key_alone, library_by, library_constructor, may_be_called, may_take, member_name, method_by, method_in, operand_of, parent_ref, read_form, reference_in, spec_in, text_at_token, text_of, type_at, type_only, type_operand, units_of, virtual_at}
use Rattle.px_link_tokens.specs.Operands.{library_in as number_in}
use Rattle.px_link_tokens.specs.Parts.{IsThere}
use Rattle.px_link_tokens.specs.declared.operand.Operand.{Operand}
use Rattle.px_link_tokens.specs.declared.operand.Operand.TheVariants as operand
use Rattle.px_program.specs.declared.instr.Check.{Check}
use Rattle.px_code.specs.declared.body.RawClause.{RawClause}
use Rattle.px_sig.specs.declared.sig.MethodSig.{MethodSig}
use Rattle.px_tables.specs.Metadata.{View}
use Rattle.px_link_types.specs.Keys.{alone, array_in, class_of, defined_in, is_class, library_in, library_leaf, library_ref}
use Rattle.px_link_types.specs.Numbers.{is_integer, is_integer_leaf, is_static_field}
use Rattle.px_link_types.specs.Parts.{is_kind}
use Rattle.px_link_types.specs.declared.key.Key.{Key}
use Rattle.px_link_types.specs.declared.key.Leaf.{Leaf}
use Rattle.px_link_types.specs.declared.key.Leaf.TheVariants.{Defined}
use Rattle.px_link_methods.specs.Methods.{caught}
use Rattle.px_link_methods.specs.Parts.{Fits, IsNamed, is_element}

-- CLASSES

abbrev IsClassLeaf : Leaf → Type 0
IsClassLeaf leaf = is_integer_leaf leaf ≡ false

defined_class : (v : View) (row : Option ℕ) → IfSome (defined_in v row) IsClassLeaf
defined_class v None = tt
defined_class v (Some row) = cond_both (is_class v row) (Some (Defined row)) None (λ o. IfSome o IsClassLeaf) (λ e. refl) (λ e. tt)

leaf_class : (number : Option ℕ) → IfSome (library_leaf number) IsClassLeaf
leaf_class None = tt
leaf_class (Some number) = refl

library_class : (v : View) (row : Option ℕ) → IfSome (library_in v row) IsClassLeaf
library_class v None = tt
library_class v (Some row) = leaf_class (library_ref v row)

class_leaf : (v : View) (at : ℕ) → IfSome (class_of v at) IsClassLeaf
class_leaf v at =
    cond_both (table_in at == type_defs) (defined_in v (some_row v type_defs (row_in at))) (if table_in at == type_refs then library_in v (some_row v type_refs (row_in at)) else None) (λ o. IfSome o IsClassLeaf)
    (λ e. defined_class v (some_row v type_defs (row_in at)))
    (λ e. cond_both (table_in at == type_refs) (library_in v (some_row v type_refs (row_in at))) None (λ o. IfSome o IsClassLeaf) (λ f. library_class v (some_row v type_refs (row_in at))) (λ f. tt))

caught_leaf : (v : View) (raw : RawClause) → IfSome (caught v raw) IsClassLeaf
caught_leaf v raw = cond_both (raw.flags == 0) (class_of v raw.class) None (λ o. IfSome o IsClassLeaf) (λ e. class_leaf v raw.class) (λ e. tt)

-- the class that is caught is no integer
pub caught_class : (v : View) (raw : RawClause) (leaf : Leaf) → Some leaf ≡ caught v raw → is_integer (alone leaf) ≡ false
caught_class v raw leaf e = subst (λ o. IfSome o IsClassLeaf) (sym e) (caught_leaf v raw)

-- TYPES

abbrev NamesNoInteger : Option Key → Type 0
NamesNoInteger o = IfSome o (λ key. is_integer key ≡ false)

of_array : (o : Option Key) → NamesNoInteger (array_in o)
of_array None = tt
of_array (Some key) =
    cond_both (nat_lt (key.depth + 1) (2 ^ 32)) (Some (record { depth = key.depth + 1; leaf = key.leaf })) None NamesNoInteger
    (λ fits. ap (λ b. b && is_integer_leaf key.leaf) (ne_eqb (key.depth + 1) 0 (λ e. omega arith))) (λ deep. tt)

of_type : (o : Option Key) → NamesNoInteger (type_only o)
of_type None = tt
of_type (Some key) = cond_both (is_integer key) None (Some key) NamesNoInteger (λ e. tt) (λ e. e)

of_class : (o : Option Leaf) → IfSome o IsClassLeaf → NamesNoInteger (key_alone o)
of_class None is = tt
of_class (Some leaf) is = is

named_type : (v : View) (at : ℕ) → NamesNoInteger (type_at v at)
named_type v at =
    cond_both (table_in at == type_specs) (type_only (spec_in v (some_row v type_specs (row_in at)))) (key_alone (class_of v at)) NamesNoInteger
    (λ e. of_type (spec_in v (some_row v type_specs (row_in at)))) (λ e. of_class (class_of v at) (class_leaf v at))

-- OPERANDS

abbrev AreFit : View → ℕ → Option Operand → Type 0
AreFit v opcode o = IfSome o (Fits v opcode)

type_fits : (v : View) (opcode : ℕ) (o : Option Key) → NamesNoInteger o → AreFit v opcode (type_operand o)
type_fits v opcode None is = tt
type_fits v opcode (Some key) is = λ e. is

element_fits : (v : View) (opcode : ℕ) (o : Option Key) → is_element opcode ≡ true → AreFit v opcode (type_operand o)
element_fits v opcode None is = tt
element_fits v opcode (Some key) is = λ e. absurd (cc)

text_fits : (v : View) (opcode : ℕ) (o : Option (List ℕ)) → AreFit v opcode (text_of o)
text_fits v opcode None = tt
text_fits v opcode (Some bytes) = cond_both (length bytes % 2 == 1) (Some (operand.Text (units_of bytes))) None (AreFit v opcode) (λ e. tt) (λ e. tt)

-- a field that can be run on is one of a type
has_owner : (v : View) (static : Bool) (field : ℕ) → is_field v static field ≡ true → owner_of v fields field ≢ 0
has_owner v static field e =
    let owner = owner_of v fields field in
    let owned = is_owned v (not static) owner in
    let kind = is_kind static (is_static_field v field) in
    let form = read_form v (field_sig_at v (cell v fields field 2)) in
    let runs = and_parts (owned && kind && form) (not static || not (has_initialiser v owner)) e in
    let kinds = and_parts (owned && kind) form runs.0 in
    let some = and_parts (not (owner == 0)) (not (not static) || is_class v owner) (and_parts owned kind kinds.0).0 in
    λ none. false≢true (sym (ap not (eq-eqb owner 0 none)) ∙ some.0)

field_in_fits : (v : View) (opcode : ℕ) (static : Bool) (row : Option ℕ) → AreFit v opcode (field_in v static row)
field_in_fits v opcode static None = tt
field_in_fits v opcode static (Some row) = cond_both (is_field v static row) (Some (operand.Field row)) None (AreFit v opcode) (λ e. has_owner v static row e) (λ e. tt)

field_fits : (v : View) (opcode : ℕ) (static : Bool) (at : ℕ) → AreFit v opcode (field_at v static at)
field_fits v opcode static at =
    cond_both (table_in at == fields) (field_in v static (some_row v fields (row_in at))) None (AreFit v opcode) (λ e. field_in_fits v opcode static (some_row v fields (row_in at))) (λ e. tt)

method_by_fits : (v : View) (opcode : ℕ) (way : Way) (row : ℕ) (sig : Option MethodSig) → AreFit v opcode (method_by v way row sig)
method_by_fits v opcode way row None = tt
method_by_fits v opcode way row (Some sig) = cond_both (is_run v sig && may_be_called v way row sig) (Some (operand.Method row)) None (AreFit v opcode) (λ e. tt) (λ e. tt)

method_in_fits : (v : View) (opcode : ℕ) (way : Way) (row : Option ℕ) → AreFit v opcode (method_in v way row)
method_in_fits v opcode way None = tt
method_in_fits v opcode way (Some row) = method_by_fits v opcode way row (method_sig_at v (cell v methods row 4))

few_taken : (class : ℕ) (keys : List Key) → may_take class keys ≡ true → class < 18
few_taken class [] e = let few = leb-true class 16 e in omega arith
few_taken class (key ∷ keys) e =
    let within = and_parts (nat_le 1 class && nat_le class 16) _ e in
    let few = leb-true class 16 (and_parts (nat_le 1 class) (nat_le class 16) within.0).1 in
    omega arith

constructor_with_fits : (v : View) (opcode class : ℕ) (keys : Option (List Key)) → AreFit v opcode (constructor_with class keys)
constructor_with_fits v opcode class None = tt
constructor_with_fits v opcode class (Some keys) = cond_both (may_take class keys) (Some (operand.Constructor class keys)) None (AreFit v opcode) (λ e. few_taken class keys e) (λ e. tt)

constructor_of_fits : (v : View) (opcode : ℕ) (sig : MethodSig) (class : Option ℕ) → AreFit v opcode (constructor_of v sig class)
constructor_of_fits v opcode sig None = tt
constructor_of_fits v opcode sig (Some class) =
    cond_both (sig.has_this && sig.plain && is_void sig.ret) (constructor_with class (each_known v sig.params)) None (AreFit v opcode) (λ e. constructor_with_fits v opcode class (each_known v sig.params)) (λ e. tt)

constructor_fits : (v : View) (opcode row : ℕ) (sig : MethodSig) → AreFit v opcode (library_constructor v row sig)
constructor_fits v opcode row sig =
    cond_both (bytes_eq (member_name v row) (codes ".ctor")) (constructor_of v sig (number_in v (parent_ref v row))) None (AreFit v opcode) (λ e. constructor_of_fits v opcode sig (number_in v (parent_ref v row))) (λ e. tt)

check_operand_fits : (v : View) (opcode : ℕ) (check : Option Check) → AreFit v opcode (check_operand check)
check_operand_fits v opcode None = tt
check_operand_fits v opcode (Some check) = tt

check_fits : (v : View) (opcode row : ℕ) (sig : MethodSig) → AreFit v opcode (check_of v row sig)
check_fits v opcode row sig =
    cond_both (bytes_eq (member_name v row) (codes "IsTrue") && not sig.has_this && sig.plain && is_void sig.ret && is_bool sig.params) (check_operand (check_in v (parent_ref v row))) None (AreFit v opcode)
    (λ e. check_operand_fits v opcode (check_in v (parent_ref v row))) (λ e. tt)

either_fits : (v : View) (opcode : ℕ) (first other : Option Operand) → AreFit v opcode first → AreFit v opcode other → AreFit v opcode (first else other)
either_fits v opcode None other a b = b
either_fits v opcode (Some x) other a b = a

library_fits : (v : View) (opcode : ℕ) (made : Bool) (row : ℕ) (sig : Option MethodSig) → AreFit v opcode (library_by v made row sig)
library_fits v opcode made row None = tt
library_fits v opcode true row (Some sig) = constructor_fits v opcode row sig
library_fits v opcode false row (Some sig) = either_fits v opcode (library_constructor v row sig) (check_of v row sig) (constructor_fits v opcode row sig) (check_fits v opcode row sig)

reference_fits : (v : View) (opcode : ℕ) (made : Bool) (row : Option ℕ) → AreFit v opcode (reference_in v made row)
reference_fits v opcode made None = tt
reference_fits v opcode made (Some row) = library_fits v opcode made row (method_sig_at v (cell v member_refs row 2))

callee_fits : (v : View) (opcode : ℕ) (made : Bool) (at : ℕ) → AreFit v opcode (callee_at v made at)
callee_fits v opcode made at =
    let method = method_in v (if made then Made else Called) (some_row v methods (row_in at)) in
    let reference = reference_in v made (some_row v member_refs (row_in at)) in
    cond_both (table_in at == methods) method (if table_in at == member_refs then reference else None) (AreFit v opcode)
    (λ e. method_in_fits v opcode (if made then Made else Called) (some_row v methods (row_in at)))
    (λ e. cond_both (table_in at == member_refs) reference None (AreFit v opcode) (λ f. reference_fits v opcode made (some_row v member_refs (row_in at))) (λ f. tt))

virtual_fits : (v : View) (opcode at : ℕ) → AreFit v opcode (virtual_at v at)
virtual_fits v opcode at =
    cond_both (table_in at == methods) (method_in v CalledVirtually (some_row v methods (row_in at))) None (AreFit v opcode) (λ e. method_in_fits v opcode CalledVirtually (some_row v methods (row_in at))) (λ e. tt)

text_token_fits : (v : View) (opcode at : ℕ) → AreFit v opcode (text_at_token v at)
text_token_fits v opcode at =
    cond_both (table_in at == 0x70) (text_of (blob_at v.user_strings (row_in at))) None (AreFit v opcode) (λ e. text_fits v opcode (blob_at v.user_strings (row_in at))) (λ e. tt)

call_fits : (v : View) (opcode at : ℕ)
    → AreFit v opcode (if opcode == 0x28 then callee_at v false at else if opcode == 0x6F then virtual_at v at else if opcode == 0x73 then callee_at v true at else None)
call_fits v opcode at =
    cond_both (opcode == 0x28) (callee_at v false at) _ (AreFit v opcode) (λ e. callee_fits v opcode false at)
    (λ e. cond_both (opcode == 0x6F) (virtual_at v at) _ (AreFit v opcode) (λ f. virtual_fits v opcode at)
    (λ f. cond_both (opcode == 0x73) (callee_at v true at) None (AreFit v opcode) (λ g. callee_fits v opcode true at) (λ g. tt)))

-- what a token names fits the opcode
pub operand_fits : (v : View) (opcode at : ℕ) → IfSome (operand_of v opcode at) (Fits v opcode)
unfolding operand_of
operand_fits v opcode at =
    cond_both (opcode == 0x72) (text_at_token v at) _ (AreFit v opcode) (λ e. text_token_fits v opcode at)
    (λ e. cond_both (opcode == 0x8D) (type_operand (array_in (element_at v at))) _ (AreFit v opcode) (λ f. type_fits v opcode (array_in (element_at v at)) (of_array (element_at v at)))
    (λ f. cond_both (is_element opcode) (type_operand (element_at v at)) _ (AreFit v opcode) (λ g. element_fits v opcode (element_at v at) g)
    (λ g. cond_both ((opcode == 0x74) || (opcode == 0x75)) (type_operand (type_at v at)) _ (AreFit v opcode) (λ h. type_fits v opcode (type_at v at) (named_type v at))
    (λ h. cond_both ((opcode == 0x7B) || (opcode == 0x7D)) (field_at v false at) _ (AreFit v opcode) (λ i. field_fits v opcode false at)
    (λ i. cond_both ((opcode == 0x7E) || (opcode == 0x80)) (field_at v true at) _ (AreFit v opcode) (λ j. field_fits v opcode true at)
    (λ j. call_fits v opcode at))))))

named_by : (v : View) (opcode : ℕ) (o : Option Operand) → IfSome o (IsThere v) → IfSome o (Fits v opcode) → IfSome o (IsNamed v opcode)
named_by v opcode None there fits = tt
named_by v opcode (Some x) there fits = record { there = there; fits = fits }

-- where it could be read
pub named_result : {E : Type 0} (v : View) (opcode at : ℕ) (r : Result (Option Operand) E) → IfOk r (λ o. o ≡ operand_of v opcode at) → IfOk r (λ o. IfSome o (IsThere v)) → IfOk r (λ o. IfSome o (IsNamed v opcode))
named_result v opcode at (Ok o) is there = named_by v opcode o there (subst (λ x. IfSome x (Fits v opcode)) (sym is) (operand_fits v opcode at))
named_result v opcode at (Err e) is there = tt
