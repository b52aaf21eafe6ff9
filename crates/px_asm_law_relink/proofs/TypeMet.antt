-- The types that a program meets are there.
use Rattle.std.proofs.Common.{◌≡◌, ◌≢◌, ℕ, suc, ◌+◌, ◌%◌, ◌^◌, ◌<◌, Bool, true, false, List, [], ◌∷◌, ◌++◌, length, map, Option, Some, None, refl, subst, arith, rules}
use Rattle.std.specs.Prelude.{◌==◌, ◌&&◌, ◌||◌, IfSome, codes, if◌then◌else◌, nat_lt, not}
use Rattle.std.specs.List.{AllByRecursion, flat_map, zip}
use Rattle.std.specs.Str.{bytes_eq}
use Rattle.std.proofs.lemmas.Bool.{cond_both}
use Rattle.px_blobs.specs.Items.{blob_at}
use Rattle.px_code.specs.declared.body.RawClause.{RawClause}
use Rattle.px_code.specs.declared.body.RawInstr.{RawInstr}
use Rattle.px_meta.specs.Members.{method_sig_at, owner_of, type_sig_at}
use Rattle.px_meta.specs.Rows.{IsRow, cell, fields, member_refs, methods, some_row, type_defs, type_refs, type_specs}
use Rattle.px_meta.specs.Tokens.{row_in, table_in}
use Rattle.px_meta.proofs.Alike.{owner_row}
use Rattle.px_link_methods.proofs.Named.{operand_fits}
use Rattle.px_link_methods.specs.Methods.{caught, keys_of_body, keys_of_clause, keys_of_instr, keys_of_operand, keys_of_sig, met_by, sig_at}
use Rattle.px_link_methods.specs.Parts.{Fits}
use Rattle.px_link_tokens.specs.Operands.{Called, CalledVirtually, Made, Way, ◌else◌, callee_at, check_in, check_of, check_operand, constructor_of, constructor_with, each_known, element_at, field_at, field_in, integer_at, integer_in, integer_named, is_bool, is_field, is_run, is_void, key_alone, class_or, known_key, known_leaf, library_by, library_constructor, may_be_called, may_take, member_name, method_by, method_in, number_leaf, operand_of, parent_ref, read_known, reference_in, spec_in, text_at_token, text_of, type_at, type_only, type_operand, units_of, virtual_at, with_key}
use Rattle.px_link_tokens.specs.Operands.{library_in as number_in}
use Rattle.px_link_tokens.specs.declared.operand.Operand.{Operand}
use Rattle.px_link_tokens.specs.declared.operand.Operand.TheVariants as operand
use Rattle.px_program.specs.Library.{library_types}
use Rattle.px_program.specs.declared.instr.Check.{Check}
use Rattle.px_program.specs.declared.program.TypeInfo.{TypeInfo}
use Rattle.px_program.proofs.Types.{each-append}
use Rattle.px_link_reach.specs.Met.{IsOwned, operand_at}
use Rattle.px_link_reach.specs.declared.body.Whole.{Whole}
use Rattle.px_sig.specs.declared.sig.Integer.{Integer}
use Rattle.px_sig.specs.declared.sig.MethodSig.{MethodSig}
use Rattle.px_sig.specs.declared.sig.SigLeaf.{SigLeaf}
use Rattle.px_sig.specs.declared.sig.SigLeaf.TheVariants.{Void, Int, Str, Object, Class, Other}
use Rattle.px_sig.specs.declared.sig.SigType.{SigType}
use Rattle.px_tables.specs.Metadata.{View}
use Rattle.px_link_types.specs.declared.key.Key.{Key}
use Rattle.px_link_types.specs.declared.key.Leaf.{Leaf}
use Rattle.px_link_types.specs.declared.key.Leaf.TheVariants.{Defined}
use Rattle.px_link_types.specs.Keys.{IsKey, IsLeaf, alone, array_in, class_of, class_or_object, defined_in, in_arrays, is_class, is_system, key_of, key_or_object, leaf_of, library_in, library_leaf, library_number, library_ref, number_from, place_key, ref_name}
use Rattle.px_link_types.specs.Numbers.{is_integer, leaf_keys, library_keys}
use Rattle.px_link_types.proofs.There.{row_there}

-- CLASSES

number_within : (number : ℕ) (types : List TypeInfo) (name : List ℕ) → IfSome (number_from number types name) (λ n. n < number + length types)
number_within number [] name = tt
number_within number (type ∷ types) name =
    cond_both (bytes_eq type.name name) (Some number) (number_from (number + 1) types name) (λ o. IfSome o (λ n. n < number + suc (length types)))
    (λ same. omega arith)
    (λ other. let more : (number + 1) + length types ≡ number + suc (length types) = omega arith in subst (λ k. IfSome (number_from (number + 1) types name) (λ n. n < k)) more (number_within (number + 1) types name))

pub library_within : (v : View) (row : ℕ) → IfSome (library_ref v row) (λ n. n < 18)
library_within v row =
    cond_both (is_system v row) (library_number (ref_name v row)) None (λ o. IfSome o (λ n. n < 18)) (λ is. number_within 0 library_types (codes "System." ++ ref_name v row)) (λ other. tt)

library_leaf_there : (v : View) (number : Option ℕ) → IfSome number (λ n. n < 18) → IfSome (library_leaf number) (IsLeaf v)
library_leaf_there v None below = tt
library_leaf_there v (Some number) below = below

library_in_there : (v : View) (row : Option ℕ) → IfSome (library_in v row) (IsLeaf v)
library_in_there v None = tt
library_in_there v (Some row) = library_leaf_there v (library_ref v row) (library_within v row)

defined_there : (v : View) (row : Option ℕ) → IfSome row (IsRow v type_defs) → IfSome (defined_in v row) (IsLeaf v)
defined_there v None is = tt
defined_there v (Some row) is = cond_both (is_class v row) (Some (Defined row)) None (λ o. IfSome o (IsLeaf v)) (λ e. is) (λ e. tt)

class_there : (v : View) (at : ℕ) → IfSome (class_of v at) (IsLeaf v)
class_there v at =
    cond_both (table_in at == type_defs) (defined_in v (some_row v type_defs (row_in at))) (if table_in at == type_refs then library_in v (some_row v type_refs (row_in at)) else None) (λ o. IfSome o (IsLeaf v))
    (λ e. defined_there v (some_row v type_defs (row_in at)) (row_there v type_defs (row_in at)))
    (λ e. cond_both (table_in at == type_refs) (library_in v (some_row v type_refs (row_in at))) None (λ o. IfSome o (IsLeaf v)) (λ f. library_in_there v (some_row v type_refs (row_in at))) (λ f. tt))

object_there : (v : View) (leaf : Option Leaf) → IfSome leaf (IsLeaf v) → IsLeaf v (class_or_object leaf)
object_there v None is = omega arith
object_there v (Some leaf) is = is

key_alone_there : (v : View) (leaf : Option Leaf) → IfSome leaf (IsLeaf v) → IfSome (key_alone leaf) (IsKey v)
key_alone_there v None is = tt
key_alone_there v (Some leaf) is = is

-- SIGNATURES

array_there : (v : View) (element : Option Key) → IfSome element (IsKey v) → IfSome (array_in element) (IsKey v)
array_there v None is = tt
array_there v (Some key) is = cond_both (nat_lt (key.depth + 1) (2 ^ 32)) (Some (record { depth = key.depth + 1; leaf = key.leaf })) None (λ o. IfSome o (IsKey v)) (λ fits. is) (λ deep. tt)

arrays_there : (v : View) (depth : ℕ) (leaf : Option Leaf) → IfSome leaf (IsLeaf v) → IfSome (in_arrays depth leaf) (IsKey v)
arrays_there v depth None is = tt
arrays_there v depth (Some leaf) is = is

leaf_there : (v : View) (leaf : SigLeaf) → IfSome (leaf_of v leaf) (IsLeaf v)
leaf_there v Void = tt
leaf_there v (Int integer) = tt
leaf_there v Str = omega arith
leaf_there v Object = omega arith
leaf_there v (Class at) = object_there v (class_of v at) (class_there v at)
leaf_there v Other = tt

known_leaf_there : (v : View) (leaf : SigLeaf) → IfSome (known_leaf v leaf) (IsLeaf v)
known_leaf_there v (Class at) = class_there v at
known_leaf_there v Void = tt
known_leaf_there v (Int integer) = tt
known_leaf_there v Str = omega arith
known_leaf_there v Object = omega arith
known_leaf_there v Other = tt

key_there : (v : View) (type : SigType) → IfSome (key_of v type) (IsKey v)
key_there v type = arrays_there v type.depth (leaf_of v type.leaf) (leaf_there v type.leaf)

known_there : (v : View) (type : SigType) → IfSome (known_key v type) (IsKey v)
known_there v type = arrays_there v type.depth (known_leaf v type.leaf) (known_leaf_there v type.leaf)

or_object_there : (v : View) (key : Option Key) → IfSome key (IsKey v) → IsKey v (key_or_object key)
or_object_there v None is = omega arith
or_object_there v (Some key) is = is

pub place_there : (v : View) (type : SigType) → IsKey v (place_key v type)
place_there v type = or_object_there v (key_of v type) (key_there v type)

places_there : (v : View) (types : List SigType) → AllByRecursion (IsKey v) (map (place_key v) types)
places_there v [] = tt
places_there v (type ∷ types) = (place_there v type, places_there v types)

sig_there : (v : View) (sig : Option MethodSig) → AllByRecursion (IsKey v) (keys_of_sig v sig)
sig_there v None = tt
sig_there v (Some sig) = each-append (IsKey v) (map (place_key v) sig.params) (place_key v sig.ret ∷ []) (places_there v sig.params) (place_there v sig.ret, tt)

-- OPERANDS

spec_there : (v : View) (row : Option ℕ) → IfSome (spec_in v row) (IsKey v)
spec_there v None = tt
spec_there v (Some row) = read_there (type_sig_at v (cell v type_specs row 0))
  where
    read_there : (type : Option SigType) → IfSome (read_known v type) (IsKey v)
    read_there None = tt
    read_there (Some type) = known_there v type

only_there : (v : View) (key : Option Key) → IfSome key (IsKey v) → IfSome (type_only key) (IsKey v)
only_there v None is = tt
only_there v (Some key) is = cond_both (is_integer key) None (Some key) (λ o. IfSome o (IsKey v)) (λ e. tt) (λ e. is)

class_or_there : (v : View) (first other : Option Leaf) → IfSome first (IsLeaf v) → IfSome other (IsLeaf v) → IfSome (class_or first other) (IsLeaf v)
class_or_there v None other is other_is = other_is
class_or_there v (Some leaf) other is other_is = is

integer_leaf_there : (v : View) (integer : Option Integer) → IfSome (number_leaf integer) (IsLeaf v)
integer_leaf_there v None = tt
integer_leaf_there v (Some integer) = tt

integer_in_there : (v : View) (row : Option ℕ) → IfSome (integer_in v row) (IsLeaf v)
integer_in_there v None = tt
integer_in_there v (Some row) = cond_both (is_system v row) (number_leaf (integer_named (ref_name v row))) None (λ o. IfSome o (IsLeaf v)) (λ e. integer_leaf_there v (integer_named (ref_name v row))) (λ e. tt)

integer_there : (v : View) (at : ℕ) → IfSome (integer_at v at) (IsLeaf v)
integer_there v at =
    cond_both (table_in at == type_refs) (integer_in v (some_row v type_refs (row_in at))) None (λ o. IfSome o (IsLeaf v)) (λ e. integer_in_there v (some_row v type_refs (row_in at))) (λ e. tt)

pub element_there : (v : View) (at : ℕ) → IfSome (element_at v at) (IsKey v)
element_there v at =
    cond_both (table_in at == type_specs) (spec_in v (some_row v type_specs (row_in at))) (key_alone (class_or (class_of v at) (integer_at v at))) (λ o. IfSome o (IsKey v))
    (λ e. spec_there v (some_row v type_specs (row_in at)))
    (λ e. key_alone_there v (class_or (class_of v at) (integer_at v at)) (class_or_there v (class_of v at) (integer_at v at) (class_there v at) (integer_there v at)))

type_there : (v : View) (at : ℕ) → IfSome (type_at v at) (IsKey v)
type_there v at =
    cond_both (table_in at == type_specs) (type_only (spec_in v (some_row v type_specs (row_in at)))) (key_alone (class_of v at)) (λ o. IfSome o (IsKey v))
    (λ e. only_there v (spec_in v (some_row v type_specs (row_in at))) (spec_there v (some_row v type_specs (row_in at))))
    (λ e. key_alone_there v (class_of v at) (class_there v at))

-- the types that an operand names
abbrev AreFit : View → Operand → Type 0
AreFit v (operand.Type key) = IsKey v key
AreFit v (operand.Constructor class params) = AllByRecursion (IsKey v) params
AreFit v _ = Unit {0}

abbrev FitIn : View → Option Operand → Type 0
FitIn v o = IfSome o (AreFit v)

type_operand_there : (v : View) (o : Option Key) → IfSome o (IsKey v) → FitIn v (type_operand o)
type_operand_there v None is = tt
type_operand_there v (Some key) is = is

text_there : (v : View) (o : Option (List ℕ)) → FitIn v (text_of o)
text_there v None = tt
text_there v (Some bytes) = cond_both (length bytes % 2 == 1) (Some (operand.Text (units_of bytes))) None (FitIn v) (λ e. tt) (λ e. tt)

field_there : (v : View) (static : Bool) (row : Option ℕ) → FitIn v (field_in v static row)
field_there v static None = tt
field_there v static (Some row) = cond_both (is_field v static row) (Some (operand.Field row)) None (FitIn v) (λ e. tt) (λ e. tt)

field_at_there : (v : View) (static : Bool) (at : ℕ) → FitIn v (field_at v static at)
field_at_there v static at = cond_both (table_in at == fields) (field_in v static (some_row v fields (row_in at))) None (FitIn v) (λ e. field_there v static (some_row v fields (row_in at))) (λ e. tt)

method_by_there : (v : View) (way : Way) (row : ℕ) (sig : Option MethodSig) → FitIn v (method_by v way row sig)
method_by_there v way row None = tt
method_by_there v way row (Some sig) = cond_both (is_run v sig && may_be_called v way row sig) (Some (operand.Method row)) None (FitIn v) (λ e. tt) (λ e. tt)

method_there : (v : View) (way : Way) (row : Option ℕ) → FitIn v (method_in v way row)
method_there v way None = tt
method_there v way (Some row) = method_by_there v way row (method_sig_at v (cell v methods row 4))

with_there : (v : View) (key : Option Key) (keys : Option (List Key)) → IfSome key (IsKey v) → IfSome keys (AllByRecursion (IsKey v)) → IfSome (with_key key keys) (AllByRecursion (IsKey v))
with_there v None keys is are = tt
with_there v (Some key) None is are = tt
with_there v (Some key) (Some keys) is are = (is, are)

each_known_there : (v : View) (types : List SigType) → IfSome (each_known v types) (AllByRecursion (IsKey v))
each_known_there v [] = tt
each_known_there v (type ∷ types) = with_there v (known_key v type) (each_known v types) (known_there v type) (each_known_there v types)

constructor_with_there : (v : View) (class : ℕ) (keys : Option (List Key)) → IfSome keys (AllByRecursion (IsKey v)) → FitIn v (constructor_with class keys)
constructor_with_there v class None are = tt
constructor_with_there v class (Some keys) are = cond_both (may_take class keys) (Some (operand.Constructor class keys)) None (FitIn v) (λ e. are) (λ e. tt)

constructor_of_there : (v : View) (sig : MethodSig) (class : Option ℕ) → FitIn v (constructor_of v sig class)
constructor_of_there v sig None = tt
constructor_of_there v sig (Some class) =
    cond_both (sig.has_this && sig.plain && is_void sig.ret) (constructor_with class (each_known v sig.params)) None (FitIn v) (λ e. constructor_with_there v class (each_known v sig.params) (each_known_there v sig.params)) (λ e. tt)

constructor_there : (v : View) (row : ℕ) (sig : MethodSig) → FitIn v (library_constructor v row sig)
constructor_there v row sig =
    cond_both (bytes_eq (member_name v row) (codes ".ctor")) (constructor_of v sig (number_in v (parent_ref v row))) None (FitIn v) (λ e. constructor_of_there v sig (number_in v (parent_ref v row))) (λ e. tt)

check_operand_there : (v : View) (check : Option Check) → FitIn v (check_operand check)
check_operand_there v None = tt
check_operand_there v (Some check) = tt

check_there : (v : View) (row : ℕ) (sig : MethodSig) → FitIn v (check_of v row sig)
check_there v row sig =
    cond_both (bytes_eq (member_name v row) (codes "IsTrue") && not sig.has_this && sig.plain && is_void sig.ret && is_bool sig.params) (check_operand (check_in v (parent_ref v row))) None (FitIn v)
    (λ e. check_operand_there v (check_in v (parent_ref v row))) (λ e. tt)

either_there : (v : View) (first other : Option Operand) → FitIn v first → FitIn v other → FitIn v (first else other)
either_there v None other a b = b
either_there v (Some x) other a b = a

library_there : (v : View) (made : Bool) (row : ℕ) (sig : Option MethodSig) → FitIn v (library_by v made row sig)
library_there v made row None = tt
library_there v true row (Some sig) = constructor_there v row sig
library_there v false row (Some sig) = either_there v (library_constructor v row sig) (check_of v row sig) (constructor_there v row sig) (check_there v row sig)

reference_there : (v : View) (made : Bool) (row : Option ℕ) → FitIn v (reference_in v made row)
reference_there v made None = tt
reference_there v made (Some row) = library_there v made row (method_sig_at v (cell v member_refs row 2))

callee_there : (v : View) (made : Bool) (at : ℕ) → FitIn v (callee_at v made at)
callee_there v made at =
    let method = method_in v (if made then Made else Called) (some_row v methods (row_in at)) in
    let reference = reference_in v made (some_row v member_refs (row_in at)) in
    cond_both (table_in at == methods) method (if table_in at == member_refs then reference else None) (FitIn v)
    (λ e. method_there v (if made then Made else Called) (some_row v methods (row_in at)))
    (λ e. cond_both (table_in at == member_refs) reference None (FitIn v) (λ f. reference_there v made (some_row v member_refs (row_in at))) (λ f. tt))

virtual_there : (v : View) (at : ℕ) → FitIn v (virtual_at v at)
virtual_there v at = cond_both (table_in at == methods) (method_in v CalledVirtually (some_row v methods (row_in at))) None (FitIn v) (λ e. method_there v CalledVirtually (some_row v methods (row_in at))) (λ e. tt)

text_token_there : (v : View) (at : ℕ) → FitIn v (text_at_token v at)
text_token_there v at = cond_both (table_in at == 0x70) (text_of (blob_at v.user_strings (row_in at))) None (FitIn v) (λ e. text_there v (blob_at v.user_strings (row_in at))) (λ e. tt)

call_there : (v : View) (opcode at : ℕ) → FitIn v (if opcode == 0x28 then callee_at v false at else if opcode == 0x6F then virtual_at v at else if opcode == 0x73 then callee_at v true at else None)
call_there v opcode at =
    cond_both (opcode == 0x28) (callee_at v false at) _ (FitIn v) (λ e. callee_there v false at)
    (λ e. cond_both (opcode == 0x6F) (virtual_at v at) _ (FitIn v) (λ f. virtual_there v at)
    (λ f. cond_both (opcode == 0x73) (callee_at v true at) None (FitIn v) (λ g. callee_there v true at) (λ g. tt)))

operand_there : (v : View) (opcode at : ℕ) → FitIn v (operand_of v opcode at)
unfolding operand_of
operand_there v opcode at =
    cond_both (opcode == 0x72) (text_at_token v at) _ (FitIn v) (λ e. text_token_there v at)
    (λ e. cond_both (opcode == 0x8D) (type_operand (array_in (element_at v at))) _ (FitIn v) (λ f. type_operand_there v (array_in (element_at v at)) (array_there v (element_at v at) (element_there v at)))
    (λ f. cond_both ((opcode == 0xA3) || (opcode == 0xA4)) (type_operand (element_at v at)) _ (FitIn v) (λ g. type_operand_there v (element_at v at) (element_there v at))
    (λ g. cond_both ((opcode == 0x74) || (opcode == 0x75)) (type_operand (type_at v at)) _ (FitIn v) (λ h. type_operand_there v (type_at v at) (type_there v at))
    (λ h. cond_both ((opcode == 0x7B) || (opcode == 0x7D)) (field_at v false at) _ (FitIn v) (λ i. field_at_there v false at)
    (λ i. cond_both ((opcode == 0x7E) || (opcode == 0x80)) (field_at v true at) _ (FitIn v) (λ j. field_at_there v true at)
    (λ j. call_there v opcode at))))))

-- METHODS

owner_there : (v : View) (table member : ℕ) → owner_of v table member ≢ 0 → IsKey v (alone (Defined (owner_of v table member)))
owner_there v table member owned = owner_row v table member (owner_of v table member) refl owned

operand_keys_there : (v : View) (opcode : ℕ) (o : Option Operand) → IfSome o (Fits v opcode) → FitIn v o → AllByRecursion (IsKey v) (keys_of_operand v o)
operand_keys_there v opcode None fits are = tt
operand_keys_there v opcode (Some (operand.Text units)) fits are = tt
operand_keys_there v opcode (Some (operand.Type key)) fits are = (are, tt)
operand_keys_there v opcode (Some (operand.Field field)) fits are = (owner_there v fields field fits, tt)
operand_keys_there v opcode (Some (operand.Method row)) fits are = tt
operand_keys_there v opcode (Some (operand.Constructor class params)) fits are = (fits, are)
operand_keys_there v opcode (Some (operand.Check check)) fits are = tt

-- the types that an instruction meets
pub instr_keys_there : (v : View) (raw : RawInstr) → AllByRecursion (IsKey v) (keys_of_instr v raw)
instr_keys_there v raw = operand_keys_there v raw.opcode (operand_at v raw) (operand_fits v raw.opcode (raw.operand % 2 ^ 32)) (operand_there v raw.opcode (raw.operand % 2 ^ 32))

code_there : (v : View) (code : List RawInstr) → AllByRecursion (IsKey v) (flat_map (keys_of_instr v) code)
code_there v [] = tt
code_there v (raw ∷ code) = each-append (IsKey v) (keys_of_instr v raw) (flat_map (keys_of_instr v) code) (instr_keys_there v raw) (code_there v code)

caught_there : (v : View) (raw : RawClause) → IfSome (caught v raw) (IsLeaf v)
caught_there v raw = cond_both (raw.flags == 0) (class_of v raw.class) None (λ o. IfSome o (IsLeaf v)) (λ e. class_there v raw.class) (λ e. tt)

leaf_keys_there : (v : View) (leaf : Option Leaf) → IfSome leaf (IsLeaf v) → AllByRecursion (IsKey v) (leaf_keys leaf)
leaf_keys_there v None is = tt
leaf_keys_there v (Some leaf) is = (is, tt)

clauses_there : (v : View) (clauses : List RawClause) → AllByRecursion (IsKey v) (flat_map (keys_of_clause v) clauses)
clauses_there v [] = tt
clauses_there v (raw ∷ clauses) = each-append (IsKey v) (keys_of_clause v raw) (flat_map (keys_of_clause v) clauses) (leaf_keys_there v (caught v raw) (caught_there v raw)) (clauses_there v clauses)

body_there : (v : View) (whole : Whole) → AllByRecursion (IsKey v) (keys_of_body v whole)
body_there v whole =
    let code = flat_map (keys_of_instr v) whole.body.code in
    let clauses = flat_map (keys_of_clause v) whole.body.clauses in
    each-append (IsKey v) (map (place_key v) whole.locals) (code ++ clauses) (places_there v whole.locals) (each-append (IsKey v) code clauses (code_there v whole.body.code) (clauses_there v whole.body.clauses))

-- the types that methods of types meet
pub met_there : (v : View) (rows : List ℕ) (bodies : List Whole) → AllByRecursion (IsOwned v) rows → AllByRecursion (IsKey v) (flat_map (met_by v) (zip rows bodies))
met_there v [] bodies owned = tt
met_there v (row ∷ rows) [] owned = tt
met_there v (row ∷ rows) (whole ∷ bodies) owned =
    each-append (IsKey v) (met_by v (row, whole)) (flat_map (met_by v) (zip rows bodies))
    (owner_there v methods row owned.0.owned, each-append (IsKey v) (keys_of_sig v (sig_at v row)) (keys_of_body v whole) (sig_there v (sig_at v row)) (body_there v whole))
    (met_there v rows bodies owned.1)

pub library_keys_there : (v : View) → AllByRecursion (IsKey v) library_keys
library_keys_there v = search rules
