-- What the tokens of instructions name (Partition II, 22; Partition III, 1.9), before types and methods have numbers.
use Rattle.std.specs.Prelude.{ℕ, ◌+◌, ◌*◌, ◌/◌, ◌%◌, ◌^◌, ◌==◌, ◌&&◌, ◌||◌, not, nat_le, Bool, true, false, if◌then◌else◌, List, [], ◌∷◌, codes, Option, Some, None, length}
use Rattle.std.specs.List.{list_all, list_any}
use Rattle.std.specs.Str.{bytes_eq}
use Rattle.px_blobs.specs.Items.{blob_at}
use Rattle.px_meta.specs.Members.{field_sig_at, method_sig_at, owner_of, type_sig_at}
use Rattle.px_meta.specs.Rows.{cell, fields, member_refs, methods, rows_in, some_row, text_at, type_refs, type_specs}
use Rattle.px_meta.specs.Tokens.{row_in, table_in}
use Rattle.px_program.specs.declared.instr.Check.{Check}
use Rattle.px_program.specs.declared.instr.Check.TheVariants.{Assert, Assume}
use Rattle.px_sig.specs.declared.sig.Integer.{Integer}
use Rattle.px_sig.specs.declared.sig.Integer.TheVariants as integers
use Rattle.px_sig.specs.declared.sig.MethodSig.{MethodSig}
use Rattle.px_sig.specs.declared.sig.SigType.{SigType}
use Rattle.px_sig.specs.declared.sig.SigLeaf.{SigLeaf}
use Rattle.px_sig.specs.declared.sig.SigLeaf.TheVariants.{Void, Int, Class}
use Rattle.px_tables.specs.Metadata.{View}
use Rattle.px_link_types.specs.Keys.{alone, array_in, class_of, in_arrays, is_class, is_system, key_of, leaf_of, library_ref, ref_name}
use Rattle.px_link_types.specs.Numbers.{is_integer, is_static_field}
use Rattle.px_link_types.specs.Parts.{is_kind}
use Rattle.px_link_types.specs.declared.key.Key.{Key}
use Rattle.px_link_types.specs.declared.key.Leaf.{Leaf}
use Rattle.px_link_types.specs.declared.key.Leaf.TheVariants.{Number, Library}
use Rattle.px_link_tokens.specs.declared.operand.Operand.{Operand}
use Rattle.px_link_tokens.specs.declared.operand.Operand.TheVariants as operand

abbrev pub is_there : {X : Type 0} → Option X → Bool
is_there None = false
is_there (Some x) = true

-- TEXTS

-- the code units of so many bytes, low byte first; a byte behind the last pair is passed over
abbrev pub units_of : List ℕ → List ℕ
units_of (low ∷ high ∷ rest) = (low + 2 ^ 8 * high) ∷ units_of rest
units_of _ = []

-- the text of a user string, which has one byte behind its code units: Partition II, 24.2.4
abbrev pub text_of : Option (List ℕ) → Option Operand
text_of None = None
text_of (Some bytes) = if length bytes % 2 == 1 then Some (operand.Text (units_of bytes)) else None

-- a token of 0x70 has the place in the heap of user strings
abbrev pub text_at_token : View → ℕ → Option Operand
text_at_token v at = if table_in at == 0x70 then text_of (blob_at v.user_strings (row_in at)) else None

-- TYPES

abbrev pub key_alone : Option Leaf → Option Key
key_alone None = None
key_alone (Some leaf) = Some (alone leaf)

-- what is in the arrays of a type, where its class is known
abbrev pub known_leaf : View → SigLeaf → Option Leaf
known_leaf v (Class at) = class_of v at
known_leaf v leaf = leaf_of v leaf

-- what a type is, where its class is known: one that isn't known doesn't read as `Object` here
abbrev pub known_key : View → SigType → Option Key
known_key v type = in_arrays type.depth (known_leaf v type.leaf)

abbrev pub read_known : View → Option SigType → Option Key
read_known v None = None
read_known v (Some type) = known_key v type

abbrev pub spec_in : View → Option ℕ → Option Key
spec_in v None = None
spec_in v (Some row) = read_known v (type_sig_at v (cell v type_specs row 0))

-- the names of integers in the namespace `System`
abbrev pub integer_named : List ℕ → Option Integer
integer_named name =
    if bytes_eq name (codes "Boolean") then Some integers.Bool
    else if bytes_eq name (codes "Char") then Some integers.Char
    else if bytes_eq name (codes "SByte") then Some integers.I1
    else if bytes_eq name (codes "Byte") then Some integers.U1
    else if bytes_eq name (codes "Int16") then Some integers.I2
    else if bytes_eq name (codes "UInt16") then Some integers.U2
    else if bytes_eq name (codes "Int32") then Some integers.I4
    else if bytes_eq name (codes "UInt32") then Some integers.U4
    else if bytes_eq name (codes "Int64") then Some integers.I8
    else if bytes_eq name (codes "UInt64") then Some integers.U8
    else if bytes_eq name (codes "IntPtr") then Some integers.N
    else if bytes_eq name (codes "UIntPtr") then Some integers.UN
    else None

abbrev pub number_leaf : Option Integer → Option Leaf
number_leaf None = None
number_leaf (Some integer) = Some (Number integer)

abbrev pub integer_in : View → Option ℕ → Option Leaf
integer_in v None = None
integer_in v (Some row) = if is_system v row then number_leaf (integer_named (ref_name v row)) else None

-- the integer that a token of TypeRef names
abbrev pub integer_at : View → ℕ → Option Leaf
integer_at v at = if table_in at == type_refs then integer_in v (some_row v type_refs (row_in at)) else None

abbrev pub class_or : Option Leaf → Option Leaf → Option Leaf
class_or None other = other
class_or (Some leaf) other = Some leaf

-- what a token names as the elements of an array: a class, an integer, or what a TypeSpec spells
abbrev pub element_at : View → ℕ → Option Key
element_at v at =
    if table_in at == type_specs then spec_in v (some_row v type_specs (row_in at))
    else key_alone (class_or (class_of v at) (integer_at v at))

-- an integer alone is no type
abbrev pub type_only : Option Key → Option Key
type_only None = None
type_only (Some key) = if is_integer key then None else Some key

-- what a token names as the type of an object: a class, or what a TypeSpec spells
abbrev pub type_at : View → ℕ → Option Key
type_at v at =
    if table_in at == type_specs then type_only (spec_in v (some_row v type_specs (row_in at)))
    else key_alone (class_of v at)

abbrev pub type_operand : Option Key → Option Operand
type_operand None = None
type_operand (Some key) = Some (operand.Type key)

-- MEMBERS

-- a type initialiser (Partition II, 10.5.3)
abbrev pub is_initialiser : View → ℕ → ℕ → Bool
is_initialiser v type method = (owner_of v methods method == type) && bytes_eq (text_at v (cell v methods method 3)) (codes ".cctor")

abbrev pub has_initialiser : View → ℕ → Bool
has_initialiser v type = list_any (is_initialiser v type) (rows_in v methods)

-- some type has the member, and it is a class where that is asked
abbrev pub is_owned : View → Bool → ℕ → Bool
is_owned v class owner = not (owner == 0) && (not class || is_class v owner)

abbrev pub read_form : View → Option SigType → Bool
read_form v None = false
read_form v (Some type) = is_there (key_of v type)

-- A field that can be run on: of a class where it is one of instances, and of a type without an initialiser where it is static; and what it holds is of a form that is run.
abbrev pub is_field : View → Bool → ℕ → Bool
is_field v static field = let owner = owner_of v fields field in
    is_owned v (not static) owner && is_kind static (is_static_field v field) && read_form v (field_sig_at v (cell v fields field 2))
    && (not static || not (has_initialiser v owner))

abbrev pub field_in : View → Bool → Option ℕ → Option Operand
field_in v static None = None
field_in v static (Some row) = if is_field v static row then Some (operand.Field row) else None

abbrev pub field_at : View → Bool → ℕ → Option Operand
field_at v static at = if table_in at == fields then field_in v static (some_row v fields (row_in at)) else None

abbrev pub is_void_leaf : SigLeaf → Bool
is_void_leaf Void = true
is_void_leaf _ = false

abbrev pub is_void : SigType → Bool
is_void type = (type.depth == 0) && is_void_leaf type.leaf

-- a plain signature, all parts of which are of a form that is run
abbrev pub is_run : View → MethodSig → Bool
is_run v sig = sig.plain && list_all (λ type. is_there (key_of v type)) sig.params && (is_void sig.ret || is_there (key_of v sig.ret))

-- how a method is called
pub data Way : Type 0 where
  Called : Way
  CalledVirtually : Way
  Made : Way

abbrev pub has_body : View → ℕ → Bool
has_body v method = not (cell v methods method 0 == 0)

-- `call` takes a method with a body; `callvirt` an instance method, with a body or without; `newobj` an instance method with a body that returns nothing.
-- An instance method is one of a class. What touches a type (a static call, a new object) must not have to run its initialiser.
abbrev pub may_be_called : View → Way → ℕ → MethodSig → Bool
may_be_called v Called method sig = let owner = owner_of v methods method in
    is_owned v sig.has_this owner && has_body v method && (sig.has_this || not (has_initialiser v owner))
may_be_called v CalledVirtually method sig = is_owned v true (owner_of v methods method) && sig.has_this
may_be_called v Made method sig = let owner = owner_of v methods method in
    is_owned v true owner && has_body v method && sig.has_this && is_void sig.ret && not (has_initialiser v owner)

abbrev pub method_by : View → Way → ℕ → Option MethodSig → Option Operand
method_by v way row None = None
method_by v way row (Some sig) = if is_run v sig && may_be_called v way row sig then Some (operand.Method row) else None

abbrev pub method_in : View → Way → Option ℕ → Option Operand
method_in v way None = None
method_in v way (Some row) = method_by v way row (method_sig_at v (cell v methods row 4))

-- THE LIBRARY

-- a row of TypeRef that is nested in no other
abbrev pub is_outer_ref : View → ℕ → Bool
is_outer_ref v row = not (cell v type_refs row 0 % 4 == 3)

-- the row of TypeRef that is the parent of a reference to a member
abbrev pub parent_ref : View → ℕ → Option ℕ
parent_ref v row = if cell v member_refs row 0 % 8 == 1 then some_row v type_refs (cell v member_refs row 0 / 8) else None

abbrev pub member_name : View → ℕ → List ℕ
member_name v row = text_at v (cell v member_refs row 1)

-- `Object` has one constructor, without parameters; those of exceptions take texts and exceptions
abbrev pub is_exception_leaf : Leaf → Bool
is_exception_leaf (Library number) = nat_le 1 number && nat_le number 16
is_exception_leaf _ = false

abbrev pub is_text_leaf : Leaf → Bool
is_text_leaf (Library number) = number == 17
is_text_leaf _ = false

abbrev pub is_text_or_exception : Key → Bool
is_text_or_exception key = (key.depth == 0) && (is_text_leaf key.leaf || is_exception_leaf key.leaf)

abbrev pub with_key : Option Key → Option (List Key) → Option (List Key)
with_key (Some key) (Some keys) = Some (key ∷ keys)
with_key _ _ = None

-- what all of some types are, where all are known
abbrev pub each_known : View → List SigType → Option (List Key)
each_known v [] = Some []
each_known v (type ∷ types) = with_key (known_key v type) (each_known v types)

abbrev pub may_take : ℕ → List Key → Bool
may_take class [] = nat_le class 16
may_take class keys = nat_le 1 class && nat_le class 16 && list_all is_text_or_exception keys

abbrev pub constructor_with : ℕ → Option (List Key) → Option Operand
constructor_with class None = None
constructor_with class (Some keys) = if may_take class keys then Some (operand.Constructor class keys) else None

abbrev pub constructor_of : View → MethodSig → Option ℕ → Option Operand
constructor_of v sig None = None
constructor_of v sig (Some class) = if sig.has_this && sig.plain && is_void sig.ret then constructor_with class (each_known v sig.params) else None

-- the number of the library's type that a row of TypeRef names
abbrev pub library_in : View → Option ℕ → Option ℕ
library_in v None = None
library_in v (Some row) = library_ref v row

-- the constructor of the library that a reference names
abbrev pub library_constructor : View → ℕ → MethodSig → Option Operand
library_constructor v row sig = if bytes_eq (member_name v row) (codes ".ctor") then constructor_of v sig (library_in v (parent_ref v row)) else None

-- `PexAssume` and `PexAssert` of the namespace `Microsoft.Pex.Framework`
abbrev pub check_named : List ℕ → Option Check
check_named name = if bytes_eq name (codes "PexAssume") then Some Assume else if bytes_eq name (codes "PexAssert") then Some Assert else None

abbrev pub check_in : View → Option ℕ → Option Check
check_in v None = None
check_in v (Some row) =
    if is_outer_ref v row && bytes_eq (text_at v (cell v type_refs row 2)) (codes "Microsoft.Pex.Framework") then check_named (ref_name v row) else None

abbrev pub is_bool_leaf : SigLeaf → Bool
is_bool_leaf (Int integers.Bool) = true
is_bool_leaf _ = false

-- a bool alone
abbrev pub is_bool : List SigType → Bool
is_bool (type ∷ []) = (type.depth == 0) && is_bool_leaf type.leaf
is_bool _ = false

abbrev pub check_operand : Option Check → Option Operand
check_operand None = None
check_operand (Some check) = Some (operand.Check check)

-- a static method `IsTrue` of one of the two, that takes a bool and returns nothing
abbrev pub check_of : View → ℕ → MethodSig → Option Operand
check_of v row sig =
    if bytes_eq (member_name v row) (codes "IsTrue") && not sig.has_this && sig.plain && is_void sig.ret && is_bool sig.params
    then check_operand (check_in v (parent_ref v row)) else None

infixr 20 ◌else◌
abbrev pub ◌else◌ : Option Operand → Option Operand → Option Operand
(Some x) else other = Some x
None else other = other

-- what the library has for a reference to a method: a new object can't be made by a check
abbrev pub library_by : View → Bool → ℕ → Option MethodSig → Option Operand
library_by v made row None = None
library_by v true row (Some sig) = library_constructor v row sig
library_by v false row (Some sig) = library_constructor v row sig else check_of v row sig

abbrev pub reference_in : View → Bool → Option ℕ → Option Operand
reference_in v made None = None
reference_in v made (Some row) = library_by v made row (method_sig_at v (cell v member_refs row 2))

-- the method that a token names in an instruction that calls, or makes an object
abbrev pub callee_at : View → Bool → ℕ → Option Operand
callee_at v made at =
    if table_in at == methods then method_in v (if made then Made else Called) (some_row v methods (row_in at))
    else if table_in at == member_refs then reference_in v made (some_row v member_refs (row_in at))
    else None

abbrev pub virtual_at : View → ℕ → Option Operand
virtual_at v at = if table_in at == methods then method_in v CalledVirtually (some_row v methods (row_in at)) else None

-- What the token of an instruction names, by the opcode: `ldstr`, `newarr` (the array's own type), `ldelem` and `stelem`, `castclass` and `isinst`, `ldfld` and
-- `stfld`, `ldsfld` and `stsfld`, `call`, `callvirt` and `newobj`. Nothing where the instruction isn't run.
unfoldable pub operand_of : View → ℕ → ℕ → Option Operand
operand_of v opcode at =
    if opcode == 0x72 then text_at_token v at
    else if opcode == 0x8D then type_operand (array_in (element_at v at))
    else if (opcode == 0xA3) || (opcode == 0xA4) then type_operand (element_at v at)
    else if (opcode == 0x74) || (opcode == 0x75) then type_operand (type_at v at)
    else if (opcode == 0x7B) || (opcode == 0x7D) then field_at v false at
    else if (opcode == 0x7E) || (opcode == 0x80) then field_at v true at
    else if opcode == 0x28 then callee_at v false at
    else if opcode == 0x6F then virtual_at v at
    else if opcode == 0x73 then callee_at v true at
    else None
