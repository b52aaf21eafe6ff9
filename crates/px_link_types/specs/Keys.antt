-- The places and types of an assembly, before they have numbers (Partition II, 22 and 23.2).
use Rattle.std.specs.Prelude.{ℕ, ◌+◌, ◌/◌, ◌%◌, ◌^◌, ◌<◌, ◌==◌, ◌&&◌, ◌||◌, nat_lt, not, Bool, if◌then◌else◌, List, [], ◌∷◌, ◌++◌, codes, Option, Some, None}
use Rattle.std.specs.Str.{bytes_eq}
use Rattle.px_tables.specs.Counts.{has_bit}
use Rattle.px_tables.specs.Metadata.{View}
use Rattle.px_link_types.specs.declared.key.Key.{Key}
use Rattle.px_link_types.specs.declared.key.Leaf.{Leaf}
use Rattle.px_link_types.specs.declared.key.Leaf.TheVariants.{Number, Library, Defined}
use Rattle.px_sig.specs.declared.sig.SigType.{SigType}
use Rattle.px_sig.specs.declared.sig.SigLeaf.{SigLeaf}
use Rattle.px_sig.specs.declared.sig.SigLeaf.TheVariants.{Void, Int, Str, Object, Class, Other}
use Rattle.px_meta.specs.Rows.{IsRow, cell, some_row, text_at, type_defs, type_refs}
use Rattle.px_meta.specs.Tokens.{row_in, table_in}
use Rattle.px_program.specs.Library.{library_types}
use Rattle.px_program.specs.declared.program.TypeInfo.{TypeInfo}

-- NAMES OF THE LIBRARY

-- the number of the first type of this name, counted on from a number
abbrev pub number_from : ℕ → List TypeInfo → List ℕ → Option ℕ
number_from n [] name = None
number_from n (type ∷ types) name = if bytes_eq type.name name then Some n else number_from (n + 1) types name

-- the number of the type of the library that has this name in the namespace `System`
abbrev pub library_number : List ℕ → Option ℕ
library_number name = number_from 0 library_types (codes "System." ++ name)

-- a row of TypeRef that is nested in no other, and of the namespace `System`
abbrev pub is_system : View → ℕ → Bool
is_system v row = not (cell v type_refs row 0 % 4 == 3) && bytes_eq (text_at v (cell v type_refs row 2)) (codes "System")

abbrev pub ref_name : View → ℕ → List ℕ
ref_name v row = text_at v (cell v type_refs row 1)

-- the number of the type of the library that a row of TypeRef names
abbrev pub library_ref : View → ℕ → Option ℕ
library_ref v row = if is_system v row then library_number (ref_name v row) else None

-- CLASSES

-- the base of values: of structs and enums
abbrev pub is_value_base : View → ℕ → Bool
is_value_base v row = is_system v row && (bytes_eq (ref_name v row) (codes "ValueType") || bytes_eq (ref_name v row) (codes "Enum"))

-- the coded index of a type's base, with the table in its low two bits
abbrev pub base_index : View → ℕ → ℕ
base_index v row = cell v type_defs row 3

abbrev pub is_value : View → ℕ → Bool
is_value v row = not (base_index v row / 4 == 0) && (base_index v row % 4 == 1) && is_value_base v (base_index v row / 4)

abbrev pub is_interface : View → ℕ → Bool
is_interface v row = has_bit (cell v type_defs row 0) 5

-- a class of the assembly is a type that is neither an interface nor a value
abbrev pub is_class : View → ℕ → Bool
is_class v row = not (is_interface v row) && not (is_value v row)

abbrev pub defined_in : View → Option ℕ → Option Leaf
defined_in v None = None
defined_in v (Some row) = if is_class v row then Some (Defined row) else None

abbrev pub library_leaf : Option ℕ → Option Leaf
library_leaf None = None
library_leaf (Some number) = Some (Library number)

abbrev pub library_in : View → Option ℕ → Option Leaf
library_in v None = None
library_in v (Some row) = library_leaf (library_ref v row)

-- the class that a token names: one of the assembly or of the library
abbrev pub class_of : View → ℕ → Option Leaf
class_of v at =
    if table_in at == type_defs then defined_in v (some_row v type_defs (row_in at))
    else if table_in at == type_refs then library_in v (some_row v type_refs (row_in at))
    else None

-- PLACES

abbrev pub alone : Leaf → Key
alone leaf = record { depth = 0; leaf = leaf }

abbrev pub object : Key
object = alone (Library 0)

-- a class that isn't known, or an interface, reads as `Object`
abbrev pub class_or_object : Option Leaf → Leaf
class_or_object None = Library 0
class_or_object (Some leaf) = leaf

-- what is in the arrays of a type; none where it is of a form that isn't run
abbrev pub leaf_of : View → SigLeaf → Option Leaf
leaf_of v Void = None
leaf_of v (Int integer) = Some (Number integer)
leaf_of v Str = Some (Library 17)
leaf_of v Object = Some (Library 0)
leaf_of v (Class at) = Some (class_or_object (class_of v at))
leaf_of v Other = None

abbrev pub in_arrays : ℕ → Option Leaf → Option Key
in_arrays depth None = None
in_arrays depth (Some leaf) = Some (record { depth = depth; leaf = leaf })

-- what a type of a signature is; none where it is of a form that isn't run
abbrev pub key_of : View → SigType → Option Key
key_of v type = in_arrays type.depth (leaf_of v type.leaf)

-- an array of what is known; numbers of 32 bits have no room for arrays that lie deeper in each other
abbrev pub array_in : Option Key → Option Key
array_in None = None
array_in (Some key) = if nat_lt (key.depth + 1) (2 ^ 32) then Some (record { depth = key.depth + 1; leaf = key.leaf }) else None

abbrev pub key_or_object : Option Key → Key
key_or_object None = object
key_or_object (Some key) = key

-- a place of another form stands as a reference to `Object`
abbrev pub place_key : View → SigType → Key
place_key v type = key_or_object (key_of v type)

-- the leaf is there: an integer, a type of the library, or a row of TypeDef
abbrev pub IsLeaf : View → Leaf → Type 0
IsLeaf v (Number integer) = Unit {0}
IsLeaf v (Library number) = number < 18
IsLeaf v (Defined row) = IsRow v type_defs row

abbrev pub IsKey : View → Key → Type 0
IsKey v key = IsLeaf v key.leaf
