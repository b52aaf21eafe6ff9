-- How types are numbered: each as it is first met, and its own types at once behind it.
use Rattle.std.specs.Prelude.{◌≡◌, ℕ, zero, suc, ◌+◌, ◌/◌, ◌%◌, ◌==◌, ◌&&◌, ◌||◌, not, Bool, true, false, if◌then◌else◌, List, [], ◌∷◌, ◌++◌, map, filter, Option, Some, None}
use Rattle.std.specs.List.{list_any}
use Rattle.px_tables.specs.Counts.{has_bit}
use Rattle.px_tables.specs.Metadata.{View}
use Rattle.px_link_types.specs.declared.key.Key.{Key}
use Rattle.px_link_types.specs.declared.key.Leaf.{Leaf}
use Rattle.px_link_types.specs.declared.key.Leaf.TheVariants.{Number, Library, Defined}
use Rattle.px_sig.specs.declared.sig.Integer.{Integer}
use Rattle.px_sig.specs.declared.sig.Integer.TheVariants as integers
use Rattle.px_sig.specs.declared.sig.SigType.{SigType}
use Rattle.px_meta.specs.Members.{field_sig_at, flags_in, owner_of}
use Rattle.px_meta.specs.Rows.{cell, fields, rows_in}
use Rattle.px_program.specs.Library.{library_types}
use Rattle.px_program.specs.declared.program.Place.{Place}
use Rattle.px_program.specs.declared.program.Place.TheVariants as places
use Rattle.px_program.specs.declared.program.TypeInfo.{TypeInfo}
use Rattle.px_link_types.specs.Keys.{alone, base_index, library_ref, object, place_key}

-- A TYPE'S OWN TYPES

abbrev pub base_in_library : Option ℕ → Leaf
base_in_library None = Library 0
base_in_library (Some number) = if number == 17 then Library 0 else Library number

-- The base of a type of the assembly: where it is no type of the assembly, one of the library but `String`, and else `Object`.
abbrev pub base_leaf : View → ℕ → Option Leaf
base_leaf v row = let index = base_index v row in
    if index / 4 == 0 then None
    else if index % 4 == 0 then Some (Defined (index / 4))
    else if index % 4 == 1 then Some (base_in_library (library_ref v (index / 4)))
    else Some (Library 0)

abbrev pub is_static_field : View → ℕ → Bool
is_static_field v field = has_bit (flags_in (cell v fields field 0)) 4

abbrev pub is_field_of : View → ℕ → ℕ → Bool
is_field_of v row field = owner_of v fields field == row

-- the fields of a type by row: those of instances, and the static ones
abbrev pub instance_fields : View → ℕ → List ℕ
instance_fields v row = filter (λ f. is_field_of v row f && not (is_static_field v f)) (rows_in v fields)

abbrev pub static_fields : View → ℕ → List ℕ
static_fields v row = filter (λ f. is_field_of v row f && is_static_field v f) (rows_in v fields)

abbrev pub read_key : View → Option SigType → Key
read_key v None = object
read_key v (Some type) = place_key v type

abbrev pub field_key : View → ℕ → Key
field_key v field = read_key v (field_sig_at v (cell v fields field 2))

abbrev pub leaf_keys : Option Leaf → List Key
leaf_keys None = []
leaf_keys (Some leaf) = alone leaf ∷ []

abbrev pub own_of_leaf : View → Leaf → List Key
own_of_leaf v (Number integer) = []
own_of_leaf v (Library number) = []
own_of_leaf v (Defined row) = leaf_keys (base_leaf v row) ++ map (field_key v) (instance_fields v row) ++ map (field_key v) (static_fields v row)

-- a type's own types: the element of an array; and else its base, and what its fields of instances and its static ones hold
abbrev pub own_of_key : View → ℕ → Leaf → List Key
own_of_key v zero leaf = own_of_leaf v leaf
own_of_key v (suc depth) leaf = record { depth = depth; leaf = leaf } ∷ []

abbrev pub own_types : View → Key → List Key
own_types v key = own_of_key v key.depth key.leaf

-- NUMBERS

abbrev pub integer_number : Integer → ℕ
integer_number integers.Bool = 0
integer_number integers.Char = 1
integer_number integers.I1 = 2
integer_number integers.U1 = 3
integer_number integers.I2 = 4
integer_number integers.U2 = 5
integer_number integers.I4 = 6
integer_number integers.U4 = 7
integer_number integers.I8 = 8
integer_number integers.U8 = 9
integer_number integers.N = 10
integer_number integers.UN = 11

abbrev pub leaf_eq : Leaf → Leaf → Bool
leaf_eq (Number a) (Number b) = integer_number a == integer_number b
leaf_eq (Library a) (Library b) = a == b
leaf_eq (Defined a) (Defined b) = a == b
leaf_eq _ _ = false

abbrev pub key_eq : Key → Key → Bool
key_eq a b = (a.depth == b.depth) && leaf_eq a.leaf b.leaf

abbrev pub is_integer_leaf : Leaf → Bool
is_integer_leaf (Number integer) = true
is_integer_leaf _ = false

-- an integer alone is no type
abbrev pub is_integer : Key → Bool
is_integer key = (key.depth == 0) && is_integer_leaf key.leaf

abbrev pub has_key : List Key → Key → Bool
has_key keys key = list_any (key_eq key) keys

-- what needs no number: an integer, and a type that has one
abbrev pub is_numbered : List Key → Key → Bool
is_numbered keys key = is_integer key || has_key keys key

-- Numbering, from types that have numbers, of some more to others: each gets its number as it is first met,
-- and is followed at once by those of its own types that have none.
pub data Numbers (v : View) : List Key → List Key → List Key → Type 0 where
  Ends : (keys : List Key) → Numbers v keys [] keys
  Passes : (keys : List Key) (key : Key) (rest all : List Key) → is_numbered keys key ≡ true → Numbers v keys rest all → Numbers v keys (key ∷ rest) all
  Meets : (keys : List Key) (key : Key) (rest all : List Key) → is_numbered keys key ≡ false → Numbers v (keys ++ key ∷ []) (own_types v key ++ rest) all → Numbers v keys (key ∷ rest) all

-- so many types of the library, counted on from a number
abbrev pub library_keys_from : ℕ → List TypeInfo → List Key
library_keys_from n [] = []
library_keys_from n (type ∷ types) = alone (Library n) ∷ library_keys_from (n + 1) types

-- the types of the library have the first numbers
abbrev pub library_keys : List Key
library_keys = library_keys_from 0 library_types

-- where a type stands in the list
abbrev pub number_of : List Key → Key → ℕ
number_of [] key = 0
number_of (other ∷ keys) key = if key_eq other key then 0 else 1 + number_of keys key

abbrev pub integer_place : Integer → Place
integer_place integers.Bool = places.Bool
integer_place integers.Char = places.Char
integer_place integers.I1 = places.I1
integer_place integers.U1 = places.U1
integer_place integers.I2 = places.I2
integer_place integers.U2 = places.U2
integer_place integers.I4 = places.I4
integer_place integers.U4 = places.U4
integer_place integers.I8 = places.I8
integer_place integers.U8 = places.U8
integer_place integers.N = places.N
integer_place integers.UN = places.UN

abbrev pub place_of_leaf : List Key → ℕ → Leaf → Place
place_of_leaf keys zero (Number integer) = integer_place integer
place_of_leaf keys depth leaf = places.Ref (number_of keys (record { depth = depth; leaf = leaf }))

-- a key as a place of the program
abbrev pub place_in : List Key → Key → Place
place_in keys key = place_of_leaf keys key.depth key.leaf

-- what has numbers so far: types of these tables
pub record Numbered : Type 0 where
  pub tables : View
  pub keys : List Key
