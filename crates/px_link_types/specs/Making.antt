-- What is known of the keys that have numbers: the library's come first, and each key's own types have numbers.
use Rattle.std.specs.Prelude.{◌≡◌, ℕ, zero, suc, List, ◌++◌, true, false, Some, length, slice_get}
use Rattle.std.specs.List.{AllByRecursion}
use Rattle.px_program.specs.declared.program.TypeInfo.{TypeInfo}
use Rattle.px_tables.specs.Metadata.{View}
use Rattle.px_link_types.specs.declared.key.Key.{Key}
use Rattle.px_link_types.specs.declared.key.Leaf.{Leaf}
use Rattle.px_link_types.specs.declared.key.Leaf.TheVariants.{Number, Library, Defined}
use Rattle.px_link_types.specs.Infos.{IsInfoOf}
use Rattle.px_link_types.specs.Keys.{IsKey}
use Rattle.px_link_types.specs.Numbers.{is_numbered, library_keys, own_types}

abbrev pub AreNumberedIn : List Key → List Key → Type 0
AreNumberedIn all keys = AllByRecursion (λ key. is_numbered all key ≡ true) keys

-- a key that is there, and whose own types have numbers
pub record IsKnown (v : View) (keys : List Key) (key : Key) : Type 0 where
  pub there : IsKey v key
  pub own : AreNumberedIn keys (own_types v key)

-- a key behind those of the library
abbrev pub IsNew : Key → Type 0
IsNew key = is_numbered library_keys key ≡ false

pub record AreKnown (v : View) (keys : List Key) : Type 0 where
  pub more : List Key
  pub keys_is : keys ≡ library_keys ++ more
  pub known : AllByRecursion (IsKnown v keys) keys
  pub new : AllByRecursion IsNew more

-- a key of a type that is made: an array, or a type of the assembly
abbrev pub IsMade : ℕ → Leaf → Type 0
IsMade zero (Number integer) = ⊥
IsMade zero (Library number) = ⊥
IsMade zero (Defined row) = Unit {0}
IsMade (suc depth) leaf = Unit {0}

-- the types of the first keys
pub record AreFirst (v : View) (keys : List Key) (n : ℕ) (types : List TypeInfo) : Type 0 where
  pub count : length types ≡ n
  pub each : (k : ℕ) (key : Key) (info : TypeInfo) → slice_get keys k ≡ Some key → slice_get types k ≡ Some info → IsInfoOf v keys key.depth key.leaf info
