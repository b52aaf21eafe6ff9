-- What a program says of its types.
use Rattle.std.specs.Prelude.{◌≡◌, ℕ, zero, suc, List, [], length, map, Option, Some, None, slice_get}
use Rattle.px_tables.specs.Metadata.{View}
use Rattle.px_link_types.specs.declared.key.Key.{Key}
use Rattle.px_link_types.specs.declared.key.Leaf.{Leaf}
use Rattle.px_link_types.specs.declared.key.Leaf.TheVariants.{Number, Library, Defined}
use Rattle.px_meta.specs.FullNames.{IsTypeName}
use Rattle.px_program.specs.Alone.{array_of}
use Rattle.px_program.specs.Library.{library_types}
use Rattle.px_program.specs.declared.program.TypeInfo.{TypeInfo}
use Rattle.px_link_types.specs.Keys.{alone}
use Rattle.px_link_types.specs.Numbers.{base_leaf, field_key, instance_fields, number_of, place_in, place_of_leaf, static_fields}

abbrev pub number_in : List Key → Option Leaf → Option ℕ
number_in keys None = None
number_in keys (Some leaf) = Some (number_of keys (alone leaf))

-- a type of the assembly; which methods take the place of others in it is added by who knows the program's methods
pub record IsDefined (v : View) (keys : List Key) (row : ℕ) (info : TypeInfo) : Type 0 where
  pub name : IsTypeName v row info.name
  pub base : info.base ≡ number_in keys (base_leaf v row)
  pub element : info.element ≡ None
  pub fields : info.fields ≡ map (λ f. place_in keys (field_key v f)) (instance_fields v row)
  pub statics : info.statics ≡ map (λ f. place_in keys (field_key v f)) (static_fields v row)
  pub no_overrides : info.overrides ≡ []

abbrev pub IsInfoOf : View → List Key → ℕ → Leaf → TypeInfo → Type 0
IsInfoOf v keys zero (Number integer) info = ⊥
IsInfoOf v keys zero (Library number) info = slice_get library_types number ≡ Some info
IsInfoOf v keys zero (Defined row) info = IsDefined v keys row info
IsInfoOf v keys (suc depth) leaf info = info ≡ array_of (place_of_leaf keys depth leaf)

-- the types of a program: those of the keys in order
pub record AreInfos (v : View) (keys : List Key) (types : List TypeInfo) : Type 0 where
  pub count : length types ≡ length keys
  pub each : (n : ℕ) (key : Key) (info : TypeInfo) → slice_get keys n ≡ Some key → slice_get types n ≡ Some info → IsInfoOf v keys key.depth key.leaf info
