-- What the parts promise each other.
use Rattle.std.specs.Prelude.{◌≡◌, ℕ, zero, suc, ◌^◌, ◌<◌, List, ◌∷◌, [], ◌++◌, Bool, true, false, not, ◌&&◌, ◌==◌, filter, length, Option, Some, None}
use Rattle.std.specs.List.{AllByRecursion}
use Rattle.px_tables.specs.Counts.{has_bit}
use Rattle.px_tables.specs.Metadata.{View}
use Rattle.px_meta.specs.Rows.{fields, rows_in}
use Rattle.px_meta.specs.declared.meta.MetaField.{MetaField}
use Rattle.px_link_types.specs.Numbers.{Numbers, is_field_of, is_numbered, is_static_field, library_keys, own_types}
use Rattle.px_link_types.specs.declared.key.Key.{Key}
use Rattle.px_link_types.specs.Keys.{IsKey}

-- the one kind of fields or the other: static ones, or those of instances
abbrev pub is_kind : Bool → Bool → Bool
is_kind true flag = flag
is_kind false flag = not flag

-- a field of a type that is asked for
abbrev pub is_asked : ℕ → Bool → MetaField → Bool
is_asked row is_static field = (field.owner == row) && is_kind is_static (has_bit field.flags 4)

-- the same by its row
abbrev pub asks_for : View → ℕ → Bool → ℕ → Bool
asks_for v row is_static field = is_field_of v row field && is_kind is_static (is_static_field v field)

abbrev pub fields_of : View → ℕ → Bool → List ℕ
fields_of v row is_static = filter (asks_for v row is_static) (rows_in v fields)

-- one round of numbering: the next type needs no number, or gets one, and its own types are to be visited next
pub data Visits (v : View) : List Key → Key → List Key → List Key → List Key → Type 0 where
  Passed : (keys : List Key) (key : Key) (rest : List Key) → is_numbered keys key ≡ true → Visits v keys key rest keys rest
  Added : (keys : List Key) (key : Key) (rest : List Key) → is_numbered keys key ≡ false → AllByRecursion (IsKey v) (own_types v key) → Visits v keys key rest (keys ++ key ∷ []) (own_types v key ++ rest)

-- what is kept of types: they are there, their numbers have 32 bits, and they are numbered as some were met
pub record IsKept (v : View) (keys : List Key) : Type 0 where
  pub met : List Key
  pub there : AllByRecursion (IsKey v) met
  pub numbers : Numbers v library_keys met keys
  pub few : length keys < 2 ^ 32
