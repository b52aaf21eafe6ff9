-- How an assembly has what a program has: the order of its rows, and what its methods override (Partition II, 10.3 and 22).
use Rattle.std.specs.Prelude.{◌≡◌, ℕ, zero, ◌<◌, true, false, List, Option, Some, None, IsSome, slice_get}
use Rattle.std.specs.List.{AllByRecursion, AllPairs, AllZip}
use Rattle.std.specs.Option.{unwrap_or}
use Rattle.px_meta.specs.Overriding.{Overrides, is_virtual}
use Rattle.px_meta.specs.Rows.{is_in}
use Rattle.px_link_methods.specs.Codes.{Numbering, place_of}
use Rattle.px_program.specs.declared.program.Layout.{Layout}
use Rattle.px_program.specs.declared.program.Slot.{Slot}
use Rattle.px_tables.specs.Metadata.{View}
use Rattle.px_link_types.specs.declared.key.Key.{Key}
use Rattle.px_link_types.specs.declared.key.Leaf.{Leaf}
use Rattle.px_link_types.specs.declared.key.Leaf.TheVariants.{Defined}

-- THE ORDER OF ROWS

-- all numbers that have a row, in the order of their rows
pub record AreInRowOrder (row : ℕ → Option ℕ) (numbers : List ℕ) : Type 0 where
  pub each : AllByRecursion (λ n. IsSome (row n)) numbers
  pub all : (n : ℕ) → IsSome (row n) → is_in numbers n ≡ true
  pub rising : AllPairs (λ n later. unwrap_or (row n) 0 < unwrap_or (row later) 0) numbers

-- the row of a type of the assembly; an array and a type of the library have none
abbrev pub row_of : ℕ → Leaf → Option ℕ
row_of zero (Defined row) = Some row
row_of depth leaf = None

abbrev pub row_of_key : Option Key → Option ℕ
row_of_key None = None
row_of_key (Some key) = row_of key.depth key.leaf

-- the row of the type of a number
abbrev pub type_row : List Key → ℕ → Option ℕ
type_row keys n = row_of_key (slice_get keys n)

-- WHAT METHODS OVERRIDE

-- the nearest method that a method overrides, at once or through others, of some rows; none where it overrides none of these
pub data OverridesAmong (v : View) (rows : List ℕ) : ℕ → Option ℕ → Type 0 where
  Nothing : (method : ℕ) → ((other : ℕ) → Overrides v method other → ⊥) → OverridesAmong v rows method None
  Nearest : (method other : ℕ) → Overrides v method other → is_in rows other ≡ true → OverridesAmong v rows method (Some other)
  Behind : (method between : ℕ) (found : Option ℕ) → Overrides v method between → is_in rows between ≡ false → OverridesAmong v rows between found → OverridesAmong v rows method found

abbrev pub number_among : List ℕ → Option ℕ → Option ℕ
number_among rows None = None
number_among rows (Some row) = Some (place_of rows row)

-- what a method is in overriding, among the methods of a program
pub record IsSlot (v : View) (rows : List ℕ) (method : ℕ) (slot : Slot) : Type 0 where
  pub virtual_is : slot.is_virtual ≡ is_virtual v method
  pub nearest : Option ℕ
  pub among : OverridesAmong v rows method nearest
  pub overridden_is : slot.overridden ≡ number_among rows nearest

-- THE LAYOUT

pub record IsLayout (v : View) (n : Numbering) (layout : Layout) : Type 0 where
  pub types : AreInRowOrder (type_row n.keys) layout.types
  pub methods : AreInRowOrder (slice_get n.rows) layout.methods
  pub slots : AllZip (IsSlot v n.rows) n.rows layout.slots
