-- The tables of a written program, as the parts of the writer make them.
use Rattle.std.specs.Prelude.{◌≡◌, ◌≢◌, ℕ, ◌+◌, Bool, if◌then◌else◌, List, Some, length, slice_get}
use Rattle.std.specs.List.{AllZip}
use Rattle.px_asm_heaps.specs.Heaps.{Grows}
use Rattle.px_program.specs.declared.program.Method.{Method}
use Rattle.px_program.specs.declared.program.Program.{Program}
use Rattle.px_program.specs.declared.program.TypeInfo.{TypeInfo}
use Rattle.px_link_methods.specs.Codes.{place_of}
use Rattle.px_asm_described.specs.Describes.{method_row}
use Rattle.px_tables.specs.declared.tables.Row.{Row}
use Rattle.px_asm_law_written.specs.Holds.{IsAddress, IsMethodDef, IsTypeDef, table_in}
use Rattle.px_asm_law_written.specs.Store.{Store}

-- the heaps of strings and of blobs are what they were, and more behind
pub record HeapsGrow (old new : Store) : Type 0 where
  pub strings : Grows old.strings new.strings
  pub blob : Grows old.blob new.blob

-- the address of the body of the method of a number
pub record HasAddress (p : Program) (s : Store) (bodies : List ℕ) (number address : ℕ) : Type 0 where
  pub is : (method : Method) → slice_get p.methods number ≡ Some method → IsAddress p s bodies (method_row p number) method method.code address

-- the row of the type of a number
pub record IsTypeDefOf (p : Program) (s : Store) (number : ℕ) (row : Row) : Type 0 where
  pub is : (info : TypeInfo) → slice_get p.types number ≡ Some info → IsTypeDef p s (place_of p.layout.types number) info row

-- The row is that of the method of a number, whose body has the address, wherever there are the heaps that are known.
pub record IsMethodRow (p : Program) (known : Store) (number address : ℕ) (row : Row) : Type 0 where
  pub is : (s : Store) (bodies : List ℕ) → HasAddress p s bodies number address → HeapsGrow known s → IsMethodDef p s bodies number row

-- the rows of methods, by the addresses of their bodies
pub record AreMethodRows (p : Program) (known : Store) (numbers addresses : List ℕ) (rows : List Row) : Type 0 where
  pub are : (s : Store) (bodies : List ℕ) → AllZip (HasAddress p s bodies) numbers addresses → HeapsGrow known s → AllZip (IsMethodDef p s bodies) numbers rows

-- the rows of one more table stand behind those of the tables before it
pub record IsPut (old new : List (List Row)) (table : ℕ) (made : List Row) : Type 0 where
  pub count : length new ≡ table + 1
  pub there : table_in new table ≡ made
  pub others : (other : ℕ) → other ≢ table → table_in new other ≡ table_in old other

-- some bits, or none
abbrev pub bits_where : Bool → ℕ → ℕ
bits_where on bits = if on then bits else 0
