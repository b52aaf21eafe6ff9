-- The vectors in which the rows of a program are kept.
use Rattle.std.specs.Prelude.{◌≡◌, ℕ, ◌<◌, List, length, Some, slice_get}
use Rattle.px_link_methods.specs.Codes.{place_of}
use Rattle.px_program.specs.declared.program.Program.{Program}
use Rattle.px_asm_described.specs.Describes.{method_row, type_row}
use Rattle.px_asm_store.specs.Rows.{HasRoom, IsLaid}
use Rattle.px_asm_law_written.specs.Tokens.{first_field}

-- a vector has the row of each number that is one
abbrev pub HasRows : (ℕ → Type 0) → (ℕ → ℕ) → List ℕ → Type 0
HasRows IsOne row rows = (number : ℕ) → IsOne number → slice_get rows number ≡ Some (row number)

abbrev pub first_field_of : Program → ℕ → ℕ
first_field_of p type = first_field p (place_of p.layout.types type)

abbrev pub IsMethod : Program → ℕ → Type 0
IsMethod p number = number < length p.methods

pub record AreKept (p : Program) (type_rows method_rows field_rows : List ℕ) : Type 0 where
  pub room : HasRoom p
  pub types : HasRows (IsLaid p) (type_row p) type_rows
  pub methods : HasRows (IsMethod p) (method_row p) method_rows
  pub fields : HasRows (IsLaid p) (first_field_of p) field_rows
