-- The rows that types and members stand in (Partition II, 22), and their tokens.
use Rattle.std.specs.Prelude.{ℕ, ◌+◌, ◌*◌, ◌/◌, ◌%◌, ◌^◌, ◌≤◌, ◌==◌, ◌&&◌, not, nat_le, Bool, if◌then◌else◌, List, Option, Some, None, slice_index, take_while, drop}
use Rattle.std.specs.List.{list_any, range_with_len}
use Rattle.px_blobs.specs.Items.{IsStringAt}
use Rattle.px_tables.specs.Metadata.{View}
use Rattle.px_tables.specs.Counts.{rows_of}
use Rattle.px_tables.specs.Rows.{row_of}

-- the numbers of the tables that are read
abbrev pub type_refs : ℕ
type_refs = 0x01

abbrev pub type_defs : ℕ
type_defs = 0x02

abbrev pub fields : ℕ
fields = 0x04

abbrev pub methods : ℕ
methods = 0x06

abbrev pub member_refs : ℕ
member_refs = 0x0A

abbrev pub method_impls : ℕ
method_impls = 0x19

abbrev pub type_specs : ℕ
type_specs = 0x1B

abbrev pub nested_classes : ℕ
nested_classes = 0x29

-- how many rows a table has
abbrev pub count_of : View → ℕ → ℕ
count_of v table = rows_of v.counts table

-- the number in a column of a row; columns are counted from 0 and rows from 1
abbrev pub cell : View → ℕ → ℕ → ℕ → ℕ
cell v table row column = slice_index (row_of v.counts v.rows table row) column

-- the rows of a table
abbrev pub rows_in : View → ℕ → List ℕ
rows_in v table = range_with_len 1 (count_of v table)

pub record IsRow (v : View) (table row : ℕ) : Type 0 where
  pub some : 1 ≤ row
  pub few : row ≤ count_of v table

-- whether a row is one of some
abbrev pub is_in : List ℕ → ℕ → Bool
is_in rows row = list_any (λ other. other == row) rows

-- a number as a row of a table, where the table has such a row
abbrev pub some_row : View → ℕ → ℕ → Option ℕ
some_row v table row = if nat_le 1 row && nat_le row (count_of v table) then Some row else None

-- The token of a row, which has 32 bits: Partition II, 22. A row of up to 24 bits can be read back from it.
abbrev pub token : ℕ → ℕ → ℕ
token table row = (table * 2 ^ 24 + row) % 2 ^ 32

-- the token that a coded index gives, where its row isn't 0: of a table by the number in the low bits
abbrev pub coded_token : (ℕ → ℕ) → ℕ → ℕ → Option ℕ
coded_token table_by bits index = if index / 2 ^ bits == 0 then None else Some (token (table_by (index % 2 ^ bits)) (index / 2 ^ bits))

abbrev pub type_def_or_ref : ℕ → ℕ
type_def_or_ref tag = if tag == 0 then type_defs else if tag == 1 then type_refs else type_specs

-- the row that a coded index of some low bits names, where it names one of the table whose number in these bits is 0
abbrev pub row_by : View → ℕ → ℕ → ℕ → Option ℕ
row_by v table bits index = if index % 2 ^ bits == 0 then some_row v table (index / 2 ^ bits) else None

-- the bytes of the text at a place of the strings, where one stands there
abbrev pub text_at : View → ℕ → List ℕ
text_at v at = take_while (λ byte. not (byte == 0)) (drop at v.strings)

-- some text stands at a place of the strings
pub record IsReadable (v : View) (at : ℕ) : Type 0 where
  pub text : List ℕ
  pub stands : IsStringAt v.strings at text
