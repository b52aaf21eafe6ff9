-- What the counts of rows decide: how large a column is, and which numbers in it name a row (Partition II, 24.2.6).
use Rattle.std.specs.Prelude.{ℕ, ◌-◌, ◌/◌, ◌%◌, ◌^◌, ◌==◌, nat_lt, Bool, true, false, if◌then◌else◌, Option, Some, None, slice_index}
use Rattle.std.specs.List.{list_all, sum_by}
use Rattle.px_tables.specs.declared.column.CodedIndex.{CodedIndex}
use Rattle.px_tables.specs.declared.column.Column.{Column}
use Rattle.px_tables.specs.declared.column.Column.TheVariants.{U8, U16, U32, StringIndex, GuidIndex, BlobIndex, Row, Members, Coded}
use Rattle.px_tables.specs.declared.counts.Counts.{Counts}
use Rattle.px_tables.specs.Columns.{columns_of, table_named, tables_named, tag_bits}

abbrev pub rows_of : Counts → ℕ → ℕ
rows_of counts table = slice_index counts.rows table

abbrev pub has_bit : ℕ → ℕ → Bool
has_bit mask n = (mask / 2 ^ n) % 2 == 1

abbrev pub index_size : Bool → ℕ
index_size is_wide = if is_wide then 4 else 2

abbrev pub has_few_rows : Counts → ℕ → Option ℕ → Bool
has_few_rows counts limit None = true
has_few_rows counts limit (Some table) = nat_lt (rows_of counts table) limit

-- an index needs four bytes where a row of its table wouldn't fit in two
abbrev pub row_index_size : Counts → ℕ → ℕ
row_index_size counts table = if has_few_rows counts (2 ^ 16) (Some table) then 2 else 4

-- a coded index where a row of one of its tables wouldn't fit in two bytes beside the bits of the tag
abbrev pub coded_index_size : Counts → CodedIndex → ℕ
coded_index_size counts index = if list_all (has_few_rows counts (2 ^ (16 - tag_bits index))) (tables_named index) then 2 else 4

-- the size of a column; bits of the flags say which heaps are wide
abbrev pub column_size : Counts → Column → ℕ
column_size counts U8 = 1
column_size counts U16 = 2
column_size counts U32 = 4
column_size counts StringIndex = index_size (has_bit counts.heap_sizes 0)
column_size counts GuidIndex = index_size (has_bit counts.heap_sizes 1)
column_size counts BlobIndex = index_size (has_bit counts.heap_sizes 2)
column_size counts (Row table) = row_index_size counts table
column_size counts (Members table) = row_index_size counts table
column_size counts (Coded index) = coded_index_size counts index

unfoldable pub row_size : Counts → ℕ → ℕ
row_size counts table = sum_by (column_size counts) (columns_of table)

-- a row passes those of its table, or there is no such table
abbrev pub is_past : Counts → Option ℕ → ℕ → Bool
is_past counts None row = true
is_past counts (Some table) row = nat_lt (rows_of counts table) row

-- The number in a column names no row: it passes the rows of its table, or its tag names no table. 0 is allowed, and the first of a list
-- of members may be one more than there are.
abbrev pub is_bad : Counts → Column → ℕ → Bool
is_bad counts (Row table) n = is_past counts (Some table) n
is_bad counts (Members table) n = is_past counts (Some table) (n - 1)
is_bad counts (Coded index) n = is_past counts (table_named index (n % 2 ^ tag_bits index)) (n / 2 ^ tag_bits index)
is_bad counts column n = false
