-- The rows of tables: their cells, their sizes, from how many rows on an index is wide, and which indexes name no row.
use Rattle.std.proofs.Common.{◌≡◌, ℕ, ◌+◌, ◌-◌, true, false, List, [], ◌∷◌, ◌++◌, map, replicate, Some, refl}
use Rattle.std.specs.List.{range_with_len}
use Rattle.px_tables.specs.Columns.{table_named}
use Rattle.px_tables.specs.Counts.{column_size, is_bad, row_size, rows_of}
use Rattle.px_tables.specs.Metadata.{heap_of}
use Rattle.px_tables.specs.Rows.{row_of}
use Rattle.px_tables.specs.declared.column.CodedIndex.TheVariants.{TypeDefOrRef, HasConstant, HasCustomAttribute, HasFieldMarshal, HasDeclSecurity, MemberRefParent, HasSemantics, MethodDefOrRef, MemberForwarded, Implementation, CustomAttributeType, ResolutionScope, TypeOrMethodDef}
use Rattle.px_tables.specs.declared.column.Column.{Column}
use Rattle.px_tables.specs.declared.column.Column.TheVariants.{Row, Members, Coded}
use Rattle.px_tables.specs.declared.column.Heap.TheVariants.{Strings, UserStrings, Guid, Blob}
use Rattle.px_tables.specs.declared.counts.Counts.{Counts}
use Rattle.px_facts_load.proofs.FileWords.{zeros}
use Rattle.px_facts_load.proofs.TableWords.{blobs, counts, rows, strings, tables, view}

-- THE ROWS AND HEAPS of the metadata: a module, two types and a method

one_module : rows_of counts 0x00 ≡ 1
one_module = refl

no_references : rows_of counts 0x01 ≡ 0
no_references = refl

two_types : rows_of counts 0x02 ≡ 2
two_types = refl

one_method : rows_of counts 0x06 ≡ 1
one_method = refl

no_rows_of_no_table : rows_of counts 0x2D ≡ 0
no_rows_of_no_table = refl

no_rows_of_the_largest_number : rows_of counts 0xFF ≡ 0
no_rows_of_the_largest_number = refl

the_module : row_of counts rows 0x00 1 ≡ 0 ∷ 5 ∷ 1 ∷ zeros 6
unfolding tables
the_module = refl

-- a reader that cuts wide cells to two bytes has 0x0001 as the first cell
the_first_type : row_of counts rows 0x02 1 ≡ 0x0010_0001 ∷ 1 ∷ 0 ∷ 0 ∷ 1 ∷ 1 ∷ zeros 3
unfolding tables
the_first_type = refl

-- a reader that counts rows from 0 gives the first type
the_second_type : row_of counts rows 0x02 2 ≡ 0x0010_0102 ∷ 3 ∷ 4 ∷ 4 ∷ 1 ∷ 2 ∷ zeros 3
unfolding tables
the_second_type = refl

the_method : row_of counts rows 0x06 1 ≡ 0x2050 ∷ 0 ∷ 0x16 ∷ 3 ∷ 1 ∷ 1 ∷ zeros 3
unfolding tables
the_method = refl

the_strings : heap_of view Strings ≡ strings
the_strings = refl

the_blobs : heap_of view Blob ≡ blobs
the_blobs = refl

no_user_strings : heap_of view UserStrings ≡ []
no_user_strings = refl

no_GUIDs : heap_of view Guid ≡ []
no_GUIDs = refl

-- SIZES OF ROWS, where all indexes are narrow and where all are wide

abbrev narrow : Counts
narrow = record { heap_sizes = 0; rows = replicate 64 1 }

abbrev wide : Counts
wide = record { heap_sizes = 7; rows = replicate 64 65_536 }

abbrev Has : ℕ → ℕ → ℕ → Type 0
Has table small large = (row_size narrow table ≡ small) × (row_size wide table ≡ large)

abbrev from_to : ℕ → ℕ → List ℕ
from_to first last = range_with_len first (last + 1 - first)

-- numbers of no table
abbrev none : List ℕ
none = 0x03 ∷ 0x05 ∷ 0x07 ∷ 0x13 ∷ 0x16 ∷ 0x1E ∷ 0x1F ∷ from_to 0x2D 0xFF

size_of_Module : Has 0x00 10 18
unfolding tables
size_of_Module = (refl, refl)

size_of_TypeRef : Has 0x01 6 12
unfolding tables
size_of_TypeRef = (refl, refl)

size_of_TypeDef : Has 0x02 14 24
unfolding tables
size_of_TypeDef = (refl, refl)

size_of_Field : Has 0x04 6 10
unfolding tables
size_of_Field = (refl, refl)

size_of_MethodDef : Has 0x06 14 20
unfolding tables
size_of_MethodDef = (refl, refl)

size_of_Param : Has 0x08 6 8
unfolding tables
size_of_Param = (refl, refl)

size_of_InterfaceImpl : Has 0x09 4 8
unfolding tables
size_of_InterfaceImpl = (refl, refl)

size_of_MemberRef : Has 0x0A 6 12
unfolding tables
size_of_MemberRef = (refl, refl)

size_of_Constant : Has 0x0B 6 10
unfolding tables
size_of_Constant = (refl, refl)

size_of_CustomAttribute : Has 0x0C 6 12
unfolding tables
size_of_CustomAttribute = (refl, refl)

size_of_FieldMarshal : Has 0x0D 4 8
unfolding tables
size_of_FieldMarshal = (refl, refl)

size_of_DeclSecurity : Has 0x0E 6 10
unfolding tables
size_of_DeclSecurity = (refl, refl)

size_of_ClassLayout : Has 0x0F 8 10
unfolding tables
size_of_ClassLayout = (refl, refl)

size_of_FieldLayout : Has 0x10 6 8
unfolding tables
size_of_FieldLayout = (refl, refl)

size_of_StandAloneSig : Has 0x11 2 4
unfolding tables
size_of_StandAloneSig = (refl, refl)

size_of_EventMap : Has 0x12 4 8
unfolding tables
size_of_EventMap = (refl, refl)

size_of_Event : Has 0x14 6 10
unfolding tables
size_of_Event = (refl, refl)

size_of_PropertyMap : Has 0x15 4 8
unfolding tables
size_of_PropertyMap = (refl, refl)

size_of_Property : Has 0x17 6 10
unfolding tables
size_of_Property = (refl, refl)

size_of_MethodSemantics : Has 0x18 6 10
unfolding tables
size_of_MethodSemantics = (refl, refl)

size_of_MethodImpl : Has 0x19 6 12
unfolding tables
size_of_MethodImpl = (refl, refl)

size_of_ModuleRef : Has 0x1A 2 4
unfolding tables
size_of_ModuleRef = (refl, refl)

size_of_TypeSpec : Has 0x1B 2 4
unfolding tables
size_of_TypeSpec = (refl, refl)

size_of_ImplMap : Has 0x1C 8 14
unfolding tables
size_of_ImplMap = (refl, refl)

size_of_FieldRVA : Has 0x1D 6 8
unfolding tables
size_of_FieldRVA = (refl, refl)

size_of_Assembly : Has 0x20 22 28
unfolding tables
size_of_Assembly = (refl, refl)

size_of_AssemblyProcessor : Has 0x21 4 4
unfolding tables
size_of_AssemblyProcessor = (refl, refl)

size_of_AssemblyOS : Has 0x22 12 12
unfolding tables
size_of_AssemblyOS = (refl, refl)

size_of_AssemblyRef : Has 0x23 20 28
unfolding tables
size_of_AssemblyRef = (refl, refl)

size_of_AssemblyRefProcessor : Has 0x24 6 8
unfolding tables
size_of_AssemblyRefProcessor = (refl, refl)

size_of_AssemblyRefOS : Has 0x25 14 16
unfolding tables
size_of_AssemblyRefOS = (refl, refl)

size_of_File : Has 0x26 8 12
unfolding tables
size_of_File = (refl, refl)

size_of_ExportedType : Has 0x27 14 20
unfolding tables
size_of_ExportedType = (refl, refl)

size_of_ManifestResource : Has 0x28 12 16
unfolding tables
size_of_ManifestResource = (refl, refl)

size_of_NestedClass : Has 0x29 4 8
unfolding tables
size_of_NestedClass = (refl, refl)

size_of_GenericParam : Has 0x2A 8 12
unfolding tables
size_of_GenericParam = (refl, refl)

size_of_MethodSpec : Has 0x2B 4 8
unfolding tables
size_of_MethodSpec = (refl, refl)

size_of_GenericParamConstraint : Has 0x2C 4 8
unfolding tables
size_of_GenericParamConstraint = (refl, refl)

no_size_of_no_table : (map (row_size narrow) none ≡ map (λ _. 0) none) × (map (row_size wide) none ≡ map (λ _. 0) none)
unfolding tables
no_size_of_no_table = (refl, refl)

-- WIDE INDEXES: a kind of index, a table that it may name, and from how many rows of it on the index is wide

-- so many rows of one table
abbrev only : ℕ → ℕ → Counts
only table n = record { heap_sizes = 0; rows = zeros table ++ n ∷ zeros (63 - table) }

abbrev Widens : Column → ℕ → ℕ → Type 0
Widens column table rows = (column_size (only table (rows - 1)) column ≡ 2) × (column_size (only table rows) column ≡ 4)

-- a reader that widens indexes one row too late has two bytes at 65_536 rows
a_row_of_TypeDef : Widens (Row 0x02) 0x02 65_536
unfolding tables
a_row_of_TypeDef = (refl, refl)

a_list_of_MethodDef : Widens (Members 0x06) 0x06 65_536
unfolding tables
a_list_of_MethodDef = (refl, refl)

TypeDefOrRef_by_TypeDef : Widens (Coded TypeDefOrRef) 0x02 16_384
unfolding tables
TypeDefOrRef_by_TypeDef = (refl, refl)

TypeDefOrRef_by_TypeSpec : Widens (Coded TypeDefOrRef) 0x1B 16_384
unfolding tables
TypeDefOrRef_by_TypeSpec = (refl, refl)

HasConstant_by_Property : Widens (Coded HasConstant) 0x17 16_384
unfolding tables
HasConstant_by_Property = (refl, refl)

HasCustomAttribute_by_MethodDef : Widens (Coded HasCustomAttribute) 0x06 2_048
unfolding tables
HasCustomAttribute_by_MethodDef = (refl, refl)

HasCustomAttribute_by_MethodSpec : Widens (Coded HasCustomAttribute) 0x2B 2_048
unfolding tables
HasCustomAttribute_by_MethodSpec = (refl, refl)

HasFieldMarshal_by_Field : Widens (Coded HasFieldMarshal) 0x04 32_768
unfolding tables
HasFieldMarshal_by_Field = (refl, refl)

HasFieldMarshal_by_Param : Widens (Coded HasFieldMarshal) 0x08 32_768
unfolding tables
HasFieldMarshal_by_Param = (refl, refl)

HasDeclSecurity_by_Assembly : Widens (Coded HasDeclSecurity) 0x20 16_384
unfolding tables
HasDeclSecurity_by_Assembly = (refl, refl)

MemberRefParent_by_TypeDef : Widens (Coded MemberRefParent) 0x02 8_192
unfolding tables
MemberRefParent_by_TypeDef = (refl, refl)

MemberRefParent_by_TypeSpec : Widens (Coded MemberRefParent) 0x1B 8_192
unfolding tables
MemberRefParent_by_TypeSpec = (refl, refl)

HasSemantics_by_Event : Widens (Coded HasSemantics) 0x14 32_768
unfolding tables
HasSemantics_by_Event = (refl, refl)

HasSemantics_by_Property : Widens (Coded HasSemantics) 0x17 32_768
unfolding tables
HasSemantics_by_Property = (refl, refl)

MethodDefOrRef_by_MethodDef : Widens (Coded MethodDefOrRef) 0x06 32_768
unfolding tables
MethodDefOrRef_by_MethodDef = (refl, refl)

MethodDefOrRef_by_MemberRef : Widens (Coded MethodDefOrRef) 0x0A 32_768
unfolding tables
MethodDefOrRef_by_MemberRef = (refl, refl)

MemberForwarded_by_Field : Widens (Coded MemberForwarded) 0x04 32_768
unfolding tables
MemberForwarded_by_Field = (refl, refl)

Implementation_by_ExportedType : Widens (Coded Implementation) 0x27 16_384
unfolding tables
Implementation_by_ExportedType = (refl, refl)

CustomAttributeType_by_MethodDef : Widens (Coded CustomAttributeType) 0x06 8_192
unfolding tables
CustomAttributeType_by_MethodDef = (refl, refl)

CustomAttributeType_by_MemberRef : Widens (Coded CustomAttributeType) 0x0A 8_192
unfolding tables
CustomAttributeType_by_MemberRef = (refl, refl)

ResolutionScope_by_Module : Widens (Coded ResolutionScope) 0x00 16_384
unfolding tables
ResolutionScope_by_Module = (refl, refl)

ResolutionScope_by_TypeRef : Widens (Coded ResolutionScope) 0x01 16_384
unfolding tables
ResolutionScope_by_TypeRef = (refl, refl)

TypeOrMethodDef_by_TypeDef : Widens (Coded TypeOrMethodDef) 0x02 32_768
unfolding tables
TypeOrMethodDef_by_TypeDef = (refl, refl)

TypeOrMethodDef_by_MethodDef : Widens (Coded TypeOrMethodDef) 0x06 32_768
unfolding tables
TypeOrMethodDef_by_MethodDef = (refl, refl)

-- INDEXES THAT NAME NO ROW, where there are two types and a method

no_type : is_bad counts (Row 0x02) 0 ≡ false
no_type = refl

the_last_type : is_bad counts (Row 0x02) 2 ≡ false
the_last_type = refl

-- a reader that accepts one row more gives false
a_type_after_the_last : is_bad counts (Row 0x02) 3 ≡ true
a_type_after_the_last = refl

-- a reader that refuses lists after the last row gives true
a_list_after_the_last_method : is_bad counts (Members 0x06) 2 ≡ false
a_list_after_the_last_method = refl

a_list_further_after : is_bad counts (Members 0x06) 3 ≡ true
a_list_further_after = refl

a_method_by_its_low_bit : is_bad counts (Coded MethodDefOrRef) 0x02 ≡ false
a_method_by_its_low_bit = refl

a_reference_to_a_member_by_its_low_bit : is_bad counts (Coded MethodDefOrRef) 0x03 ≡ true
a_reference_to_a_member_by_its_low_bit = refl

-- a reader that exchanges the two tables gives Some 0x0A
low_bit_0_is_a_method : table_named MethodDefOrRef 0 ≡ Some 0x06
low_bit_0_is_a_method = refl

low_bit_1_is_a_reference : table_named MethodDefOrRef 1 ≡ Some 0x0A
low_bit_1_is_a_reference = refl
