-- The tables of the metadata as data: their columns (Partition II, 22), and the coded indexes (Partition II, 24.2.6).
use Rattle.std.specs.Prelude.{ℕ, List, [], ◌∷◌, Option, Some, None, slice_index_or}
use Rattle.px_tables.specs.declared.column.CodedIndex.{CodedIndex}
use Rattle.px_tables.specs.declared.column.CodedIndex.TheVariants.{TypeDefOrRef, HasConstant, HasCustomAttribute, HasFieldMarshal, HasDeclSecurity, MemberRefParent, HasSemantics, MethodDefOrRef, MemberForwarded, Implementation, CustomAttributeType, ResolutionScope, TypeOrMethodDef}
use Rattle.px_tables.specs.declared.column.Column.{Column}
use Rattle.px_tables.specs.declared.column.Column.TheVariants.{U8, U16, U32, StringIndex, GuidIndex, BlobIndex, Row, Members, Coded}

-- the columns of each table by its number; a table without columns is none
abbrev pub columns : List (List Column)
columns =
    (U16 ∷ StringIndex ∷ GuidIndex ∷ GuidIndex ∷ GuidIndex ∷ [])  -- 00 Module
    ∷ (Coded ResolutionScope ∷ StringIndex ∷ StringIndex ∷ [])  -- 01 TypeRef
    ∷ (U32 ∷ StringIndex ∷ StringIndex ∷ Coded TypeDefOrRef ∷ Members 0x04 ∷ Members 0x06 ∷ [])  -- 02 TypeDef
    ∷ []
    ∷ (U16 ∷ StringIndex ∷ BlobIndex ∷ [])  -- 04 Field
    ∷ []
    ∷ (U32 ∷ U16 ∷ U16 ∷ StringIndex ∷ BlobIndex ∷ Members 0x08 ∷ [])  -- 06 MethodDef
    ∷ []
    ∷ (U16 ∷ U16 ∷ StringIndex ∷ [])  -- 08 Param
    ∷ (Row 0x02 ∷ Coded TypeDefOrRef ∷ [])  -- 09 InterfaceImpl
    ∷ (Coded MemberRefParent ∷ StringIndex ∷ BlobIndex ∷ [])  -- 0A MemberRef
    ∷ (U8 ∷ U8 ∷ Coded HasConstant ∷ BlobIndex ∷ [])  -- 0B Constant
    ∷ (Coded HasCustomAttribute ∷ Coded CustomAttributeType ∷ BlobIndex ∷ [])  -- 0C CustomAttribute
    ∷ (Coded HasFieldMarshal ∷ BlobIndex ∷ [])  -- 0D FieldMarshal
    ∷ (U16 ∷ Coded HasDeclSecurity ∷ BlobIndex ∷ [])  -- 0E DeclSecurity
    ∷ (U16 ∷ U32 ∷ Row 0x02 ∷ [])  -- 0F ClassLayout
    ∷ (U32 ∷ Row 0x04 ∷ [])  -- 10 FieldLayout
    ∷ (BlobIndex ∷ [])  -- 11 StandAloneSig
    ∷ (Row 0x02 ∷ Members 0x14 ∷ [])  -- 12 EventMap
    ∷ []
    ∷ (U16 ∷ StringIndex ∷ Coded TypeDefOrRef ∷ [])  -- 14 Event
    ∷ (Row 0x02 ∷ Members 0x17 ∷ [])  -- 15 PropertyMap
    ∷ []
    ∷ (U16 ∷ StringIndex ∷ BlobIndex ∷ [])  -- 17 Property
    ∷ (U16 ∷ Row 0x06 ∷ Coded HasSemantics ∷ [])  -- 18 MethodSemantics
    ∷ (Row 0x02 ∷ Coded MethodDefOrRef ∷ Coded MethodDefOrRef ∷ [])  -- 19 MethodImpl
    ∷ (StringIndex ∷ [])  -- 1A ModuleRef
    ∷ (BlobIndex ∷ [])  -- 1B TypeSpec
    ∷ (U16 ∷ Coded MemberForwarded ∷ StringIndex ∷ Row 0x1A ∷ [])  -- 1C ImplMap
    ∷ (U32 ∷ Row 0x04 ∷ [])  -- 1D FieldRVA
    ∷ []
    ∷ []
    ∷ (U32 ∷ U16 ∷ U16 ∷ U16 ∷ U16 ∷ U32 ∷ BlobIndex ∷ StringIndex ∷ StringIndex ∷ [])  -- 20 Assembly
    ∷ (U32 ∷ [])  -- 21 AssemblyProcessor
    ∷ (U32 ∷ U32 ∷ U32 ∷ [])  -- 22 AssemblyOS
    ∷ (U16 ∷ U16 ∷ U16 ∷ U16 ∷ U32 ∷ BlobIndex ∷ StringIndex ∷ StringIndex ∷ BlobIndex ∷ [])  -- 23 AssemblyRef
    ∷ (U32 ∷ Row 0x23 ∷ [])  -- 24 AssemblyRefProcessor
    ∷ (U32 ∷ U32 ∷ U32 ∷ Row 0x23 ∷ [])  -- 25 AssemblyRefOS
    ∷ (U32 ∷ StringIndex ∷ BlobIndex ∷ [])  -- 26 File
    ∷ (U32 ∷ U32 ∷ StringIndex ∷ StringIndex ∷ Coded Implementation ∷ [])  -- 27 ExportedType
    ∷ (U32 ∷ U32 ∷ StringIndex ∷ Coded Implementation ∷ [])  -- 28 ManifestResource
    ∷ (Row 0x02 ∷ Row 0x02 ∷ [])  -- 29 NestedClass
    ∷ (U16 ∷ U16 ∷ Coded TypeOrMethodDef ∷ StringIndex ∷ [])  -- 2A GenericParam
    ∷ (Coded MethodDefOrRef ∷ BlobIndex ∷ [])  -- 2B MethodSpec
    ∷ (Row 0x2A ∷ Coded TypeDefOrRef ∷ [])  -- 2C GenericParamConstraint
    ∷ []

abbrev pub columns_of : ℕ → List Column
columns_of table = slice_index_or columns table []

-- how many low bits of a coded index say of which table the row is
abbrev pub tag_bits : CodedIndex → ℕ
tag_bits TypeDefOrRef = 2
tag_bits HasConstant = 2
tag_bits HasCustomAttribute = 5
tag_bits HasFieldMarshal = 1
tag_bits HasDeclSecurity = 2
tag_bits MemberRefParent = 3
tag_bits HasSemantics = 1
tag_bits MethodDefOrRef = 1
tag_bits MemberForwarded = 1
tag_bits Implementation = 2
tag_bits CustomAttributeType = 3
tag_bits ResolutionScope = 2
tag_bits TypeOrMethodDef = 1

-- the tables that a coded index may name, by the number in these bits; some numbers name none
abbrev pub tables_named : CodedIndex → List (Option ℕ)
tables_named TypeDefOrRef = Some 0x02 ∷ Some 0x01 ∷ Some 0x1B ∷ []
tables_named HasConstant = Some 0x04 ∷ Some 0x08 ∷ Some 0x17 ∷ []
tables_named HasCustomAttribute =
    Some 0x06 ∷ Some 0x04 ∷ Some 0x01 ∷ Some 0x02 ∷ Some 0x08 ∷ Some 0x09 ∷ Some 0x0A ∷ Some 0x00 ∷ Some 0x0E ∷ Some 0x17 ∷ Some 0x14
    ∷ Some 0x11 ∷ Some 0x1A ∷ Some 0x1B ∷ Some 0x20 ∷ Some 0x23 ∷ Some 0x26 ∷ Some 0x27 ∷ Some 0x28 ∷ Some 0x2A ∷ Some 0x2C ∷ Some 0x2B ∷ []
tables_named HasFieldMarshal = Some 0x04 ∷ Some 0x08 ∷ []
tables_named HasDeclSecurity = Some 0x02 ∷ Some 0x06 ∷ Some 0x20 ∷ []
tables_named MemberRefParent = Some 0x02 ∷ Some 0x01 ∷ Some 0x1A ∷ Some 0x06 ∷ Some 0x1B ∷ []
tables_named HasSemantics = Some 0x14 ∷ Some 0x17 ∷ []
tables_named MethodDefOrRef = Some 0x06 ∷ Some 0x0A ∷ []
tables_named MemberForwarded = Some 0x04 ∷ Some 0x06 ∷ []
tables_named Implementation = Some 0x26 ∷ Some 0x23 ∷ Some 0x27 ∷ []
tables_named CustomAttributeType = None ∷ None ∷ Some 0x06 ∷ Some 0x0A ∷ []
tables_named ResolutionScope = Some 0x00 ∷ Some 0x1A ∷ Some 0x23 ∷ Some 0x01 ∷ []
tables_named TypeOrMethodDef = Some 0x02 ∷ Some 0x06 ∷ []

-- the table that a number in the low bits names
abbrev pub table_named : CodedIndex → ℕ → Option ℕ
table_named index tag = slice_index_or (tables_named index) tag None
