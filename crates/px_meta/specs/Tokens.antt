-- What a token names (Partition II, 22).
use Rattle.std.specs.Prelude.{◌≡◌, ◌≢◌, ◌⊎◌, ℕ, ◌+◌, ◌/◌, ◌%◌, ◌^◌, ◌==◌, if◌then◌else◌, List, Some, None, MatchOption, slice_get, length}
use Rattle.px_blobs.specs.Items.{IsStringAt}
use Rattle.px_sig.specs.declared.sig.SigType.{SigType}
use Rattle.px_tables.specs.Metadata.{View}
use Rattle.px_meta.specs.Members.{method_sig_at, owner_of, type_sig_at}
use Rattle.px_meta.specs.Overriding.{Overrides}
use Rattle.px_meta.specs.Rows.{IsRow, cell, count_of, fields, member_refs, methods, token, type_defs, type_refs, type_specs}
use Rattle.px_meta.specs.declared.meta.Member.{Member}
use Rattle.px_meta.specs.declared.meta.Member.TheVariants.{Method, Field, External}

abbrev pub table_in : ℕ → ℕ
table_in at = at / 2 ^ 24

abbrev pub row_in : ℕ → ℕ
row_in at = at % 2 ^ 24

-- the token names a row of the table
abbrev pub Names : View → ℕ → ℕ → Type 0
Names v table at = (table_in at ≡ table) × IsRow v table (row_in at)

-- the items are those of a table's rows, in order
pub record AreRows {X : Type 0} (Is : View → ℕ → X → Type 0) (v : View) (table : ℕ) (items : List X) : Type 0 where
  pub count : length items ≡ count_of v table
  pub each : (n : ℕ) (item : X) → slice_get items n ≡ Some item → Is v (n + 1) item

-- the token is that of a TypeDef or TypeRef
abbrev pub NamesType : View → ℕ → Type 0
NamesType v at = Names v type_defs at ⊎ Names v type_refs at

-- a type by its name and namespace, which stand in columns 1 and 2 of the rows of TypeDef and of TypeRef
pub record IsTypeName (v : View) (at : ℕ) (namespace name : List ℕ) : Type 0 where
  pub names : NamesType v at
  pub namespace_is : IsStringAt v.strings (cell v (table_in at) (row_in at) 2) namespace
  pub name_is : IsStringAt v.strings (cell v (table_in at) (row_in at) 1) name

-- the type that a TypeSpec spells
pub record IsTypeSpec (v : View) (at : ℕ) (type : SigType) : Type 0 where
  pub names : Names v type_specs at
  pub type_is : type_sig_at v (cell v type_specs (row_in at) 0) ≡ Some type

-- the parent of a reference to a member
abbrev pub parent_table : ℕ → ℕ
parent_table tag = if tag == 0 then type_defs else if tag == 1 then type_refs else if tag == 2 then 0x1A else if tag == 3 then methods else type_specs

abbrev pub parent_by : ℕ → ℕ
parent_by index = token (parent_table (index % 8)) (index / 8)

abbrev pub parent_of : View → ℕ → ℕ
parent_of v row = parent_by (cell v member_refs row 0)

-- what a token of a member names: a method or field that some type has, or a reference
abbrev pub IsMember : View → ℕ → Member → Type 0
IsMember v at (Method row) = Names v methods at × (row ≡ row_in at) × (owner_of v methods row ≢ 0)
IsMember v at (Field row) = Names v fields at × (row ≡ row_in at) × (owner_of v fields row ≢ 0)
IsMember v at (External owner name sig) =
    Names v member_refs at × (owner ≡ parent_of v (row_in at)) × IsStringAt v.strings (cell v member_refs (row_in at) 1) name.now
    × MatchOption sig (method_sig_at v (cell v member_refs (row_in at) 2) ≡ None) (λ s. method_sig_at v (cell v member_refs (row_in at) 2) ≡ Some s.now)

-- the token is that of a member
abbrev pub NamesMember : View → ℕ → Type 0
NamesMember v at =
    (Names v methods at × (owner_of v methods (row_in at) ≢ 0)) ⊎ (Names v fields at × (owner_of v fields (row_in at) ≢ 0)) ⊎ Names v member_refs at

-- the token of the method that a token's method overrides
pub record IsOverridden (v : View) (at other : ℕ) : Type 0 where
  pub names : Names v methods at
  pub row : ℕ
  pub overrides : Overrides v (row_in at) row
  pub other_is : other ≡ token methods row
