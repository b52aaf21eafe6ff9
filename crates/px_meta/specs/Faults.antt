-- What may be wrong with the rows, and which fault is the first.
use Rattle.std.specs.Prelude.{◌≡◌, ℕ, ◌<◌, ◌≤◌, ◌⊎◌, IsSome}
use Rattle.px_tables.specs.Metadata.{View}
use Rattle.px_meta.specs.Chains.{HasEnd, base_in, outer_of}
use Rattle.px_meta.specs.Members.{field_sig_at, list_end, list_start, method_sig_at, type_sig_at}
use Rattle.px_meta.specs.Rows.{IsReadable, IsRow, cell, fields, member_refs, methods, token, type_defs, type_refs, type_specs}
use Rattle.px_meta.specs.declared.fault.MetaFault.{MetaFault}
use Rattle.px_meta.specs.declared.fault.MetaFault.TheVariants as faults
use Rattle.px_meta.specs.declared.fault.MetaKind.{MetaKind}
use Rattle.px_meta.specs.declared.fault.MetaKind.TheVariants.{BadList, BadToken, CycleOfBases}

-- the lists of a type's fields and methods don't begin behind their ends
pub record HasLists (v : View) (row : ℕ) : Type 0 where
  pub fields : list_start v fields row ≤ list_end v fields row
  pub methods : list_start v methods row ≤ list_end v methods row

-- the names and signatures of a row can be read: the name and the namespace of a TypeRef or TypeDef
pub record HasNames (v : View) (table row : ℕ) : Type 0 where
  pub name : IsReadable v (cell v table row 1)
  pub namespace : IsReadable v (cell v table row 2)

pub record IsWholeField (v : View) (row : ℕ) : Type 0 where
  pub name : IsReadable v (cell v fields row 1)
  pub sig : IsSome (field_sig_at v (cell v fields row 2))

pub record IsWholeMethod (v : View) (row : ℕ) : Type 0 where
  pub name : IsReadable v (cell v methods row 3)
  pub sig : IsSome (method_sig_at v (cell v methods row 4))

-- a reference to a member, which is a method or a field
pub record IsWholeReference (v : View) (row : ℕ) : Type 0 where
  pub name : IsReadable v (cell v member_refs row 1)
  pub sig : IsSome (method_sig_at v (cell v member_refs row 2)) ⊎ IsSome (field_sig_at v (cell v member_refs row 2))

-- a fault of a row, by its kind, table and row
pub data HasFault (v : View) : MetaKind → ℕ → ℕ → Type 0 where
  Lists : (row : ℕ) → IsRow v type_defs row → (HasLists v row → ⊥) → HasFault v BadList type_defs row
  TypeRef : (row : ℕ) → IsRow v type_refs row → (HasNames v type_refs row → ⊥) → HasFault v BadToken type_refs row
  TypeDef : (row : ℕ) → IsRow v type_defs row → (HasNames v type_defs row → ⊥) → HasFault v BadToken type_defs row
  Field : (row : ℕ) → IsRow v fields row → (IsWholeField v row → ⊥) → HasFault v BadToken fields row
  Method : (row : ℕ) → IsRow v methods row → (IsWholeMethod v row → ⊥) → HasFault v BadToken methods row
  MemberRef : (row : ℕ) → IsRow v member_refs row → (IsWholeReference v row → ⊥) → HasFault v BadToken member_refs row
  TypeSpec : (row : ℕ) → IsRow v type_specs row → (IsSome (type_sig_at v (cell v type_specs row 0)) → ⊥) → HasFault v BadToken type_specs row
  Bases : (row : ℕ) → IsRow v type_defs row → (HasEnd (base_in v) row → ⊥) → HasFault v CycleOfBases type_defs row
  Outers : (row : ℕ) → IsRow v type_defs row → (HasEnd (outer_of v) row → ⊥) → HasFault v CycleOfBases type_defs row

abbrev pub order_of : MetaKind → ℕ
order_of BadList = 0
order_of BadToken = 1
order_of CycleOfBases = 2

-- by table, then by row, then in the order of the kinds
abbrev pub IsBefore : MetaKind → ℕ → ℕ → MetaKind → ℕ → ℕ → Type 0
IsBefore k t r kind table row =
    (t < table) ⊎ ((t ≡ table) × (r < row)) ⊎ ((t ≡ table) × (r ≡ row) × (order_of k < order_of kind))

-- no row has a fault
abbrev pub IsFaultless : View → Type 0
IsFaultless v = (kind : MetaKind) (table row : ℕ) → HasFault v kind table row → ⊥

-- the fault of a row that comes before all others
pub record IsFirstFault (v : View) (kind : MetaKind) (at : ℕ) : Type 0 where
  pub table : ℕ
  pub row : ℕ
  pub at_is : at ≡ token table row
  pub fault : HasFault v kind table row
  pub first : (k : MetaKind) (t r : ℕ) → IsBefore k t r kind table row → HasFault v k t r → ⊥

abbrev pub Blames : View → MetaFault → Type 0
Blames v faults.Memory = Unit {0}
Blames v (faults.Bad kind at) = IsFirstFault v kind at
