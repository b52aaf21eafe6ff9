-- What is kept of resolved metadata.
use Rattle.std.specs.Prelude.{◌≡◌, ℕ, List, Option, Some}
use Rattle.px_sig.specs.declared.sig.MethodSig.{MethodSig}
use Rattle.px_sig.specs.declared.sig.SigType.{SigType}
use Rattle.px_tables.specs.Metadata.{View}
use Rattle.px_meta.specs.Chains.{HasEnd, base_in}
use Rattle.px_meta.specs.Impls.{IsDeclared}
use Rattle.px_meta.specs.Faults.{IsFaultless, IsWholeReference}
use Rattle.px_meta.specs.Members.{IsField, IsMethod, IsType, method_sig_at, type_sig_at}
use Rattle.px_meta.specs.Rows.{IsRow, cell, fields, member_refs, methods, type_defs, type_specs}
use Rattle.px_meta.specs.Tokens.{AreRows}
use Rattle.px_meta.specs.declared.meta.MetaField.{MetaField}
use Rattle.px_meta.specs.declared.meta.MetaMethod.{MetaMethod}
use Rattle.px_meta.specs.declared.meta.MetaType.{MetaType}

-- the signature of a reference to a method, and none of one to a field
pub record IsReference (v : View) (row : ℕ) (sig : Option MethodSig) : Type 0 where
  pub whole : IsWholeReference v row
  pub sig_is : sig ≡ method_sig_at v (cell v member_refs row 2)

abbrev pub IsSpec : View → ℕ → SigType → Type 0
IsSpec v row type = type_sig_at v (cell v type_specs row 0) ≡ Some type

-- the chain of bases of each type ends
abbrev pub AllEnd : View → Type 0
AllEnd v = (row : ℕ) → IsRow v type_defs row → HasEnd (base_in v) row

pub record IsResolved (v : View) (ts : List MetaType) (ms : List MetaMethod) (fs : List MetaField) (rs : List (Option MethodSig)) (ss : List SigType) (ds : List (Option ℕ)) : Type 0 where
  pub faultless : IsFaultless v
  pub ends : AllEnd v
  pub declared : AreRows IsDeclared v methods ds
  pub types : AreRows IsType v type_defs ts
  pub methods : AreRows IsMethod v methods ms
  pub fields : AreRows IsField v fields fs
  pub references : AreRows IsReference v member_refs rs
  pub specs : AreRows IsSpec v type_specs ss
