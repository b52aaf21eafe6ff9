-- What the parts of the reader promise each other.
use Rattle.std.specs.Prelude.{◌≡◌, ℕ, ◌<◌}
use Rattle.px_tables.specs.Metadata.{View}
use Rattle.px_meta.specs.Faults.{HasFault, order_of}
use Rattle.px_meta.specs.Rows.{token}
use Rattle.px_meta.specs.declared.fault.MetaFault.{MetaFault}
use Rattle.px_meta.specs.declared.fault.MetaFault.TheVariants as faults
use Rattle.px_meta.specs.declared.fault.MetaKind.{MetaKind}

-- a row has no fault
abbrev pub IsSound : View → ℕ → ℕ → Type 0
IsSound v table row = (kind : MetaKind) → HasFault v kind table row → ⊥

-- the first fault of a row
pub record IsFaultOf (v : View) (table row : ℕ) (kind : MetaKind) (at : ℕ) : Type 0 where
  pub at_is : at ≡ token table row
  pub fault : HasFault v kind table row
  pub first : (k : MetaKind) → order_of k < order_of kind → HasFault v k table row → ⊥

abbrev pub BlamesRow : View → ℕ → ℕ → MetaFault → Type 0
BlamesRow v table row faults.Memory = Unit {0}
BlamesRow v table row (faults.Bad kind at) = IsFaultOf v table row kind at

-- the first fault of a table
pub record IsFirstIn (v : View) (table : ℕ) (kind : MetaKind) (at : ℕ) : Type 0 where
  pub row : ℕ
  pub fault : IsFaultOf v table row kind at
  pub before : (r : ℕ) → r < row → IsSound v table r

abbrev pub BlamesTable : View → ℕ → MetaFault → Type 0
BlamesTable v table faults.Memory = Unit {0}
BlamesTable v table (faults.Bad kind at) = IsFirstIn v table kind at
