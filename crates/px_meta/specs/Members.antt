-- Types, fields and methods, as their rows have them.
use Rattle.std.specs.Prelude.{◌≡◌, ℕ, ◌+◌, ◌%◌, ◌^◌, ◌==◌, ◌&&◌, nat_le, nat_lt, Bool, if◌then◌else◌, List, Option, Some, None, Result, Ok, Err, find}
use Rattle.std.specs.Option.{unwrap_or}
use Rattle.px_blobs.specs.Items.{IsStringAt, blob_at}
use Rattle.px_sig.specs.declared.sig.MethodSig.{MethodSig}
use Rattle.px_sig.specs.declared.sig.SigType.{SigType}
use Rattle.px_sig.specs.Grammar.{field_sig, method_sig, type_sig}
use Rattle.px_tables.specs.Metadata.{View}
use Rattle.px_meta.specs.Chains.{outer_of}
use Rattle.px_meta.specs.Rows.{cell, coded_token, count_of, fields, methods, rows_in, type_def_or_ref, type_defs}
use Rattle.px_meta.specs.declared.meta.MetaField.{MetaField}
use Rattle.px_meta.specs.declared.meta.MetaMethod.{MetaMethod}
use Rattle.px_meta.specs.declared.meta.MetaType.{MetaType}

-- where the lists of members begin: that of fields in column 4, and that of methods in column 5 of a type's row
abbrev pub list_column : ℕ → ℕ
list_column table = if table == fields then 4 else 5

abbrev pub list_start : View → ℕ → ℕ → ℕ
list_start v table row = cell v type_defs row (list_column table)

-- a list ends where that of the next type begins, and the last one behind the table's last row
abbrev pub list_end : View → ℕ → ℕ → ℕ
list_end v table row = if row == count_of v type_defs then count_of v table + 1 else list_start v table (row + 1)

abbrev pub is_listed : View → ℕ → ℕ → ℕ → Bool
is_listed v table member row = nat_le (list_start v table row) member && nat_lt member (list_end v table row)

-- the type whose list has a member, and 0 where none has
abbrev pub owner_of : View → ℕ → ℕ → ℕ
owner_of v table member = unwrap_or (find (is_listed v table member) (rows_in v type_defs)) 0

abbrev pub if_ok : {X : Type 0} → Result X ℕ → Option X
if_ok (Ok x) = Some x
if_ok (Err at) = None

-- what a reading makes of a blob, where there is one that it accepts
abbrev pub read_of : {X : Type 0} → (List ℕ → Result X ℕ) → Option (List ℕ) → Option X
read_of read None = None
read_of read (Some blob) = if_ok (read blob)

abbrev pub method_sig_at : View → ℕ → Option MethodSig
method_sig_at v at = read_of method_sig (blob_at v.blob at)

abbrev pub field_sig_at : View → ℕ → Option SigType
field_sig_at v at = read_of field_sig (blob_at v.blob at)

abbrev pub type_sig_at : View → ℕ → Option SigType
type_sig_at v at = read_of type_sig (blob_at v.blob at)

-- the flags of a member, in a column of two bytes
abbrev pub flags_in : ℕ → ℕ
flags_in number = number % 2 ^ 16

pub record IsType (v : View) (row : ℕ) (t : MetaType) : Type 0 where
  pub flags : t.flags ≡ cell v type_defs row 0
  pub name : IsStringAt v.strings (cell v type_defs row 1) t.name.now
  pub namespace : IsStringAt v.strings (cell v type_defs row 2) t.namespace.now
  pub base : t.base ≡ coded_token type_def_or_ref 2 (cell v type_defs row 3)
  pub first_field : t.first_field ≡ cell v type_defs row 4
  pub first_method : t.first_method ≡ cell v type_defs row 5
  pub outer : t.outer ≡ outer_of v row

pub record IsMethod (v : View) (row : ℕ) (m : MetaMethod) : Type 0 where
  pub owner : m.owner ≡ owner_of v methods row
  pub rva : m.rva ≡ cell v methods row 0
  pub flags : m.flags ≡ flags_in (cell v methods row 2)
  pub name : IsStringAt v.strings (cell v methods row 3) m.name.now
  pub sig : method_sig_at v (cell v methods row 4) ≡ Some m.sig

pub record IsField (v : View) (row : ℕ) (f : MetaField) : Type 0 where
  pub owner : f.owner ≡ owner_of v fields row
  pub flags : f.flags ≡ flags_in (cell v fields row 0)
  pub name : IsStringAt v.strings (cell v fields row 1) f.name.now
  pub sig : field_sig_at v (cell v fields row 2) ≡ Some f.sig
