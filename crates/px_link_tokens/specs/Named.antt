-- What tokens name, table by table, and the parts of what is asked of it.
use Rattle.std.specs.Prelude.{ℕ, ◌==◌, Bool, if◌then◌else◌, List, [], ◌∷◌, codes, Option, Some, None}
use Rattle.std.specs.List.{list_all}
use Rattle.std.specs.Str.{bytes_eq}
use Rattle.px_meta.specs.Members.{method_sig_at}
use Rattle.px_meta.specs.Rows.{cell, member_refs, methods, some_row, type_specs}
use Rattle.px_meta.specs.Tokens.{row_in, table_in}
use Rattle.px_sig.specs.declared.sig.Integer.{Integer}
use Rattle.px_sig.specs.declared.sig.Integer.TheVariants as integers
use Rattle.px_sig.specs.declared.sig.MethodSig.{MethodSig}
use Rattle.px_sig.specs.declared.sig.SigType.{SigType}
use Rattle.px_tables.specs.Metadata.{View}
use Rattle.px_link_types.specs.Keys.{key_of}
use Rattle.px_link_types.specs.declared.key.Key.{Key}
use Rattle.px_link_tokens.specs.Operands as operands
use Rattle.px_link_tokens.specs.Operands.{Way, is_there, library_by, method_in, spec_in}
use Rattle.px_link_tokens.specs.declared.methods.Way.{Way as Manner}
use Rattle.px_link_tokens.specs.declared.methods.Way.TheVariants as manners
use Rattle.px_link_tokens.specs.declared.operand.Operand.{Operand}

-- the row that a token names, where it names one of the table
abbrev pub row_at : View → ℕ → ℕ → Option ℕ
row_at v table at = if table_in at == table then some_row v table (row_in at) else None

-- what the TypeSpec that a token names spells
abbrev pub spec_at : View → ℕ → Option Key
spec_at v at = spec_in v (row_at v type_specs at)

abbrev pub method_at : View → Way → ℕ → Option Operand
method_at v way at = method_in v way (row_at v methods at)

abbrev pub reference_at : View → Bool → ℕ → Option Operand
reference_at v made at = operands.reference_in v made (row_at v member_refs at)

abbrev pub sig_in : View → Option ℕ → Option MethodSig
sig_in v None = None
sig_in v (Some row) = method_sig_at v (cell v member_refs row 2)

-- the signature of the reference to a method that a token names
abbrev pub reference_sig : View → ℕ → Option MethodSig
reference_sig v at = sig_in v (row_at v member_refs at)

abbrev pub way_of : Manner → Way
way_of manners.Called = operands.Called
way_of manners.CalledVirtually = operands.CalledVirtually
way_of manners.Made = operands.Made

abbrev pub are_forms : View → List SigType → Bool
are_forms v types = list_all (λ type. is_there (key_of v type)) types

-- the names of integers
unfoldable pub integer_names : List (List ℕ × Integer)
integer_names =
    (codes "Boolean", integers.Bool)
    ∷ (codes "Char", integers.Char)
    ∷ (codes "SByte", integers.I1)
    ∷ (codes "Byte", integers.U1)
    ∷ (codes "Int16", integers.I2)
    ∷ (codes "UInt16", integers.U2)
    ∷ (codes "Int32", integers.I4)
    ∷ (codes "UInt32", integers.U4)
    ∷ (codes "Int64", integers.I8)
    ∷ (codes "UInt64", integers.U8)
    ∷ (codes "IntPtr", integers.N)
    ∷ (codes "UIntPtr", integers.UN)
    ∷ []

-- the integer by the first name of a list that is this one
unfoldable pub integer_from : List (List ℕ × Integer) → List ℕ → Option Integer
integer_from [] name = None
integer_from (entry ∷ entries) name = if bytes_eq name entry.0 then Some entry.1 else integer_from entries name
