-- What was read of a member decides what is asked of its row.
use Rattle.std.proofs.Common.{◌≡◌, ◌≢◌, ℕ, ◌-◌, Bool, true, false, List, Option, Some, get_or, refl, sym, subst, ap, ◌∙◌}
use Rattle.std.specs.Prelude.{◌==◌, ◌&&◌, ◌||◌, if◌then◌else◌, not, None}
use Rattle.px_tables.specs.Counts.{has_bit}
use Rattle.px_tables.specs.Metadata.{View}
use Rattle.px_meta.specs.Members.{IsField, IsMethod, owner_of}
use Rattle.px_meta.specs.Rows.{IsRow, fields, methods, some_row, type_defs}
use Rattle.px_meta.specs.Tokens.{AreRows, row_in, table_in}
use Rattle.px_meta.specs.declared.meta.MetaField.{MetaField}
use Rattle.px_meta.specs.declared.meta.MetaMethod.{MetaMethod}
use Rattle.px_meta.proofs.Alike.{item_of, owner_row}
use Rattle.px_link_types.proofs.Listed as listed
use Rattle.px_link_types.specs.Keys.{key_of}
use Rattle.px_link_types.specs.Numbers.{is_static_field}
use Rattle.px_link_types.specs.Parts.{is_kind}
use Rattle.px_link_tokens.specs.Named.{method_at, row_at}
use Rattle.px_link_tokens.specs.declared.operand.Operand.{Operand}
use Rattle.px_link_tokens.specs.Operands.{Way, Called, CalledVirtually, Made, has_initialiser, field_at, field_in, is_field, is_owned, is_run, is_there, is_void, may_be_called, method_by, method_in, read_form}
use Rattle.px_link_tokens.specs.declared.operand.Operand.TheVariants as operand
use Rattle.px_link_tokens.specs.Read.{fits_call, is_run_field, takes_call}

-- what was read of a row
pub item_at : {X : Type 0} (Is : View → ℕ → X → Type 0) (v meta tables : View) (table row : ℕ) (items : List X) (x : X) → tables ≡ meta → meta ≡ v → IsRow tables table row → AreRows Is meta table items → x ≡ get_or items (row - 1) x → Is v row x
item_at Is v meta tables table row items x one other is are e =
    subst (λ t. Is t row x) other (item_of Is meta table row items x are (subst (λ t. IsRow t table row) one is) e)

-- the same where it is read with something for what isn't there
pub read_at : {X : Type 0} (Is : View → ℕ → X → Type 0) (v meta tables : View) (table row : ℕ) (items : List X) (d : X) → tables ≡ meta → meta ≡ v → IsRow tables table row → AreRows Is meta table items → Is v row (get_or items (row - 1) d)
read_at Is v meta tables table row items d one other is are =
    subst (λ t. Is t row (get_or items (row - 1) d)) other (listed.item_at Is meta table row items d are (subst (λ t. IsRow t table row) one is))

pub field_owner : (v : View) (row : ℕ) (field : MetaField) → IsField v row field → field.owner ≢ 0 → IsRow v type_defs field.owner
field_owner v row field is some = owner_row v fields row field.owner (sym is.owner) some

and_in : (a b c d : Bool) → (a && (b && c) && d) ≡ (a && b && c && d)
and_in false b c d = refl
and_in true true c d = refl
and_in true false c d = refl

pub field_run : (v : View) (static : Bool) (row : ℕ) (field : MetaField) → IsField v row field → is_run_field v static field ≡ is_field v static row
field_run v static row field is =
    and_in (is_owned v (not static) field.owner) (is_kind static (has_bit field.flags 4)) (is_there (key_of v field.sig)) _
    ∙ ap (λ o. is_owned v (not static) o && is_kind static (has_bit field.flags 4) && is_there (key_of v field.sig) && (not static || not (has_initialiser v o))) is.owner
    ∙ ap (λ f. is_owned v (not static) (owner_of v fields row) && is_kind static (has_bit f 4) && is_there (key_of v field.sig) && (not static || not (has_initialiser v (owner_of v fields row)))) is.flags
    ∙ ap (λ s. is_owned v (not static) (owner_of v fields row) && is_kind static (is_static_field v row) && read_form v s && (not static || not (has_initialiser v (owner_of v fields row)))) (sym is.sig)

pub method_owner : (v : View) (row : ℕ) (method : MetaMethod) → IsMethod v row method → method.owner ≢ 0 → IsRow v type_defs method.owner
method_owner v row method is some = owner_row v methods row method.owner (sym is.owner) some

pub call_taken : (v : View) (way : Way) (row : ℕ) (method : MetaMethod) → IsMethod v row method → takes_call v way method ≡ may_be_called v way row method.sig
call_taken v Called row method is =
    ap (λ o. is_owned v method.sig.has_this o && not (method.rva == 0) && (method.sig.has_this || not (has_initialiser v o))) is.owner
    ∙ ap (λ r. is_owned v method.sig.has_this (owner_of v methods row) && not (r == 0) && (method.sig.has_this || not (has_initialiser v (owner_of v methods row)))) is.rva
call_taken v CalledVirtually row method is = ap (λ o. is_owned v true o && method.sig.has_this) is.owner
call_taken v Made row method is =
    ap (λ o. is_owned v true o && not (method.rva == 0) && method.sig.has_this && is_void method.sig.ret && not (has_initialiser v o)) is.owner
    ∙ ap (λ r. is_owned v true (owner_of v methods row) && not (r == 0) && method.sig.has_this && is_void method.sig.ret && not (has_initialiser v (owner_of v methods row))) is.rva

-- NAMED BY TOKENS

row_of : (v tables : View) (table at : ℕ) (row : Option ℕ) → tables ≡ v → row ≡ row_at tables table at → row ≡ row_at v table at
row_of v tables table at row same e = e ∙ ap (λ t. row_at t table at) same

by_row : (named : Option ℕ → Option Operand) (is : Bool) (row : Option ℕ) → named None ≡ None → named (if is then row else None) ≡ (if is then named row else None)
by_row named true row none = refl
by_row named false row none = none

pub field_named : (v : View) (static : Bool) (at : ℕ) → field_in v static (row_at v fields at) ≡ field_at v static at
field_named v static at = by_row (field_in v static) (table_in at == fields) (some_row v fields (row_in at)) refl

-- the field that a token names
pub field_told : (v tables : View) (static b : Bool) (at row : ℕ) (field : MetaField) → tables ≡ v → Some row ≡ row_at tables fields at → IsField v row field → is_run_field v static field ≡ b
    → (if b then Some (operand.Field row) else None) ≡ field_at v static at
field_told v tables static b at row field same e is told =
    ap (λ t. if t then Some (operand.Field row) else None) (sym told ∙ field_run v static row field is)
    ∙ ap (field_in v static) (row_of v tables fields at (Some row) same e) ∙ field_named v static at

-- the method that a token names
pub method_told : (v tables : View) (way : Way) (b : Bool) (at row : ℕ) (method : MetaMethod) → tables ≡ v → Some row ≡ row_at tables methods at → IsMethod v row method → fits_call v way method ≡ b
    → (if b then Some (operand.Method row) else None) ≡ method_at v way at
method_told v tables way b at row method same e is told =
    ap (λ t. if t then Some (operand.Method row) else None) (sym told ∙ ap (λ t. is_run v method.sig && t) (call_taken v way row method is))
    ∙ sym (ap (method_by v way row) is.sig)
    ∙ ap (method_in v way) (row_of v tables methods at (Some row) same e)
