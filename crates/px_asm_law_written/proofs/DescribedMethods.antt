-- The methods of the assembly, by their rows.
use Rattle.std.proofs.Common.{◌≡◌, ℕ, ◌+◌, ◌++◌, Some, sym, ap, ◌∙◌, subst}
use Rattle.std.specs.Prelude.{codes, slice_get, slice_index}
use Rattle.std.proofs.lemmas.Option.{same_Some}
use Rattle.px_asm_law_written.proofs.DescribedBodies.{code_described}
use Rattle.px_asm_law_written.proofs.DescribedMembers.{method_owned}
use Rattle.px_asm_law_written.proofs.DescribedView.{Put, cell_written, image, rows_at, sig_written, store, text_read, view}
use Rattle.px_asm_law_written.specs.Holds.{IsAddress, IsMethodDef}
use Rattle.px_link_methods.proofs.RowPlaces.{beside}
use Rattle.px_meta.specs.Members.{flags_in}
use Rattle.px_meta.specs.Rows.{cell, methods}
use Rattle.px_program.specs.declared.program.Method.{Method}
use Rattle.px_program.specs.declared.program.Slot.{Slot}
use Rattle.px_asm_described.specs.Describes.{IsMethodRow, IsSlotRow, method_row}
use Rattle.px_sig.specs.Grammar.{method_sig}
use Rattle.px_tables.specs.Counts.{has_bit}
use Rattle.px_tables.specs.declared.tables.Row.{Row}

-- the row of a number of the layout
pub record HasMethodRow (a : Put) (i number : ℕ) : Type 0 where
  pub row : Row
  pub there : slice_get (rows_at a 0x06) i ≡ Some row
  pub is : IsMethodDef a.p (store a) a.bodies number row

method_put : (a : Put) (i number : ℕ) → slice_get a.p.layout.methods i ≡ Some number → HasMethodRow a i number
method_put a i number at =
    let found = beside (IsMethodDef a.p (store a) a.bodies) a.p.layout.methods (rows_at a 0x06) a.written.holds.methods i number at in
    record { row = found.0; there = found.1.0; is = found.1.1 }

own_described : (a : Put) (i number : ℕ) → slice_get a.p.layout.methods i ≡ Some number → (has : HasMethodRow a i number) → IsMethodRow a.p (view a) (image a) (i + 1) has.is.method
own_described a i number at has =
    let cells = λ (k : ℕ). cell_written a 0x06 i k has.row has.there in
    let method = has.is.method in
    record {
      owner = method_owned a i number method at has.is.at;
      name = record {
        owner = has.is.owner;
        at = has.is.owner_at;
        is = has.is.full ∙ ap (λ text. has.is.owner.name ++ codes "::" ++ text) (sym (text_read a (slice_index has.row.cells 3) (cell (view a) methods (i + 1) 3) has.is.own (cells 3) has.is.name));
      };
      sig = has.is.sig;
      has_sig = sig_written a method_sig (slice_index has.row.cells 4) (cell (view a) methods (i + 1) 4) has.is.sig (cells 4) has.is.has_sig;
      sig_is = has.is.sig_is;
      code = code_described a i number method at has.is.at method.code (subst (IsAddress a.p (store a) a.bodies (method_row a.p number) method method.code) (sym (cells 0)) has.is.address);
    }

pub method_described : (a : Put) (i number : ℕ) (method : Method) → slice_get a.p.layout.methods i ≡ Some number → slice_get a.p.methods number ≡ Some method → IsMethodRow a.p (view a) (image a) (i + 1) method
method_described a i number method at is =
    let has = method_put a i number at in
    subst (IsMethodRow a.p (view a) (image a) (i + 1)) (same_Some has.is.method method (sym has.is.at ∙ is)) (own_described a i number at has)

pub slot_described : (a : Put) (i number : ℕ) (slot : Slot) → slice_get a.p.layout.methods i ≡ Some number → slice_get a.p.layout.slots number ≡ Some slot → IsSlotRow (view a) (i + 1) slot
slot_described a i number slot at is =
    let has = method_put a i number at in
    let flags = cell_written a 0x06 i 2 has.row has.there in
    let same = ap (λ (s : Slot). s.is_virtual) (same_Some has.is.slot slot (sym has.is.slot_at ∙ is)) in
    record {
      virtual_is = ap (λ c. has_bit (flags_in c) 6) flags ∙ has.is.virtual ∙ same;
      new_slot = λ virtual. ap (λ c. has_bit (flags_in c) 8) flags ∙ has.is.new_slot ∙ same ∙ virtual;
    }
