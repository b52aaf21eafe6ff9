-- The rows of methods.
use Rattle.std.proofs.Common.{◌≡◌, ℕ, ◌<◌, ◌^◌, ◌%◌, List, [], ◌∷◌, ◌++◌, length, get_or, Some, refl, ap, subst, arith}
use Rattle.std.specs.Prelude.{codes, slice_get}
use Rattle.std.proofs.lemmas.Option.{slice_get-get_or, slice_get_read}
use Rattle.px_asm_heaps.specs.Heaps.{HasString}
use Rattle.px_program.specs.declared.program.Method.{Method}
use Rattle.px_program.specs.declared.program.Program.{Program}
use Rattle.px_program.specs.declared.program.Slot.{Slot}
use Rattle.px_program.specs.declared.program.TypeInfo.{TypeInfo}
use Rattle.px_asm_described.specs.Describes.{IsSigOf}
use Rattle.px_asm_described.specs.Writable.{HasOwner, IsWritable}
use Rattle.px_sig.specs.Grammar.{method_sig}
use Rattle.px_sig.specs.declared.sig.MethodSig.{MethodSig}
use Rattle.px_tables.specs.Counts.{has_bit}
use Rattle.px_asm_store.proofs.StoreStays.{sig_stays, string_stays}
use Rattle.px_asm_law_written.specs.Store.{HasSig, Store, StoreGrows}
use Rattle.px_asm_rows.specs.Tables.{IsMethodRow}
use Rattle.px_asm_rows.proofs.TableFacts.{each_got}

pub table_method_made : (p : Program) → IsWritable p → (mid new : Store) → StoreGrows mid new → (number address flags name sig_at : ℕ) (methods : List Method) (slots : List Slot) (method : Method) (d : Slot) (own : List ℕ) (sig : MethodSig) → methods ≡ p.methods → slots ≡ p.layout.slots → number < length p.methods → method ≡ get_or methods number method → has_bit (flags % 2 ^ 16) 6 ≡ (get_or slots number d).is_virtual → has_bit (flags % 2 ^ 16) 8 ≡ (get_or slots number d).is_virtual → HasString mid.strings name own → ((owner : TypeInfo) → slice_get p.types method.owner ≡ Some owner → method.name ≡ owner.name ++ codes "::" ++ own) → HasSig method_sig new.blob sig_at sig → ((m : Method) → slice_get p.methods number ≡ Some m → IsSigOf p m sig) → IsMethodRow p new number address (record { cells = address ∷ 0 ∷ flags ∷ name ∷ sig_at ∷ 1 ∷ 0 ∷ 0 ∷ 0 ∷ [] })
table_method_made p w mid new g number address flags name sig_at methods slots method d own sig methods_are slots_are less is sixth eighth stands full sig_stands sig_is =
    let got : slice_get p.methods number ≡ Some method = subst (λ (l : List Method). slice_get l number ≡ Some method) methods_are (slice_get_read methods (length methods) number method refl (omega (arith, ap length methods_are)) is) in
    let slot_got : slice_get p.layout.slots number ≡ Some (get_or slots number d) = subst (λ (l : List Slot). slice_get l number ≡ Some (get_or slots number d)) slots_are (slice_get-get_or slots number d (omega (arith, ap length slots_are, w.slots_count))) in
    let owned = each_got (HasOwner p) p.methods number method w.owners got in
    record {
      is = λ s bodies has more. record {
        method = method;
        at = got;
        slot = get_or slots number d;
        slot_at = slot_got;
        address = has.is method got;
        virtual = sixth;
        new_slot = eighth;
        owner = owned.owner;
        owner_at = owned.at;
        own = own;
        name = string_stays new.strings s.strings more.strings name own (string_stays mid.strings new.strings g.strings name own stands);
        full = full owned.owner owned.at;
        sig = sig;
        has_sig = sig_stays method_sig new.blob s.blob more.blob sig_at sig sig_stands;
        sig_is = sig_is method got;
      };
    }
