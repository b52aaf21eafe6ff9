use Rattle.std.proofs.Common.{ap, ◌∙◌, subst}
use Rattle.std.specs.Prelude.{Ok, codes}
use Rattle.px_asm_heaps.specs.Heaps.{HasBlob, HasString}
use Rattle.px_sig.specs.Grammar.{method_sig}
use Rattle.px_asm_law_written.specs.Store.{HasSig, check_sig}
use Rattle.px_asm_store.proofs.StoreMade.{is_reference, two_checks}
use Rattle.px_asm_store.proofs.StoreStays.{string_stays}
use Rattle.px_asm_store.proofs.store.Store.new.Goals as goal

-- the name of the checks stays when that of constructors is added
named : (c : goal.In_ok-references) → HasString c.push_string-2.new.heap.items c.in_ok-name.name (codes "IsTrue")
named c =
    string_stays c.push_string.new.heap.items c.push_string-2.new.heap.items c.in_ok-constructor_name.ensures.grows c.in_ok-name.name (codes "IsTrue")
    (subst (λ text. HasString c.push_string.new.heap.items c.in_ok-name.name text) c.as_bytes.ensures.value c.in_ok-name.ensures.stands)

signed : (c : goal.In_ok-references) → HasSig method_sig c.push_blob.new.heap.items c.in_ok-sig.sig check_sig
signed c = record {
  blob = c.in_ok-method_sig.field-0.items;
  stands = subst (λ blob. HasBlob c.push_blob.new.heap.items c.in_ok-sig.sig blob) c.deref.ensures.value c.in_ok-sig.ensures.stands;
  reads = c.in_ok-method_sig.ensures ∙ ap (λ sig. Ok sig) c.in_ok-check_sig.ensures.is;
}

pub returns : goal.returns
returns c p =
    two_checks p _ c.reference-assume.result c.reference-assert.result c.in_ok-references.ensures.items
    (is_reference _ 19 c.in_ok-name.name c.in_ok-sig.sig (codes "IsTrue") check_sig c.reference-assume.result c.reference-assume.ensures (named c) (signed c))
    (is_reference _ 20 c.in_ok-name.name c.in_ok-sig.sig (codes "IsTrue") check_sig c.reference-assert.result c.reference-assert.ensures (named c) (signed c))
