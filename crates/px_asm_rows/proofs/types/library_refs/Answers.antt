use Rattle.std.proofs.Common.{◌≡◌, ◌-◌, length, take, drop, refl, sym, ap, ◌∙◌, subst, arith, length-drop}
use Rattle.std.specs.Prelude.{codes}
use Rattle.std.proofs.lemmas.List.{take_all}
use Rattle.px_asm_described.specs.Writable.{IsText}
use Rattle.px_asm_store.proofs.StoreStays.{store_grows_on, string_stays}
use Rattle.px_asm_law_written.specs.Holds.{IsTypeRef}
use Rattle.px_asm_rows.proofs.TableTexts.{table_plain_text}
use Rattle.px_asm_rows.proofs.TableTypes.{IsLibraryName, table_library_name, table_refs_more}
use Rattle.px_asm_rows.proofs.types.library_refs.Goals as goal

pub name-requires : goal.name-requires
name-requires c = table_plain_text _ refl

pub type_ref-requires-clause-text : goal.type_ref-requires-clause-text
type_ref-requires-clause-text c =
    let named : IsLibraryName c.info-item.result = table_library_name c.deref-info-items.result.now c.loop-info.info-index c.info-item.result (c.deref-info-items.ensures.value ∙ c.in_ok-types.ensures) c.loop-info-test.true c.info-item.is in
    let text = c.as_slice.result.now in
    let whole : take (length text - 7) (drop 7 text) ≡ drop 7 text = take_all (length text - 7) (drop 7 text) (omega (arith, length-drop 7 text)) in
    subst IsText (ap (drop 7) (sym c.as_slice.ensures) ∙ sym whole) named.text

pub loop-info-preserved : goal.loop-info-preserved
loop-info-preserved c =
    let old = c.loop-info.store in
    let new = c.type_ref.new.store in
    let made = c.in_ok-type_ref.ensures in
    let pushed = c.in_ok-push.ensures in
    let text = c.as_slice.result.now in
    let whole : take (length text - 7) (drop 7 text) ≡ drop 7 text = take_all (length text - 7) (drop 7 text) (omega (arith, length-drop 7 text)) in
    let row = c.in_ok-type_ref.field-0 in
    let one = subst (λ name. IsTypeRef new (record { assembly = 1; namespace = codes "System"; name = name }) row) (whole ∙ ap (drop 7) c.as_slice.ensures) (made.row (codes "System") c.loop-info.invariant.1.0) in (
      table_refs_more old new made.grows c.deref-info-items.result.now c.loop-info.info-index c.info-item.result c.loop-info.made.items c.push.new.self.items row c.loop-info.invariant.0 c.loop-info-test.true c.info-item.is one pushed.items,
      (string_stays old.strings new.strings made.grows.strings c.in_ok-namespace.namespace (codes "System") c.loop-info.invariant.1.0, store_grows_on _ old new c.loop-info.invariant.1.1 made.grows),
    )
