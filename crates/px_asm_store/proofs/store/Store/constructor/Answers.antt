use Rattle.std.proofs.Common.{◌≡◌, ◌+◌, ◌*◌, ◌<◌, ◌^◌, length, subst}
use Rattle.std.specs.Prelude.{codes}
use Rattle.px_asm_heaps.specs.Heaps.{HasString}
use Rattle.px_asm_law_written.specs.Store.{AreReferences, IsConstructorRow}
use Rattle.px_asm_law_written.specs.Tokens.{HasConstructor}
use Rattle.px_asm_store.proofs.StoreMade.{has_constructor, if_added, is_constructor_row, more_references, on_added, with_row}
use Rattle.px_asm_store.proofs.store.Store.constructor.Goals as goal

made : (c : goal.After-push_reference) → IsConstructorRow c.args.rows.now c.constructor_sig.new.self c.args.class c.args.params.now c.reference-row.result
made c =
    is_constructor_row c.args.rows.now c.constructor_sig.new.self c.args.class c.self.inside.constructor_name c.in_ok-sig.sig c.args.params.now c.reference-row.result c.reference-row.ensures
    (subst (λ s. HasString s.strings c.self.inside.constructor_name (codes ".ctor")) c.self.view_is c.self.invariant) c.in_ok-sig.ensures.stands

pub returns-clause-token : goal.returns-clause-token
returns-clause-token c =
    let p = c.args.rows.now in
    let s = c.constructor_sig.new.self in
    let row = c.reference-row.result in
    if_added (λ at. at ≡ 0x0A * 2 ^ 24 + (length s.references + 1)) (λ at. length s.references + 1 < 2 ^ 24) c.push_reference.new.self (with_row s row) (λ s at. HasConstructor p s c.args.class c.args.params.now at) c.push_reference.result
    c.push_reference.ensures.token c.push_reference.ensures.room c.push_reference.ensures.added (λ at is few. has_constructor p s c.args.class c.args.params.now row at (made c) is few)

pub returns-clause-kept : goal.returns-clause-kept
returns-clause-kept c =
    let p = c.args.rows.now in
    let s = c.constructor_sig.new.self in
    on_added c.push_reference.new.self (with_row s c.reference-row.result) (AreReferences p) c.push_reference.result c.push_reference.ensures.added
    (more_references p c.args.self.now s c.args.class c.args.params.now c.reference-row.result c.requires.class c.in_ok-sig.ensures.grows c.in_ok-sig.ensures.references (made c) c.requires.before)
