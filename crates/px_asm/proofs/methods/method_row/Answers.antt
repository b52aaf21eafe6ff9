use Rattle.std.proofs.Common.{◌≡◌, Some, sym, ap, ◌∙◌, subst}
use Rattle.std.specs.Prelude.{slice_get}
use Rattle.px_asm_store.proofs.StoreStays.{store_grows_on}
use Rattle.px_asm.proofs.TableMethods.{table_method_made}
use Rattle.px_asm.proofs.methods.method_row.Goals as goal

pub returns-clause-row : goal.returns-clause-row
returns-clause-row c =
    let p = c.args.rows.now in
    let same = c.program-program.ensures.same in
    let method = c.index-as_slice-number.result in
    table_method_made p c.program-program.ensures.room.writable c.name.new.self c.method_sig.new.self c.in_ok-sig-2.ensures.grows c.args.number c.args.address c.method_flags-flags.result c.in_ok-name.name c.in_ok-sig-2.sig c.as_slice.result.now c.as_slice-2.result.now method _ c.own_name-own.result.now c.in_ok-sig.sig
    (c.as_slice.ensures ∙ ap (λ q. q.methods) same) (c.as_slice-2.ensures ∙ ap (λ q. q.layout.slots) same) c.requires c.index-as_slice-number.is c.method_flags-flags.ensures.slot c.method_flags-flags.ensures.new_slot c.in_ok-name.ensures.stands
    (λ owner at. c.own_name-own.ensures.name owner (subst (λ q. slice_get q.types method.owner ≡ Some owner) (sym same) at))
    c.in_ok-sig-2.ensures.stands c.in_ok-sig.ensures.is

pub returns-clause-grows : goal.returns-clause-grows
returns-clause-grows c = store_grows_on c.args.store.now c.name.new.self c.method_sig.new.self c.in_ok-name.ensures.grows c.in_ok-sig-2.ensures.grows
