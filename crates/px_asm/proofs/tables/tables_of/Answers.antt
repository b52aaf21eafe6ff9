use Rattle.std.proofs.Common.{◌<◌, length, sym, ap, ◌∙◌, subst}
use Rattle.std.specs.List.{AllByRecursion}
use Rattle.px_asm.specs.Made.{AreMade}
use Rattle.px_asm.proofs.TableHolds.{table_written}
use Rattle.px_asm.proofs.tables.tables_of.Goals as goal

pub addresses_of-requires-clause-there : goal.addresses_of-requires-clause-there
addresses_of-requires-clause-there c =
    subst (λ q. AllByRecursion (λ number. number < length q.methods) c.as_slice-numbers.result.now) (sym c.in_ok-rows.ensures)
    (subst (AllByRecursion (λ number. number < length c.args.program.now.methods)) (sym c.as_slice-numbers.ensures) c.requires.methods)

pub made_with-requires-clause-there : goal.made_with-requires-clause-there
made_with-requires-clause-there c =
    subst (λ q. AllByRecursion (λ number. number < length q.methods) c.as_slice-numbers.result.now) (sym c.in_ok-rows.ensures)
    (subst (AllByRecursion (λ number. number < length c.args.program.now.methods)) (sym c.as_slice-numbers.ensures) c.requires.methods)

pub returns : goal.returns
returns c =
    let first = c.addresses_of.new.store in
    let later = c.made_with.new.store in
    let opened = c.store.view_is in
    let closed = c.store-2.view_is in
    table_written c.args.program.now c.in_ok-rows.rows c.in_ok-rows.ensures first _ later (ap (λ s. s.strings) opened) (ap (λ s. s.texts) opened) (ap (λ s. s.blob) opened) c.in_ok-made.ensures.grows c.addresses_of.new.bodies.items c.in_ok-addresses.addresses.items c.as_slice-numbers.result.now c.in_ok-made.made c.from_vec.result _ c.in_ok-addresses.ensures.kept c.as_slice-numbers.ensures c.in_ok-addresses.ensures.are
    (subst (λ l. AreMade c.in_ok-rows.rows later l c.in_ok-made.made) c.deref.ensures.value c.in_ok-made.ensures.made)
    (c.from_vec.ensures ∙ ap (λ v. v.items) c.replace-references.ensures.value ∙ ap (λ s. s.references) opened) c.in_ok-tables.ensures
    (c.from_vec-2.ensures ∙ ap (λ v. v.items) c.replace.ensures.value ∙ ap (λ s. s.strings) closed)
    (c.from_vec-3.ensures ∙ ap (λ v. v.items) c.replace-2.ensures.value ∙ ap (λ s. s.texts) closed)
    (c.from_vec-4.ensures ∙ ap (λ v. v.items) c.replace-3.ensures.value ∙ ap (λ s. s.blob) closed)
