use Rattle.std.proofs.Common.{ℕ, List, sym, subst}
use Rattle.std.specs.List.{AllZip, flat_map}
use Rattle.std.specs.Prelude.{slice_get}
use Rattle.px_asm_store.proofs.StoreStays.{store_grows_on}
use Rattle.px_asm_law_written.specs.Holds.{AreTypeDefs, IsFieldDef, IsImplRow, IsLocals, IsSpecRow, IsTypeRef, all_places, all_referred, overriding_pairs, pair_of}
use Rattle.px_asm_rows.specs.Tables.{AreMethodRows, HeapsGrow}
use Rattle.px_asm_law_written.specs.Tokens.{fields_of}
use Rattle.px_asm.proofs.TableHolds.{table_stays_all_locals, table_stays_fields, table_stays_method_rows, table_stays_specs, table_stays_type_defs, table_stays_type_refs}
use Rattle.px_asm_rows.proofs.TableStays.{heaps, heaps_grow_twice}
use Rattle.px_asm.proofs.tables.made_with.Goals as goal

pub returns-clause-grows : goal.returns-clause-grows
returns-clause-grows c =
    let o = c.args.store.now in
    let m = c.module.new.store in
    let a = c.type_refs.new.store in
    let b = c.type_defs.new.store in
    let d = c.field_defs.new.store in
    let e = c.method_rows.new.store in
    let f = c.locals_rows.new.store in
    let h = c.spec_rows.new.store in
    let i = c.assembly.new.store in
    let last = c.assembly_refs.new.store in
    store_grows_on o m last c.in_ok-module.ensures (store_grows_on m a last c.in_ok-type_refs.ensures.grows (store_grows_on a b last c.in_ok-type_defs.ensures.grows (store_grows_on b d last c.in_ok-fields.ensures.grows
    (store_grows_on d e last c.in_ok-methods.ensures.grows (store_grows_on e f last c.in_ok-locals.ensures.grows (store_grows_on f h last c.in_ok-specs.ensures.grows (store_grows_on h i last c.in_ok-assembly.ensures c.in_ok-assembly_refs.ensures)))))))

pub returns-clause-made : goal.returns-clause-made
returns-clause-made c =
    let p = c.args.rows.now in
    let numbers = c.args.numbers.now in
    let addresses = c.args.addresses.now in
    let a = c.type_refs.new.store in
    let b = c.type_defs.new.store in
    let d = c.field_defs.new.store in
    let e = c.method_rows.new.store in
    let f = c.locals_rows.new.store in
    let h = c.spec_rows.new.store in
    let i = c.assembly.new.store in
    let last = c.assembly_refs.new.store in
    let from_i : HeapsGrow i last = heaps i last c.in_ok-assembly_refs.ensures in
    let from_h : HeapsGrow h last = heaps_grow_twice h i last (heaps h i c.in_ok-assembly.ensures) from_i in
    let from_f : HeapsGrow f last = heaps_grow_twice f h last (heaps f h c.in_ok-specs.ensures.grows) from_h in
    let from_e : HeapsGrow e last = heaps_grow_twice e f last (heaps e f c.in_ok-locals.ensures.grows) from_f in
    let from_d : HeapsGrow d last = heaps_grow_twice d e last (heaps d e c.in_ok-methods.ensures.grows) from_e in
    let from_b : HeapsGrow b last = heaps_grow_twice b d last (heaps b d c.in_ok-fields.ensures.grows) from_d in
    let from_a : HeapsGrow a last = heaps_grow_twice a b last (heaps a b c.in_ok-type_defs.ensures.grows) from_b in
    record {
      type_refs = subst (λ l. AllZip (IsTypeRef last) all_referred l) (sym c.from_vec-2.ensures) (table_stays_type_refs a last from_a c.in_ok-type_refs.type_refs.items c.in_ok-type_refs.ensures.are);
      type_defs = subst (AreTypeDefs p last) (sym c.from_vec-3.ensures) (table_stays_type_defs p b last from_b c.in_ok-type_defs.type_defs.items c.in_ok-type_defs.ensures.are);
      fields = subst (λ l. AllZip (IsFieldDef p last) (fields_of p p.layout.types) l) (sym c.from_vec-4.ensures) (table_stays_fields p d last from_d c.in_ok-fields.fields.items c.in_ok-fields.ensures.are);
      methods = subst (λ l. AreMethodRows p last p.layout.methods addresses l) (sym c.from_vec-5.ensures) (subst (λ l. AreMethodRows p last l addresses c.in_ok-methods.methods.items) c.requires.numbers (table_stays_method_rows p e last from_e numbers addresses c.in_ok-methods.methods.items c.in_ok-methods.ensures.are));
      locals = subst (λ l. AllZip (IsLocals p last) p.layout.methods l) (sym c.from_vec-6.ensures) (table_stays_all_locals p f last from_f c.in_ok-locals.locals.items (subst (λ l. AllZip (IsLocals p f) l c.in_ok-locals.locals.items) c.requires.numbers c.in_ok-locals.ensures.are));
      impls = subst (λ l. AllZip (IsImplRow p) (overriding_pairs p) l) (sym c.from_vec-7.ensures) (subst (λ (l : List ℕ). AllZip (IsImplRow p) (flat_map (λ number. pair_of number (slice_get p.layout.slots number)) l) c.in_ok-impls.impls.items) c.requires.numbers c.in_ok-impls.ensures);
      specs = subst (λ l. AllZip (IsSpecRow p last) (all_places p) l) (sym c.from_vec-8.ensures) (table_stays_specs p h last from_h c.in_ok-specs.specs.items c.in_ok-specs.ensures.are);
    }
