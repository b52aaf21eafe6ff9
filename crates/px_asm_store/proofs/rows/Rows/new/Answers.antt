use Rattle.std.proofs.Common.{◌≡◌, ◌+◌, ◌<◌, length, sym, ap, subst, ◌∙◌, arith}
use Rattle.std.specs.Prelude.{Some, slice_get}
use Rattle.std.specs.List.{AllByRecursion}
use Rattle.px_meta.specs.Rows.{is_in}
use Rattle.px_link_methods.specs.Codes.{place_of}
use Rattle.px_asm_store.proofs.RowCounts.{few_laid, method_is_in}
use Rattle.px_asm_store.proofs.rows.Rows.new.Goals as goal

pub rows_of-requires-clause-few : goal.rows_of-requires-clause-few
rows_of-requires-clause-few c = omega (arith, ap length c.as_slice.ensures, few_laid c.args.program.now c.requires)

pub rows_of-requires-2-clause-below : goal.rows_of-requires-2-clause-below
rows_of-requires-2-clause-below c =
    let p = c.args.program.now in
    subst (λ n. AllByRecursion (λ number. number < n) c.as_slice-2.result.now) (sym c.len-methods_count.ensures)
    (subst (λ l. AllByRecursion (λ number. number < length p.methods) l) (sym c.as_slice-2.ensures) c.requires.methods)

pub invariant_of-result : goal.invariant_of-result
invariant_of-result c =
    let p = c.args.program.now in
    record {
      room = record { writable = c.requires; types = omega (arith, c.len-types_count.ensures); methods = omega (arith, c.len-methods_count.ensures); fields = c.in_ok-fields.ensures.few };
      types = λ type laid. subst (λ l. slice_get c.in_ok-types.types.items type ≡ Some (place_of l type + 2)) c.as_slice.ensures (c.in_ok-types.ensures type (ap (λ l. is_in l type) c.as_slice.ensures ∙ laid));
      methods = λ number less.
          subst (λ l. slice_get c.in_ok-methods.methods.items number ≡ Some (place_of l number + 1)) c.as_slice-2.ensures
          (c.in_ok-methods.ensures number (ap (λ l. is_in l number) c.as_slice-2.ensures ∙ method_is_in p c.requires number less));
      fields = c.in_ok-fields.ensures.rows;
    }
