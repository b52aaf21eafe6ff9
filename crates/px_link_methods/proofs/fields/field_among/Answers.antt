use Rattle.std.proofs.Common.{sym, ap, ◌∙◌, length, arith}
use Rattle.px_meta.specs.Rows.{count_of, fields}
use Rattle.px_meta.proofs.Alike.{owner_row}
use Rattle.px_link_methods.proofs.Standing.{few_fields}
use Rattle.px_link_methods.proofs.fields.field_among.Goals as goal

pub fields_by-requires : goal.fields_by-requires
fields_by-requires c = owner_row c.args.meta.now fields c.args.field c.owner_of-owner.result (sym c.owner_of-owner.ensures) (λ e. c.requires.owned (sym c.owner_of-owner.ensures ∙ e))

pub overflow_cast-result : goal.overflow_cast-result
overflow_cast-result c =
    let v = c.args.meta.now in
    let count = ap (λ v. count_of v fields) c.tables.ensures.same in
    let are = ap length (c.deref.ensures.value ∙ c.in_ok-rows.ensures) in
    omega (arith, count, are, few_fields v c.args.is_static c.owner_of-owner.result, c.place_of.ensures.within, c.rows-count.ensures.rows, c.rows-count.type_inv)
