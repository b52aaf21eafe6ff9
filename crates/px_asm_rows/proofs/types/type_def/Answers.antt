use Rattle.std.proofs.Common.{sym, ap, ◌∙◌, subst, length, arith}
use Rattle.px_asm_described.specs.Writable.{IsText}
use Rattle.px_asm_rows.proofs.TableFacts.{table_type_there}
use Rattle.px_asm_rows.proofs.TableTypes.{table_laid_info, table_type_def_made}
use Rattle.px_asm_rows.proofs.types.type_def.Goals as goal

pub bounds-as_slice-number : goal.bounds-as_slice-number
bounds-as_slice-number c =
    let same = c.as_slice.ensures ∙ ap (λ q. q.types) c.program.ensures.same in
    omega (arith, ap length same, table_type_there c.args.rows.now c.program.ensures.room.writable c.args.number c.requires.laid)

pub split_name-requires : goal.split_name-requires
split_name-requires c =
    let same = c.as_slice.ensures ∙ ap (λ q. q.types) c.program.ensures.same in
    let laid = table_laid_info c.args.rows.now c.program.ensures.room.writable c.args.number c.requires.laid c.as_slice.result.now c.index-as_slice-number.result same c.index-as_slice-number.is in
    subst IsText (sym c.as_slice-2.ensures) laid.name

pub extends_of-base-requires : goal.extends_of-base-requires
extends_of-base-requires c =
    let same = c.as_slice.ensures ∙ ap (λ q. q.types) c.program.ensures.same in
    let laid = table_laid_info c.args.rows.now c.program.ensures.room.writable c.args.number c.requires.laid c.as_slice.result.now c.index-as_slice-number.result same c.index-as_slice-number.is in
    laid.base

pub returns-clause-row : goal.returns-clause-row
returns-clause-row c =
    let same = c.as_slice.ensures ∙ ap (λ q. q.types) c.program.ensures.same in
    let laid = table_laid_info c.args.rows.now c.program.ensures.room.writable c.args.number c.requires.laid c.as_slice.result.now c.index-as_slice-number.result same c.index-as_slice-number.is in
    table_type_def_made c.args.rows.now c.name.new.self c.name-2.new.self c.in_ok-name.ensures.grows c.args.number c.index-as_slice-number.result _ _ c.in_ok-name.name c.in_ok-namespace.namespace c.extends_of-base.result c.first_field-fields.result c.first_method-methods.result laid.got (c.split_name.ensures.full ∙ c.as_slice-2.ensures) c.in_ok-namespace.ensures.stands c.in_ok-name.ensures.stands c.extends_of-base.ensures c.first_field-fields.ensures.row c.first_method-methods.ensures.first
