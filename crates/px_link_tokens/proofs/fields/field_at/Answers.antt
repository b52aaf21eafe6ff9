use Rattle.std.proofs.Common.{true, false, sym, ◌∙◌}
use Rattle.px_meta.specs.Members.{IsField}
use Rattle.px_meta.specs.Rows.{fields}
use Rattle.px_link_tokens.proofs.Reading.{field_owner, field_told, read_at}
use Rattle.px_link_tokens.proofs.fields.field_at.Goals as goal

pub is_run_field-requires : goal.is_run_field-requires
is_run_field-requires c =
    let v = c.args.tokens.now in
    let row = c.in_ok-row.row in
    let named = c.in_ok-row.ensures in
    field_owner v row _ (read_at IsField v c.meta-meta.result.now c.tables.result.now fields row c.fields.result.now _ c.tables.ensures.same c.meta-meta.ensures named.there c.fields.ensures)

pub returns-then-is_run_field-clause-field : goal.returns-then-is_run_field-clause-field
returns-then-is_run_field-clause-field c =
    let v = c.args.tokens.now in
    let row = c.in_ok-row.row in
    let named = c.in_ok-row.ensures in
    let item = read_at IsField v c.meta-meta.result.now c.tables.result.now fields row c.fields.result.now _ c.tables.ensures.same c.meta-meta.ensures named.there c.fields.ensures in
    field_told v c.tables.result.now c.args.is_static true c.args.token row _ (c.tables.ensures.same ∙ c.meta-meta.ensures) named.row item (sym c.is_run_field.ensures ∙ c.if-is_run_field.true)

pub returns-else-is_run_field-clause-field : goal.returns-else-is_run_field-clause-field
returns-else-is_run_field-clause-field c =
    let v = c.args.tokens.now in
    let row = c.in_ok-row.row in
    let named = c.in_ok-row.ensures in
    let item = read_at IsField v c.meta-meta.result.now c.tables.result.now fields row c.fields.result.now _ c.tables.ensures.same c.meta-meta.ensures named.there c.fields.ensures in
    field_told v c.tables.result.now c.args.is_static false c.args.token row _ (c.tables.ensures.same ∙ c.meta-meta.ensures) named.row item (sym c.is_run_field.ensures ∙ c.if-is_run_field.false)
