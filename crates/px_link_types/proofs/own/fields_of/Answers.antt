use Rattle.std.proofs.Common.{◌≤◌, ◌+◌, sym, ap, ◌∙◌, arith}
use Rattle.px_meta.specs.Members.{IsField, list_end, list_start}
use Rattle.px_meta.specs.Rows.{IsRow, count_of, fields}
use Rattle.px_link_types.proofs.Listed.{found_all, found_first, found_here, found_past, item_at}
use Rattle.px_link_types.proofs.own.fields_of.Goals as goal
use Rattle.px_link_types.proofs.own.fields_of.Goals.{then-is_asked+in_ok-push, else-is_asked}

pub loop-field-init : goal.loop-field-init
loop-field-init c =
    let start = ap (λ v. list_start v fields c.args.row) c.tables-tables.ensures.same in
    found_first c.args.meta.now c.args.row c.args.is_static c.min-field.result c.new-rows.result.items c.requires
    (λ f some less. omega (arith, start, c.list_start.ensures, c.max.ensures, c.min-field.ensures)) c.new-rows.ensures.items

pub loop-field-preserved : goal.loop-field-preserved
loop-field-preserved c =
    let v = c.args.meta.now in
    let field = c.loop-field.field in
    let count = ap (λ v. count_of v fields) c.tables-tables.ensures.same in
    let some : 1 ≤ field = omega (arith, c.max.ensures, c.min-field.ensures, c.loop-field.auto.field, c.loop-field-test.true) in
    let is_row : IsRow v fields field = record { some = some; few = omega (arith, count, c.min-last.ensures, c.rows.ensures.rows, c.from.ensures, c.loop-field-test.true) } in
    let item = item_at IsField v fields field c.fields-fields.result.now _ c.fields-fields.ensures is_row in
    let asked = sym c.is_asked.ensures in
    elim c.if-is_asked.branch [
      | then-is_asked+in_ok-push w ↦ found_here v c.args.row c.args.is_static field c.loop-field.rows.items c.if-is_asked.rows.items _ some item c.loop-field.invariant (asked ∙ w.if-is_asked.true) (let pushed = w.in_ok-push.ensures in ap (λ l. l.items) w.rows-is ∙ pushed.items)
      | else-is_asked w ↦ found_past v c.args.row c.args.is_static field c.loop-field.rows.items c.if-is_asked.rows.items _ some item c.loop-field.invariant (asked ∙ w.if-is_asked.false) (ap (λ l. l.items) w.rows-is)
    ]

pub returns : goal.returns
returns c =
    let v = c.args.meta.now in
    let count = ap (λ v. count_of v fields) c.tables-tables.ensures.same in
    let end = ap (λ v. list_end v fields c.args.row) c.tables-tables.ensures.same in
    let few : c.loop-field.field ≤ count_of v fields + 1 = omega (arith, count, c.min-last.ensures, c.rows.ensures.rows, c.from.ensures, c.max.ensures, c.min-field.ensures, c.loop-field.auto.field-end) in
    found_all v c.args.row c.args.is_static c.loop-field.field c.loop-field.rows.items c.requires c.loop-field.invariant few
    (λ f some more less. omega (arith, count, end, c.list_end.ensures, c.min-last.ensures, c.rows.ensures.rows, c.from.ensures, c.loop-field-test.false))
