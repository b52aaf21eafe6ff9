use Rattle.std.proofs.Common.{◌≡◌, true, ap, sym, ◌∙◌, arith}
use Rattle.px_meta.specs.Members.{IsMethod}
use Rattle.px_meta.specs.Rows.{IsRow, count_of, methods}
use Rattle.px_link_types.specs.Keys.{is_class}
use Rattle.px_link.proofs.Finding.{item_of}
use Rattle.px_link.proofs.Making.{maker_here, maker_nowhere, none_first, none_next}
use Rattle.px_link.proofs.maker.maker_in.Goals as goal
use Rattle.px_link.proofs.maker.maker_in.Goals.{After-index-methods-row, After-min-row}

class_is : (c : After-min-row) → is_class c.args.meta.now c.args.class ≡ true
class_is c = ap (λ v. is_class v c.args.class) (sym c.tables.ensures.same) ∙ sym c.is_class.ensures ∙ c.if-not-is_class.false

there : (c : After-index-methods-row) → IsRow c.args.meta.now methods c.loop-row.row
there c =
    let count = ap (λ v. count_of v methods) c.tables-2.ensures.same in
    record {
      some = omega (arith, c.max.ensures, c.min-row.ensures, c.loop-row.auto.row, c.loop-row-test.true);
      few = omega (arith, count, c.min-last.ensures, c.rows.ensures.rows, c.from.ensures, c.loop-row-test.true);
    }

item : (c : After-index-methods-row) → IsMethod c.args.meta.now c.loop-row.row c.index-methods-row.result
item c = item_of IsMethod c.args.meta.now methods c.loop-row.row c.methods-methods.result.now c.index-methods-row.result c.methods-methods.ensures (there c) c.index-methods-row.is

pub loop-row-init : goal.loop-row-init
loop-row-init c = none_first c.args.meta.now c.args.class c.min-row.result c.requires (λ k some less. omega (arith, c.list_start.ensures, c.max.ensures, c.min-row.ensures))

pub returns-then-makes : goal.returns-then-makes
returns-then-makes c =
    let before = (goal.at.returns-then-makes c).After-index-methods-row in
    maker_here c.args.meta.now c.args.class c.loop-row.row c.index-methods-row.result (class_is (goal.at.returns-then-makes c).After-min-row) (there before) c.loop-row.invariant (item before) (sym c.makes.ensures ∙ c.if-makes.true)

pub loop-row-preserved : goal.loop-row-preserved
loop-row-preserved c =
    none_next c.args.meta.now c.args.class c.loop-row.row c.index-methods-row.result c.loop-row.invariant (item (goal.at.loop-row-preserved c).After-index-methods-row) (sym c.makes.ensures ∙ c.if-makes.false)

pub returns : goal.returns
returns c =
    let count = ap (λ v. count_of v methods) c.tables-2.ensures.same in
    maker_nowhere c.args.meta.now c.args.class c.loop-row.row (class_is (goal.at.returns c).After-min-row) c.requires c.loop-row.invariant
    (λ k some more few. omega (arith, count, c.list_end.ensures, c.min-last.ensures, c.rows.ensures.rows, c.from.ensures, c.loop-row-test.false))
