use Rattle.std.specs.Prelude.{ℕ, ◌-◌, slice_index_or}
use Rattle.std.proofs.Common.{refl}
use Rattle.px_meta.specs.Members.{IsMethod}
use Rattle.px_meta.specs.Rows.{methods}
use Rattle.px_meta.specs.declared.meta.MetaMethod.{MetaMethod}
use Rattle.px_link.proofs.Finding.{item_at}
use Rattle.px_link.proofs.Overriding.{first_here, first_on, row_at}
use Rattle.px_link.proofs.overrides.first_of.Goals as goal
use Rattle.px_link.proofs.overrides.first_of.Goals.{After-index-methods-row}

abbrev row_of : After-index-methods-row → ℕ
row_of c = slice_index_or c.args.overriders.now c.loop-row.row-index 0

abbrev method_of : After-index-methods-row → MetaMethod
method_of c = slice_index_or c.methods-methods.result.now (row_of c - 1) c.index-methods-row.result

item : (c : After-index-methods-row) → IsMethod c.args.meta.now (row_of c) (method_of c)
item c =
    item_at IsMethod c.args.meta.now methods c.methods-methods.result.now (row_of c) c.index-methods-row.result c.methods-methods.ensures
    (row_at c.args.meta.now c.args.overriders.now c.loop-row.row-index (row_of c) c.requires c.loop-row-test.true refl)

pub returns-then-methods-row : goal.returns-then-methods-row
returns-then-methods-row c =
    let before = (goal.at.returns-then-methods-row c).After-index-methods-row in
    first_here c.args.meta.now c.args.class c.args.overriders.now c.loop-row.row-index (row_of before) (method_of before) c.loop-row-test.true refl (item before) c.if-methods-row.true c.loop-row.invariant

pub loop-row-preserved : goal.loop-row-preserved
loop-row-preserved c =
    let before = (goal.at.loop-row-preserved c).After-index-methods-row in
    first_on c.args.meta.now c.args.class c.args.overriders.now c.loop-row.row-index (row_of before) (method_of before) c.loop-row-test.true refl (item before) c.if-methods-row.false c.loop-row.invariant
