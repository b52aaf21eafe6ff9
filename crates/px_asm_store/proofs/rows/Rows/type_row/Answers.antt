use Rattle.std.proofs.Common.{sym, subst, arith}
use Rattle.px_asm_described.specs.Describes.{type_row}
use Rattle.px_asm_store.specs.Rows.{IsLaid}
use Rattle.px_asm_store.proofs.RowCounts.{few_type_row}
use Rattle.px_asm_store.proofs.RowSetting.{row_at}
use Rattle.px_asm_store.proofs.rows.Rows.type_row.Goals as goal

pub returns-clause-few : goal.returns-clause-few
returns-clause-few c =
    let laid = subst (λ q. IsLaid q c.args.number) (sym c.self.view_is) c.requires in
    let p = c.self.inside.program.now in
    let number = c.args.number in
    let is = row_at c.self.inside.types.items number (type_row p number) c.index.result.now (c.self.invariant.types number laid) c.index.ensures in
    omega (arith, is, few_type_row p c.self.invariant.room number laid)
