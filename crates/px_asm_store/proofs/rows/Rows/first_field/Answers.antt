use Rattle.std.proofs.Common.{sym, subst, arith}
use Rattle.px_link_methods.specs.Codes.{place_of}
use Rattle.px_asm_store.specs.Kept.{first_field_of}
use Rattle.px_asm_store.specs.Rows.{IsLaid}
use Rattle.px_asm_store.proofs.RowCounts.{few_first_field}
use Rattle.px_asm_store.proofs.RowSetting.{row_at}
use Rattle.px_asm_store.proofs.rows.Rows.first_field.Goals as goal

pub returns-clause-few : goal.returns-clause-few
returns-clause-few c =
    let laid = subst (λ q. IsLaid q c.args.number) (sym c.self.view_is) c.requires in
    let p = c.self.inside.program.now in
    let number = c.args.number in
    let is = row_at c.self.inside.fields.items number (first_field_of p number) c.index.result.now (c.self.invariant.fields number laid) c.index.ensures in
    omega (arith, is, few_first_field p c.self.invariant.room (place_of p.layout.types number))
