use Rattle.std.proofs.Common.{◌≡◌, sym, subst, arith}
use Rattle.std.proofs.lemmas.Option.{slice_get_within}
use Rattle.px_asm_described.specs.Describes.{method_row}
use Rattle.px_asm_store.specs.Kept.{IsMethod}
use Rattle.px_asm_store.proofs.RowCounts.{few_method_row}
use Rattle.px_asm_store.proofs.RowSetting.{row_at}
use Rattle.px_asm_store.proofs.rows.Rows.method_row.Goals as goal

pub index-requires : goal.index-requires
index-requires c =
    let there = subst (λ q. IsMethod q c.args.number) (sym c.self.view_is) c.requires in
    let at = c.self.invariant.methods c.args.number there in
    omega (arith, slice_get_within c.self.inside.methods.items c.args.number (method_row c.self.inside.program.now c.args.number) at, c.self.inside.methods.ok)

pub returns-clause-row : goal.returns-clause-row
returns-clause-row c =
    let there = subst (λ q. IsMethod q c.args.number) (sym c.self.view_is) c.requires in
    let p = c.self.inside.program.now in
    let number = c.args.number in
    subst (λ q. c.index.result.now ≡ method_row q number) c.self.view_is
    (row_at c.self.inside.methods.items number (method_row p number) c.index.result.now (c.self.invariant.methods number there) c.index.ensures)

pub returns-clause-few : goal.returns-clause-few
returns-clause-few c =
    let there = subst (λ q. IsMethod q c.args.number) (sym c.self.view_is) c.requires in
    let p = c.self.inside.program.now in
    let number = c.args.number in
    let is = row_at c.self.inside.methods.items number (method_row p number) c.index.result.now (c.self.invariant.methods number there) c.index.ensures in
    omega (arith, is, few_method_row p c.self.invariant.room number there)
