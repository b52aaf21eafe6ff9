use Rattle.std.proofs.Common.{arith}
use Rattle.px_meta.specs.Faults.{Field}
use Rattle.px_meta.specs.Rows.{fields}
use Rattle.px_meta.proofs.Blame.{field_unnamed, field_unsigned, token_blamed}
use Rattle.px_meta.proofs.members.read_field.Goals as goal

pub returns-in_default-clause-fault : goal.returns-in_default-clause-fault
returns-in_default-clause-fault c =
    let row = c.args.row in
    token_blamed c.args.tables.now fields row c.at.result (λ e. omega arith) c.at.ensures (Field row c.requires.row (field_unnamed _ row c.cell_of.result c.cell_of.ensures (rw c.in_default.is at c.in_ok-name.ensures.text)))

pub returns-in_default-2-clause-fault : goal.returns-in_default-2-clause-fault
returns-in_default-2-clause-fault c =
    let row = c.args.row in
    token_blamed c.args.tables.now fields row c.at-in_default-2.result (λ e. omega arith) c.at-in_default-2.ensures
    (Field row c.requires.row (field_unsigned _ row c.cell_of-2.result c.in_ok-sig.field-0 c.cell_of-2.ensures c.in_ok-sig.ensures.sig c.in_default-2.is))
