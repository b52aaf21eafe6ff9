use Rattle.std.proofs.Common.{arith}
use Rattle.px_meta.specs.Faults.{TypeSpec}
use Rattle.px_meta.specs.Rows.{type_specs}
use Rattle.px_meta.proofs.Blame.{spec_unsigned, token_blamed}
use Rattle.px_meta.proofs.members.read_spec.Goals as goal

pub returns-in-None-clause-fault : goal.returns-in-None-clause-fault
returns-in-None-clause-fault c =
    let row = c.args.row in
    token_blamed c.args.tables.now type_specs row c.at.result (λ e. omega arith) c.at.ensures
    (TypeSpec row c.requires.row (spec_unsigned c.args.tables.now row c.cell_of.result c.in_ok-sig.field-0 c.cell_of.ensures c.in_ok-sig.ensures.sig c.in-None.is))
