use Rattle.std.proofs.Common.{ap, ◌∙◌, arith}
use Rattle.std.specs.Prelude.{not}
use Rattle.px_meta.specs.Faults.{MemberRef}
use Rattle.px_meta.specs.Rows.{member_refs}
use Rattle.px_meta.proofs.Blame.{none_here, reference_unnamed, reference_unsigned, token_blamed}
use Rattle.px_meta.proofs.members.read_reference.Goals as goal

pub returns-then-is_none-clause-fault : goal.returns-then-is_none-clause-fault
returns-then-is_none-clause-fault c =
    let row = c.args.row in
    token_blamed c.args.tables.now member_refs row c.at.result (λ e. omega arith) c.at.ensures
    (MemberRef row c.requires.row (reference_unnamed c.args.tables.now row c.cell_of.result c.cell_of.ensures (none_here c.in_ok-named.named _ _ (c.is_none.ensures ∙ ap not c.if-is_none.true) c.in_ok-named.ensures.text)))

pub returns-in-None-clause-fault : goal.returns-in-None-clause-fault
returns-in-None-clause-fault c =
    let row = c.args.row in
    token_blamed c.args.tables.now member_refs row c.at.result (λ e. omega arith) c.at.ensures
    (MemberRef row c.requires.row (reference_unsigned c.args.tables.now row c.cell_of-at.result c.in_ok-sig.field-0 c.in_ok-field_sig.field-0 c.cell_of-at.ensures c.in_ok-sig.ensures.sig c.in_default.is c.in_ok-field_sig.ensures.sig c.in-None.is))
