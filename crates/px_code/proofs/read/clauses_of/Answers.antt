use Rattle.px_code.proofs.Sections.{few_where_read, placed_where_read}
use Rattle.px_code.proofs.read.clauses_of.Goals as goal

pub returns-clause-placed : goal.returns-clause-placed
returns-clause-placed c = placed_where_read (λ clauses. clauses.items) c.sections_from.result _ c.args.instrs.now c.args.bytes.now _ c.sections_from.ensures

pub returns-clause-few : goal.returns-clause-few
returns-clause-few c =
    few_where_read (λ clauses. clauses.items) c.sections_from.result _ c.args.instrs.now c.args.bytes.now _ c.requires.short c.sections_from.ensures
