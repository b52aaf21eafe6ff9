use Rattle.px_tables.proofs.Sizes.{row_few}
use Rattle.px_tables.specs.Counts.{row_size}
use Rattle.px_tables.proofs.counts.Counts.row_size.Goals as goal

pub returns-clause-few : goal.returns-clause-few
unfolding row_size
returns-clause-few c = rw (c.size_of.ensures, c.columns.ensures.columns) (row_few c.args.self.now c.args.table)
