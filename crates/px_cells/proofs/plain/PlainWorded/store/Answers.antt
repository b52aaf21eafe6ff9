use Rattle.px_cells.proofs.Choosing.{stored_plain}
use Rattle.px_cells.specs.Plain.{LiesIn}
use Rattle.px_cells.proofs.plain.PlainWorded.store.Goals as goal

pub returns : goal.returns
returns c = rw c.put_at.ensures (stored_plain c.args._widths c.args.index c.args.value (LiesIn c.args._pool.now) c.args._widths.element c.args.elements.now c.args._pool.now c.requires.elements c.requires.short)
