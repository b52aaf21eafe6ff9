use Rattle.px_cells.proofs.Choosing.{selected_plain}
use Rattle.px_cells.proofs.plain.PlainWorded.select.Goals as goal

pub returns : goal.returns
returns c = rw c.number_at-word.ensures (selected_plain c.args._widths c.args.index c.args.elements.now c.args._pool.now c.requires.short)
