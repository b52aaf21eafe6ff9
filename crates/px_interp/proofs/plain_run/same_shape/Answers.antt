use Rattle.px_interp.proofs.PlainRuns.{same_shapes}
use Rattle.px_interp.proofs.plain_run.same_shape.Goals as goal

pub returns : goal.returns
returns c bounds = same_shapes c.args.program.now c.args.domain.now c.entry-entry.result.now bounds c.entry-entry.ensures.entry c.entry-entry.ensures.typed c.requires.places
