use Rattle.px_program.proofs.Fitting.{fits_itself, fits_through}
use Rattle.px_program.proofs.kinds.fits_is_preorder.Goals as goal

pub returns-clause-itself : goal.returns-clause-itself
returns-clause-itself c = fits_itself c.args.program.now.types

pub returns-clause-through : goal.returns-clause-through
returns-clause-through c = λ type between other are. fits_through c.args.program.now.types are type between other
