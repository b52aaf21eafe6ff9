use Rattle.px_words.proofs.Fits.{word_fits}
use Rattle.px_words.proofs.eval.Goals as goal

pub returns-clause-width : goal.returns-clause-width
returns-clause-width c = rw c.value_of.ensures (word_fits c.args.op c.args.a c.args.b c.args.c c.requires.operator c.requires.operands)
