use Rattle.std.proofs.Common.{bit_and, ap, ◌∙◌}
use Rattle.std.proofs.lemmas.Nat.{and_mask}
use Rattle.px_words.proofs.extension.zero_extended.Goals as goal

pub returns : goal.returns
returns c = ap (bit_and c.args.a) c.ones.ensures ∙ and_mask c.args.a c.args.bits
