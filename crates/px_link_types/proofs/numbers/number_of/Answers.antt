use Rattle.px_link_types.proofs.Derived.{number_is}
use Rattle.px_link_types.proofs.numbers.number_of.Goals as goal

pub returns : goal.returns
returns c = let at = c.in-Some.ensures in number_is c.args.keys.now.keys c.args.key c.in-Some.number at.index
