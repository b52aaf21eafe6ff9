use Rattle.px_link_methods.proofs.Named.{caught_class}
use Rattle.px_link_methods.proofs.clauses.class_number.Goals as goal

pub number_of-requires-clause-no_integer : goal.number_of-requires-clause-no_integer
number_of-requires-clause-no_integer c = let class = c.in_ok-leaf.ensures in caught_class c.args.meta.now c.args.raw.now c.in_ok-leaf.leaf class.class
