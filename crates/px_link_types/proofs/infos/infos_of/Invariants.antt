use Rattle.px_link_types.specs.Making.{AreFirst}
use Rattle.px_link_types.proofs.infos.infos_of.Given as goal

abbrev pub invariant-loop-n : goal.invariant-loop-n
invariant-loop-n l = AreFirst l.types.tables l.types.keys l.n l.infos.items
