use Rattle.px_link.proofs.Typed.{AreSoFar}
use Rattle.px_link.proofs.overrides.types_of.Given as goal

abbrev pub invariant-loop-n : goal.invariant-loop-n
invariant-loop-n l = AreSoFar l.meta (record { keys = l.types.keys; rows = l.rows }) l.overriding.lists l.targets l.initial.infos.items l.n l.infos.items
