use Rattle.px_meta.proofs.Saying.{AreDeclared}
use Rattle.px_meta.proofs.overriding.declared_of.Given as goal

abbrev pub invariant-loop-n : goal.invariant-loop-n
invariant-loop-n l = AreDeclared l.tables l.n l.declared.items
