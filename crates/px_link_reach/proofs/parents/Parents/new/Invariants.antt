use Rattle.px_meta.proofs.Rows.{AreFirst}
use Rattle.px_link_reach.specs.Parts.{IsParent}
use Rattle.px_link_reach.proofs.parents.Parents.new.Given as goal

abbrev pub invariant-loop-n : goal.invariant-loop-n
invariant-loop-n l = AreFirst IsParent l.meta l.n l.rows.items
