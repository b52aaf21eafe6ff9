use Rattle.px_meta.specs.Known.{IsKnown}
use Rattle.px_meta.specs.Resolved.{IsReference}
use Rattle.px_meta.proofs.Rows.{AreFirst}
use Rattle.px_meta.proofs.members.read_references.Given as goal

abbrev pub invariant-loop-n : goal.invariant-loop-n
invariant-loop-n l = record {
  read : AreFirst IsReference l.tables l.n l.references.items;
  known : IsKnown l.tables l.known;
}
