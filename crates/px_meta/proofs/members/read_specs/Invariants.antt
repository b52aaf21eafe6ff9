use Rattle.px_meta.specs.Known.{IsKnown}
use Rattle.px_meta.specs.Resolved.{IsSpec}
use Rattle.px_meta.proofs.Rows.{AreFirst}
use Rattle.px_meta.proofs.members.read_specs.Given as goal

abbrev pub invariant-loop-n : goal.invariant-loop-n
invariant-loop-n l = record {
  read : AreFirst IsSpec l.tables l.n l.specs.items;
  known : IsKnown l.tables l.known;
}
