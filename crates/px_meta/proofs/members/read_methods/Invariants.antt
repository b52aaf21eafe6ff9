use Rattle.px_meta.specs.Known.{IsKnown}
use Rattle.px_meta.specs.Members.{IsMethod}
use Rattle.px_meta.proofs.Rows.{AreFirst}
use Rattle.px_meta.proofs.members.read_methods.Given as goal

abbrev pub invariant-loop-n : goal.invariant-loop-n
invariant-loop-n l = record {
  read : AreFirst IsMethod l.tables l.n l.methods.items;
  known : IsKnown l.tables l.known;
}
