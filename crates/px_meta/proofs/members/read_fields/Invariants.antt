use Rattle.px_meta.specs.Known.{IsKnown}
use Rattle.px_meta.specs.Members.{IsField}
use Rattle.px_meta.proofs.Rows.{AreFirst}
use Rattle.px_meta.proofs.members.read_fields.Given as goal

abbrev pub invariant-loop-n : goal.invariant-loop-n
invariant-loop-n l = record {
  read : AreFirst IsField l.tables l.n l.fields.items;
  known : IsKnown l.tables l.known;
}
