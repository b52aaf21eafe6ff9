use Rattle.std.proofs.lemmas.Result.{err_from_is_err_and}
use Rattle.px_meta.specs.Resolved.{IsReference}
use Rattle.px_meta.specs.Rows.{member_refs}
use Rattle.px_meta.proofs.Blame.{reference_sound, sound_to, table_blamed}
use Rattle.px_meta.proofs.Rows.{first_push}
use Rattle.px_meta.proofs.members.read_references.Goals as goal

pub returns-in_err-read-clause-fault : goal.returns-in_err-read-clause-fault
returns-in_err-read-clause-fault c =
    let v = c.args.tables.now in
    let n = c.loop-n.n in
    let p = err_from_is_err_and c.from_residual.result c.from_residual.ensures.1 in
    rw (p.1, p.2) (table_blamed v member_refs n c.in_err-read.field-0.0 (sound_to IsReference v member_refs n c.loop-n.references.items (λ row item is. reference_sound v row item is) c.loop-n.invariant.read) c.in_err-read.ensures.fault)

pub loop-n-preserved : goal.loop-n-preserved
loop-n-preserved c = record {
  read = first_push IsReference c.args.tables.now c.loop-n.n c.loop-n.references.items _ c.in_ok-read.read c.loop-n.invariant.read c.in_ok-read.ensures.reference c.in_ok-push.ensures.items;
  known = c.in_ok-read.ensures.known;
}
