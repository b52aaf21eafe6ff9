use Rattle.std.proofs.Common.{◌<◌, rules, arith}
use Rattle.std.proofs.lemmas.Result.{err_from_is_err_and}
use Rattle.px_meta.specs.Members.{IsField, owner_of}
use Rattle.px_meta.specs.Rows.{count_of, fields}
use Rattle.px_meta.proofs.Blame.{field_sound, sound_to, table_blamed}
use Rattle.px_meta.proofs.Rows.{first_push, of_at, rows_from_first}
use Rattle.px_meta.proofs.members.read_fields.Goals as goal

pub returns-in_err-read-clause-fault : goal.returns-in_err-read-clause-fault
returns-in_err-read-clause-fault c =
    let v = c.args.tables.now in
    let n = c.loop-n.n in
    let p = err_from_is_err_and c.from_residual-in_err-read.result c.from_residual-in_err-read.ensures.1 in
    rw (p.1, p.2) (table_blamed v fields n c.in_err-read.field-0.0 (sound_to IsField v fields n c.loop-n.fields.items (λ row item is. field_sound v row item is) c.loop-n.invariant.read) c.in_err-read.ensures.fault)

pub loop-n-preserved : goal.loop-n-preserved
loop-n-preserved c = record {
  read = first_push IsField c.args.tables.now c.loop-n.n c.loop-n.fields.items _ c.in_ok-read.read c.loop-n.invariant.read c.in_ok-read.ensures.field c.in_ok-push.ensures.items;
  known = c.in_ok-read.ensures.known;
}

pub loop-n-init : goal.loop-n-init
loop-n-init c = search rules

pub returns-clause-fields : goal.returns-clause-fields
returns-clause-fields c = rows_from_first IsField c.args.tables.now fields c.loop-n.n c.loop-n.fields.items c.loop-n.invariant.read (omega (arith))

pub returns-in_err-owners-clause-fault : goal.returns-in_err-owners-clause-fault
returns-in_err-owners-clause-fault c = search rules

pub returns-in_err-push-clause-fault : goal.returns-in_err-push-clause-fault
returns-in_err-push-clause-fault c = search rules

pub read_field-requires-clause-owner : goal.read_field-requires-clause-owner
read_field-requires-clause-owner c =
    let v = c.args.tables.now in
    let less : c.loop-n.n < count_of v fields = omega arith in
    let at = of_at (owner_of v fields) (count_of v fields) c.in_ok-owners.owners.items c.loop-n.n c.index.result.now c.in_ok-owners.ensures less in
    cc at

pub read_field-requires-clause-row : goal.read_field-requires-clause-row
read_field-requires-clause-row c = search rules
