use Rattle.std.proofs.Common.{◌<◌, arith}
use Rattle.px_meta.specs.Members.{IsMethod, owner_of}
use Rattle.px_meta.specs.Rows.{count_of, methods}
use Rattle.px_meta.proofs.Blame.{method_sound, sound_to, table_blamed}
use Rattle.px_meta.proofs.Rows.{first_push, of_at}
use Rattle.px_meta.proofs.members.read_methods.Goals as goal

pub returns-in-Err-clause-fault : goal.returns-in-Err-clause-fault
returns-in-Err-clause-fault c =
    let v = c.args.tables.now in
    let n = c.loop-n.n in
    table_blamed v methods n c.in-Err.fault (sound_to IsMethod v methods n c.loop-n.methods.items (λ row item is. method_sound v row item is) c.loop-n.invariant.read) c.in-Err.ensures.fault

pub loop-n-preserved : goal.loop-n-preserved
loop-n-preserved c = record {
  read = first_push IsMethod c.args.tables.now c.loop-n.n c.loop-n.methods.items _ c.in-Ok.read c.loop-n.invariant.read c.in-Ok.ensures.method c.in_ok-push-in-Ok.ensures.items;
  known = c.in-Ok.ensures.known;
}

pub read_method-requires-clause-owner : goal.read_method-requires-clause-owner
read_method-requires-clause-owner c =
    let v = c.args.tables.now in
    let less : c.loop-n.n < count_of v methods = omega arith in
    let at = of_at (owner_of v methods) (count_of v methods) c.in_ok-owners.owners.items c.loop-n.n c.index.result.now c.in_ok-owners.ensures less in
    cc at
