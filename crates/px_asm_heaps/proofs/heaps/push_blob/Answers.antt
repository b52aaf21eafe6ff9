use Rattle.std.proofs.Common.{rules}
use Rattle.px_asm_heaps.proofs.Stands.{blob_stands}
use Rattle.px_asm_heaps.proofs.heaps.push_blob.Goals as goal

pub returns-clause-stands : goal.returns-clause-stands
returns-clause-stands c =
    let pushed = c.in_ok-push_counted.ensures in
    blob_stands c.push_counted.new.heap.items c.args.heap.now.items c.args.blob.now c.in_ok-at.at (search rules) pushed.ok pushed.few
