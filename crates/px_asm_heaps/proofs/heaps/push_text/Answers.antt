use Rattle.std.proofs.Common.{rules}
use Rattle.px_asm_heaps.proofs.Stands.{text_stands}
use Rattle.px_asm_heaps.proofs.heaps.push_text.Goals as goal

pub returns-clause-stands : goal.returns-clause-stands
returns-clause-stands c =
    let pushed = c.in_ok-push_counted.ensures in
    text_stands c.push_counted.new.heap.items c.args.heap.now.items c.in_ok-blob.blob.items c.deref-2.result.now c.args.units.now c.in_ok-at.at c.flag_of.result
    (search rules) (search rules) (search rules) pushed.ok pushed.few
