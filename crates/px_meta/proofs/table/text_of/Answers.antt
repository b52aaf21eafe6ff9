use Rattle.px_meta.proofs.Texts.{readable_or_none}
use Rattle.px_meta.proofs.table.text_of.Goals as goal

pub returns : goal.returns
returns c = readable_or_none (λ x. x.now) c.args.tables.now c.heap.result.now c.args.at c.string_at.result c.heap.ensures.bytes c.string_at.ensures
