use Rattle.std.proofs.Common.{ap}
use Rattle.px_meta.specs.Members.{IsMethod}
use Rattle.px_meta.specs.Rows.{methods}
use Rattle.px_tables.specs.Counts.{has_bit}
use Rattle.px_link.proofs.Finding.{item_at}
use Rattle.px_link.proofs.layout.slot_of.Goals as goal

pub returns : goal.returns
returns c =
    let item = item_at IsMethod c.args.meta.now methods c.methods.result.now c.args.row c.index-methods-row.result c.methods.ensures c.requires.row in
    let overridden = c.overridden_among.ensures in
    record { virtual_is = ap (λ f. has_bit f 6) item.flags; nearest = overridden.nearest; among = overridden.among; overridden_is = overridden.is }
