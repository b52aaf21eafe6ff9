use Rattle.px_meta.specs.Members.{IsMethod}
use Rattle.px_meta.specs.Rows.{methods}
use Rattle.px_link_types.proofs.Listed.{item_of}
use Rattle.px_link_methods.proofs.names.method_at.Goals as goal

pub returns : goal.returns
returns c = item_of IsMethod c.args.meta.now methods c.args.row c.methods.result.now c.index-methods-row.result c.methods.ensures c.requires c.index-methods-row.is
