use Rattle.px_meta.specs.Members.{IsField}
use Rattle.px_meta.specs.Rows.{fields}
use Rattle.px_link_types.proofs.Listed.{item_at}
use Rattle.px_link_methods.proofs.fields.owner_of.Goals as goal

pub returns : goal.returns
returns c =
    let item = item_at IsField c.args.meta.now fields c.args.field c.fields.result.now _ c.fields.ensures c.requires in
    item.owner
