use Rattle.std.proofs.Common.{sym, ap, ◌∙◌}
use Rattle.px_meta.specs.Members.{IsField}
use Rattle.px_meta.specs.Rows.{fields}
use Rattle.px_link_types.specs.Numbers.{read_key}
use Rattle.px_link_types.proofs.Listed.{item_at}
use Rattle.px_link_types.proofs.own.field_key.Goals as goal

pub returns-clause-key : goal.returns-clause-key
returns-clause-key c =
    let item = item_at IsField c.args.meta.now fields c.args.field c.fields.result.now _ c.fields.ensures c.requires in
    c.place_key.ensures.key ∙ ap (read_key c.args.meta.now) (sym item.sig)
