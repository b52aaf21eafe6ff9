use Rattle.std.proofs.Common.{◌∙◌}
use Rattle.px_meta.specs.Members.{IsType}
use Rattle.px_meta.specs.Rows.{type_defs}
use Rattle.px_link.proofs.Finding.{item_at}
use Rattle.px_link.proofs.maker.list_start.Goals as goal

pub returns : goal.returns
returns c = c.from.ensures ∙ (item_at IsType c.args.meta.now type_defs c.types.result.now c.args.class _ c.types.ensures c.requires).first_method
