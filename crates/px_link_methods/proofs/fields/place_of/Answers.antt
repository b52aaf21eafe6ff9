use Rattle.std.proofs.Common.{◌∙◌}
use Rattle.px_link_methods.proofs.Standing.{place_or_count}
use Rattle.px_link_methods.proofs.fields.place_of.Goals as goal

pub returns-clause-place : goal.returns-clause-place
returns-clause-place c = c.unwrap_or.ensures ∙ place_or_count c.args.rows.now c.args.row c.position.result c.position.ensures.place
