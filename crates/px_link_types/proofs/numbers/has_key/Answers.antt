use Rattle.std.proofs.Common.{◌∙◌}
use Rattle.px_link_types.proofs.Derived.{has_derived}
use Rattle.px_link_types.proofs.numbers.has_key.Goals as goal

pub returns : goal.returns
returns c = c.contains.ensures ∙ has_derived c.args.keys.now.keys c.args.key
