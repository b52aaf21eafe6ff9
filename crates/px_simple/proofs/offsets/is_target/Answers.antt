use Rattle.std.proofs.Common.{◌∙◌}
use Rattle.px_simple.proofs.Search.{target_found}
use Rattle.px_simple.proofs.offsets.is_target.Goals as goal

pub returns : goal.returns
returns c = c.is_ok.ensures.value ∙ target_found c.args.code.now c.args.targets.now c.args.at c.binary_search.result c.requires c.binary_search.ensures.bound c.binary_search.ensures.position
