use Rattle.px_link_types.proofs.Visiting.{kept_first}
use Rattle.px_link_types.proofs.types.Types.new.Goals as goal

pub invariant_of-result : goal.invariant_of-result
invariant_of-result c = kept_first c.args.meta.now _ c.in_ok-add_library.ensures
