use Rattle.px_link_methods.proofs.Likeness.{kept_first}
use Rattle.px_link_methods.proofs.methods.first_like.Goals as goal

pub returns : goal.returns
returns c = kept_first c.args.firsts.now c.insert.new.self c.args.like c.args.next c.in_ok-insert.ensures.updates
