use Rattle.px_link_methods.proofs.Standing.{found_at}
use Rattle.px_link_methods.proofs.codes.number_of_method.Goals as goal

pub returns : goal.returns
returns c = let at = c.in-Some.ensures in found_at c.args.rows.now.keys c.args.row c.in-Some.number at.index
