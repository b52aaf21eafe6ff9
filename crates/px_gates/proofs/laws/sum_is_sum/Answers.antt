use Rattle.px_gates.proofs.Sums.{sum-meets}
use Rattle.px_gates.proofs.laws.sum_is_sum.Goals as goal

pub returns : goal.returns
returns c = sum-meets
