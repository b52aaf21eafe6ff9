use Rattle.px_gates.proofs.Sums.{IsCircuit-sum}
use Rattle.px_gates.proofs.laws.sum_is_circuit.Goals as goal

pub returns : goal.returns
returns c = IsCircuit-sum
