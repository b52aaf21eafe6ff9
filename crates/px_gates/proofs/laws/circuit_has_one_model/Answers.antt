use Rattle.px_gates.proofs.Circuits.{one-model}
use Rattle.px_gates.proofs.laws.circuit_has_one_model.Goals as goal

pub returns : goal.returns
returns c = one-model
