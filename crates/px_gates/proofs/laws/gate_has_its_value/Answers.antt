use Rattle.px_gates.proofs.GateValues.{gate-value}
use Rattle.px_gates.proofs.laws.gate_has_its_value.Goals as goal

pub returns : goal.returns
returns c = gate-value
