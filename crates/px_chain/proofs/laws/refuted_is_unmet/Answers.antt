use Rattle.px_chain.proofs.Soundness.{Refutes-unmet}
use Rattle.px_chain.proofs.laws.refuted_is_unmet.Goals as goal

pub returns : goal.returns
returns c = Refutes-unmet
