use Rattle.px_chain.proofs.Soundness.{derived-met}
use Rattle.px_chain.proofs.laws.resolution_is_sound.Goals as goal

pub returns : goal.returns
returns c = derived-met
