use Rattle.px_link.proofs.OneProgram.{reads_or_blames}
use Rattle.px_link.proofs.law.reads_or_blames.Goals as goal

pub returns : goal.returns
returns c = record { law = reads_or_blames }
