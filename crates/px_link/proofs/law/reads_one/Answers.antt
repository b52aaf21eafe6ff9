use Rattle.px_link.proofs.OneProgram.{reads_one}
use Rattle.px_link.proofs.law.reads_one.Goals as goal

pub returns : goal.returns
returns c = record { law = reads_one }
