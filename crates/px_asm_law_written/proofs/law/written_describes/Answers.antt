use Rattle.px_asm_law_written.proofs.Described.{described}
use Rattle.px_asm_law_written.proofs.law.written_describes.Goals as goal

pub returns : goal.returns
returns c = record { law = described }
