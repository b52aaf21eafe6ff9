use Rattle.px_asm_bodies.proofs.Read.{read_encodable}
use Rattle.px_asm_bodies.proofs.law.read_code_is_encodable.Goals as goal

pub returns : goal.returns
returns c = record { law = read_encodable }
