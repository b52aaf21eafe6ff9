use Rattle.px_verify.proofs.One.{table_one}
use Rattle.px_verify.proofs.law.table_is_one.Goals as goal

pub returns : goal.returns
returns c = table_one
