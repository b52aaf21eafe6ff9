use Rattle.px_gates.proofs.Spellings.{spelled-append}
use Rattle.px_gates.proofs.laws.spelled_of_append.Goals as goal

pub returns : goal.returns
returns c = spelled-append
