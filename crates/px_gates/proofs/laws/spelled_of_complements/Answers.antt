use Rattle.px_gates.proofs.Spellings.{spelled-complements}
use Rattle.px_gates.proofs.laws.spelled_of_complements.Goals as goal

pub returns : goal.returns
returns c = spelled-complements
