use Rattle.px_chain.proofs.Learning.{log-short}
use Rattle.px_chain.proofs.laws.genuine_logs_are_short.Goals as goal

pub returns : goal.returns
returns c = λ f log is. log-short f.vars f.clauses log is
