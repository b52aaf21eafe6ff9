use Rattle.std.proofs.Common.{◌∷◌}
use Rattle.px_chain.proofs.Conflicts.{Adds-decision}
use Rattle.px_chain.proofs.log_checker.decide.Goals as goal

pub returns : goal.returns
returns c = λ given is.
    c.close.ensures (c.args.last ∷ given) (Adds-decision c.args.premises.now.clauses given c.args.marks.now c.args.last is)
