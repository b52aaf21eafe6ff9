use Rattle.px_sat.proofs.learning.entry.Goals as goal

pub returns-clause-genuine : goal.returns-clause-genuine
returns-clause-genuine c = rw (c.from_vec.ensures, ← c.deref.ensures.value) (c.in_ok-chain.ensures.genuine c.args.last (rw c.deref.ensures.value c.requires.last))
