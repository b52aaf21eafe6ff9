use Rattle.std.proofs.Common.{refl}
use Rattle.std.proofs.lemmas.Bool.{both_ways, false≢true}
use Rattle.px_chain.proofs.Conflicts.{genuine-from, from-genuine}
use Rattle.px_chain.proofs.log_checker.is_genuine.Goals as goal

pub returns-then-not-branch-clause-genuine : goal.returns-then-not-branch-clause-genuine
returns-then-not-branch-clause-genuine c = (
  λ e. absurd (false≢true e),
  λ is. absurd (both_ways c.in_ok-meets_conflict.field-0 c.if-not-branch.true (c.in_ok-meets_conflict.ensures.1 (from-genuine c.args.premises.now.vars c.args.premises.now.clauses c.args.entry.now is))),
)

pub returns-in-Ok-clause-genuine : goal.returns-in-Ok-clause-genuine
returns-in-Ok-clause-genuine c =
    (λ _. genuine-from c.args.premises.now.vars c.args.premises.now.clauses c.args.entry.now (c.in_ok-meets_conflict.ensures.0 c.if-not-branch.false) c.in-Ok.ensures.derives, λ _. refl)
