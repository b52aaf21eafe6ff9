use Rattle.std.proofs.Common.{sym, subst}
use Rattle.std.specs.Prelude.{IfOk}
use Rattle.px_chain.specs.Clause.{Formula, IsFormula}
use Rattle.px_sat.specs.Answer.{Settles}
use Rattle.px_sat.proofs.Settling.{over-same}
use Rattle.px_sat.proofs.solver.solve.Goals as goal

pub search-requires-clause-formed : goal.search-requires-clause-formed
search-requires-clause-formed c =
    subst IsFormula (sym (over-same c.args.cnf.now c.in_ok-trail.trail c.in_ok-trail.ensures.vars c.in_ok-trail.ensures.clauses)) c.vars.ensures.formed

pub returns-clause-settles : goal.returns-clause-settles
returns-clause-settles c =
    subst (λ (f : Formula). IfOk c.search.result (Settles f c.args.budget))
    (over-same c.args.cnf.now c.in_ok-trail.trail c.in_ok-trail.ensures.vars c.in_ok-trail.ensures.clauses) c.search.ensures.settles
