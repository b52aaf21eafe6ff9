use Rattle.std.proofs.Common.{◌≡◌, ◌<◌, ap, subst, length, arith}
use Rattle.px_chain.specs.Clause.{Formula, IsOver}
use Rattle.px_chain.specs.Store.{clauses_between}
use Rattle.px_chain.proofs.Stores.{length-clauses_between, all_at, IsClause}
use Rattle.px_chain.proofs.cnf.Cnf.clause.Goals as goal
use Rattle.px_chain.proofs.cnf.Cnf.clause.Goals.{After-part}

pub part-requires-clause-within : goal.part-requires-clause-within
part-requires-clause-within c =
    let count = length-clauses_between c.self.inside.literals.items 0 c.self.inside.ends.items in
    let same = ap (λ (f : Formula). length f.clauses) c.self.view_is in
    let le : c.args.n < length c.self.inside.ends.items = omega (arith, c.requires) in
    rw c.deref-2.ensures.value le

is_clause : (c : After-part) → IsClause c.self.inside.vars c.part.result.now
is_clause c =
    all_at (IsClause c.self.inside.vars) (clauses_between c.self.inside.literals.items 0 c.self.inside.ends.items) c.args.n c.part.result.now c.self.invariant.formula
    (rw (c.deref.ensures.value, c.deref-2.ensures.value) at c.part.ensures)

pub returns-clause-ascends : goal.returns-clause-ascends
returns-clause-ascends c = (is_clause c).0

pub returns-clause-over : goal.returns-clause-over
returns-clause-over c = let vars : c.self.inside.vars ≡ c.args.self.now.vars = ap (λ (f : Formula). f.vars) c.self.view_is in subst (λ n. IsOver n c.part.result.now) vars (is_clause c).1
