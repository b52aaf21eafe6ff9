use Rattle.std.proofs.Common.{◌≡◌, ap, subst, sym}
use Rattle.px_chain.specs.Clause.{Formula, IsOver}
use Rattle.px_gates.proofs.Formulas.{IsOfGates-added}
use Rattle.px_gates.proofs.gates.Gates.add.Goals as goal

pub invariant_of-self : goal.invariant_of-self
invariant_of-self c =
    let vars : c.args.self.now.vars ≡ c.self.inside.cnf.vars = ap (λ (f : Formula). f.vars) (sym c.self.view_is) in
    let over = subst (λ n. IsOver n c.args.clause.now) vars c.requires in
    IsOfGates-added c.add.result c.self.inside.cnf c.add.new.self c.args.clause.now c.self.invariant over c.add.ensures.vars c.add.ensures.ok c.add.ensures.err
