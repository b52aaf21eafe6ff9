use Rattle.std.proofs.Common.{◌∙◌, sym, ap, length}
use Rattle.px_chain.specs.Clause.{Formula}
use Rattle.px_chain.proofs.Stores.{length-clauses_between}
use Rattle.px_chain.proofs.cnf.Cnf.clauses.Goals as goal

pub returns-clause-count : goal.returns-clause-count
returns-clause-count c =
    let fields = c.self.inside in
    let count = length-clauses_between fields.literals.items 0 fields.ends.items in
    c.len.ensures ∙ fields.ends.ok.0 ∙ sym count ∙ ap (λ (f : Formula). length f.clauses) c.self.view_is
