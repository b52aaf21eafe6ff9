use Rattle.std.proofs.Common.{◌≡◌, ◌∙◌, Bool, List, get_or, false, arith, sym, ap}
use Rattle.px_chain.specs.Clause.{has}
use Rattle.px_chain.specs.Marks.{Marked}
use Rattle.px_chain.proofs.Marking.{has-marked, marked-within}
use Rattle.px_chain.proofs.resolver.Resolver.has.Goals as goal
use Rattle.px_chain.proofs.resolver.Resolver.has.Goals.{After-is_marked}

mark_is : (c : After-is_marked) → c.is_marked.result ≡ get_or c.self.inside.marks.items c.args.l false
mark_is c = c.is_marked.ensures ∙ ap (λ (marks : List Bool). get_or marks c.args.l false) c.deref.ensures.value

pub returns-clause-has : goal.returns-clause-has
returns-clause-has c = mark_is c ∙ sym (has-marked c.self.inside.marks.items c.args.l) ∙ ap (λ (m : Marked). has m.clause c.args.l) c.self.view_is

pub returns-clause-within : goal.returns-clause-within
returns-clause-within c = λ yes.
    let within = marked-within c.self.inside.marks.items c.args.l (sym (mark_is c) ∙ yes) in
    let vars = ap (λ (m : Marked). m.vars) c.self.view_is in
    omega (arith, c.self.invariant.size)
