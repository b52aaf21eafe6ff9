use Rattle.std.proofs.Common.{◌≡◌, ◌∙◌, ◌++◌, ◌∷◌, [], List, ℕ, sym, ap, ap₂, subst, length, length-append}
use Rattle.px_chain.specs.Clause.{Formula, clause_of, IsOver}
use Rattle.px_chain.specs.Store.{clauses_between}
use Rattle.px_chain.proofs.Stores.{clauses_between-push, IsStored-push}
use Rattle.px_chain.proofs.cnf.Cnf.add.Goals as goal
use Rattle.px_chain.proofs.cnf.Cnf.add.Goals.{After-push_reserved}

more_literals : (c : After-push_reserved) → c.extend_from_slice-2.new.self.items ≡ c.self.inside.literals.items ++ clause_of c.args.clause.now
more_literals c =
    let making = c.in_ok-extend_from_slice.ensures.items ∙ ap (λ (front : List ℕ). front ++ c.args.clause.now) c.clear.ensures.items in
    c.in_ok-extend_from_slice-2.ensures.items ∙ ap (λ (more : List ℕ). c.self.inside.literals.items ++ more) (c.deref.ensures.value ∙ c.normalise.ensures ∙ ap clause_of making)

more_ends : (c : After-push_reserved) → c.push_reserved.new.self.items ≡ c.self.inside.ends.items ++ length (c.self.inside.literals.items ++ clause_of c.args.clause.now) ∷ []
more_ends c =
    let end = c.len.ensures ∙ c.extend_from_slice-2.new.self.ok.0 ∙ ap length (more_literals c) in
    c.push_reserved.ensures.items ∙ ap₂ (λ (front : List ℕ) (n : ℕ). front ++ n ∷ []) c.in_ok-reserve.ensures.items end

is_over : (c : After-push_reserved) → IsOver c.self.inside.vars c.args.clause.now
is_over c = let vars : c.args.self.now.vars ≡ c.self.inside.vars = ap (λ (f : Formula). f.vars) (sym c.self.view_is) in subst (λ n. IsOver n c.args.clause.now) vars c.requires

pub invariant_of-self-2 : goal.invariant_of-self-2
invariant_of-self-2 c = rw (more_literals c, more_ends c) (IsStored-push _ _ _ _ c.self.invariant (is_over c))

pub returns-clause-ok : goal.returns-clause-ok
returns-clause-ok c =
    let literals = c.self.inside.literals.items in let more = clause_of c.args.clause.now in
    let old = ap (λ (f : Formula). f.clauses) c.self.view_is in
    ap₂ (λ ls es. clauses_between ls 0 es) (more_literals c) (more_ends c)
    ∙ clauses_between-push literals more 0 c.self.inside.ends.items _ c.self.invariant.ends_ascend (length-append literals more)
    ∙ ap (λ cs. cs ++ more ∷ []) old
