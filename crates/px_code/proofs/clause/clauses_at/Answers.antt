use Rattle.std.proofs.Common.{sym, ap, ◌∙◌, ◌+◌, ◌*◌}
use Rattle.std.proofs.lemmas.Result.{err_from_is_err_and}
use Rattle.px_code.specs.Body.{clause_at, clauses_at}
use Rattle.px_code.proofs.Front.{clause_refused, fails_on, one_clause}
use Rattle.px_code.proofs.clause.clauses_at.Goals as goal

pub returns-in_err-clause_at : goal.returns-in_err-clause_at
returns-in_err-clause_at c =
    let a = c.args in
    let l = c.loop-index in
    let p = err_from_is_err_and c.from_residual.result c.from_residual.ensures.1 in
    rw (p.1, p.2)
    (fails_on c.in_err-clause_at.field-0.0 (clause_at a.instrs.now a.is_fat a.bytes.now (a.from + c.clause_size-size.result * l.index)) (clauses_at a.instrs.now a.is_fat a.bytes.now a.from a.count)
    c.in_err-clause_at.ensures
    (λ f is. sym l.invariant ∙ clause_refused l.clauses.items a.instrs.now a.is_fat a.bytes.now a.from l.index a.count f c.loop-index-test.true (ap (λ size. clause_at a.instrs.now a.is_fat a.bytes.now (a.from + size * l.index)) (sym c.clause_size-size.ensures) ∙ is)))

pub loop-index-preserved : goal.loop-index-preserved
loop-index-preserved c =
    let a = c.args in
    let l = c.loop-index in
    rw c.in_ok-push.ensures.items
    (one_clause l.clauses.items a.instrs.now a.is_fat a.bytes.now a.from l.index a.count c.in_ok-clause_at.field-0 c.loop-index-test.true (ap (λ size. clause_at a.instrs.now a.is_fat a.bytes.now (a.from + size * l.index)) (sym c.clause_size-size.ensures) ∙ c.in_ok-clause_at.ensures)
    ∙ l.invariant)
