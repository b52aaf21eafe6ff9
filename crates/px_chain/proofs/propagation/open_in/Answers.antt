use Rattle.std.proofs.Common.{◌≡◌, ◌∙◌, get_or, false, sym, arith}
use Rattle.std.proofs.lemmas.Bool.{both_ways}
use Rattle.px_chain.specs.Clause.{complement}
use Rattle.px_chain.proofs.Closures.{CountsOpen-false, CountsOpen-second, CountsOpen-several}
use Rattle.px_chain.proofs.propagation.open_in.Goals as goal
use Rattle.px_chain.proofs.propagation.open_in.Goals.{After-is_marked}

mark_is : (c : After-is_marked) → c.is_marked.result ≡ get_or c.args.marks.now (complement (get_or c.args.clause.now c.loop-l.l-index 0)) false
mark_is c = rw c.complement.ensures at c.is_marked.ensures

pub loop-l-preserved-then-is_marked : goal.loop-l-preserved-then-is_marked
loop-l-preserved-then-is_marked c =
    CountsOpen-false c.args.marks.now c.args.clause.now c.loop-l.l-index (omega arith) c.loop-l.found
    (sym (mark_is (goal.at.loop-l-preserved-then-is_marked c).After-is_marked) ∙ c.if-is_marked.true) c.loop-l.invariant

pub returns-then-first-l : goal.returns-then-first-l
returns-then-first-l c =
    let w = (goal.at.returns-then-first-l c).After-is_marked in
    CountsOpen-second c.args.marks.now c.args.clause.now c.loop-l.l-index (omega arith) c.in-Single.first c.if-first-l.true
    (λ h. both_ways c.is_marked.result c.if-is_marked.false (mark_is w ∙ h)) (rw c.in-Single.is at c.loop-l.invariant)

pub returns-in-Several : goal.returns-in-Several
returns-in-Several c = CountsOpen-several c.args.marks.now c.args.clause.now c.loop-l.l-index (omega arith) (rw c.in-Several.is at c.loop-l.invariant)
