use Rattle.std.proofs.Common.{◌≡◌, ◌∙◌, ◌++◌, Bool, List, [], length, take, drop, ap}
use Rattle.px_chain.specs.Clause.{clause_of}
use Rattle.px_chain.specs.Marks.{IsMarked, Marked, marked}
use Rattle.px_chain.proofs.Marking.{all_written, marked-over, unmarked, IsMarked-empty}
use Rattle.px_chain.proofs.resolver.Resolver.take.Goals as goal
use Rattle.px_chain.proofs.resolver.Resolver.take.Goals.{After-branch-unmark, In_ok-unmark}

written : (c : After-branch-unmark) → take c.self.inside.marks.len (c.unmark.new.marks ++ drop (length c.unmark.new.marks) c.self.inside.marks.items) ≡ c.unmark.new.marks
written c =
    all_written c.self.inside.marks.items c.unmark.new.marks c.self.inside.marks.len c.self.inside.marks.ok.0
    (c.unmark.auto.marks ∙ ap (λ (marks : List Bool). length marks) c.deref_mut.ensures.value)

is_marked : (c : After-branch-unmark) → IsMarked c.self.inside.vars c.unmark.new.marks c.self.inside.touched.items
is_marked c = rw c.deref.ensures.value at (c.unmark.ensures.listed c.self.inside.vars (rw (c.deref_mut.ensures.value, c.deref.ensures.value) c.self.invariant))

none_left : (c : In_ok-unmark) → (marked c.unmark.new.marks ≡ []) × (clause_of c.unmark.new.out.items ≡ marked c.self.inside.marks.items)
none_left c =
    unmarked c.self.inside.vars c.self.inside.marks.items c.unmark.new.marks c.self.inside.touched.items c.unmark.new.out.items c.self.invariant
    (rw (c.deref_mut.ensures.value, c.deref.ensures.value, c.new-clause.ensures.items) at c.in_ok-unmark.ensures.ok)

pub invariant_of-self : goal.invariant_of-self
invariant_of-self c = let b = (goal.at.invariant_of-self c).After-branch-unmark in rw (written b) (is_marked b)

pub invariant_of-self-2 : goal.invariant_of-self-2
invariant_of-self-2 c =
    let b = (goal.at.invariant_of-self-2 c).After-branch-unmark in
    rw (written b, c.clear.ensures.items) (IsMarked-empty c.self.inside.vars c.unmark.new.marks (is_marked b).size (none_left (goal.at.invariant_of-self-2 c).In_ok-unmark).0)

pub returns-clause-clause : goal.returns-clause-clause
returns-clause-clause c = c.normalise.ensures ∙ (none_left (goal.at.returns-clause-clause c).In_ok-unmark).1 ∙ ap (λ (m : Marked). m.clause) c.self.view_is

pub returns-clause-empty : goal.returns-clause-empty
returns-clause-empty c = rw (written (goal.at.returns-clause-empty c).After-branch-unmark) (none_left (goal.at.returns-clause-empty c).In_ok-unmark).0

pub returns-clause-over : goal.returns-clause-over
returns-clause-over c =
    let vars = ap (λ (m : Marked). m.vars) c.self.view_is in
    let same = c.normalise.ensures ∙ (none_left (goal.at.returns-clause-over c).In_ok-unmark).1 in
    rw (same, ← vars) (marked-over c.self.inside.vars c.self.inside.marks.items c.self.invariant.size)
