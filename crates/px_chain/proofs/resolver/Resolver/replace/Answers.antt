use Rattle.std.proofs.Common.{◌≡◌, ◌∙◌, ◌++◌, ◌<◌, Bool, List, length, set, take, drop, get_or, false, arith, sym, ap, length-set}
use Rattle.std.proofs.lemmas.List.{get_or_read}
use Rattle.px_chain.specs.Clause.{clause_of}
use Rattle.px_chain.specs.Resolution.{joined}
use Rattle.px_chain.specs.Marks.{IsMarked, Marked, marked}
use Rattle.px_chain.proofs.Marking.{all_written, marked-replaced, other_listed, IsMarked-less, IsMarked-set}
use Rattle.px_chain.proofs.resolver.Resolver.replace.Goals as goal
use Rattle.px_chain.proofs.resolver.Resolver.replace.Goals.{After-branch-mark, In_ok-mark}

in_table : (c : After-branch-mark) → (c.args.own < length c.self.inside.marks.items) × (c.args.other < length c.self.inside.marks.items)
in_table c = let vars = ap (λ (m : Marked). m.vars) c.self.view_is in (omega (arith, c.self.invariant.size, c.requires.own), omega (arith, c.self.invariant.size, c.requires.other))

same_size : (c : After-branch-mark) → length c.mark.new.marks ≡ length (set c.self.inside.marks.items c.args.own false)
same_size c = c.mark.auto.marks ∙ ap (λ (marks : List Bool). length marks) c.deref_mut.ensures.value

written : (c : After-branch-mark) → take c.self.inside.marks.len (c.mark.new.marks ++ drop (length c.mark.new.marks) (set c.self.inside.marks.items c.args.own false)) ≡ c.mark.new.marks
written c =
    all_written (set c.self.inside.marks.items c.args.own false) c.mark.new.marks c.self.inside.marks.len
    (c.self.inside.marks.ok.0 ∙ sym (length-set c.self.inside.marks.items c.args.own false)) (same_size c)

is_marked : (c : After-branch-mark) → IsMarked c.self.inside.vars c.mark.new.marks c.mark.new.touched.items
is_marked c = c.mark.ensures.listed c.self.inside.vars (rw c.deref_mut.ensures.value (IsMarked-less c.self.inside.vars _ _ c.args.own (in_table c).0 c.self.invariant))

pub invariant_of-self : goal.invariant_of-self
invariant_of-self c = let b = (goal.at.invariant_of-self c).After-branch-mark in rw (written b) (is_marked b)

had_is : (c : After-branch-mark) → c.index-had.result.now ≡ get_or c.self.inside.marks.items c.args.other false
had_is c = get_or_read c.self.inside.marks.items c.args.other c.index-had.result.now (in_table c).1 c.index-had.ensures false

joins : (c : In_ok-mark) → marked c.mark.new.marks ≡ clause_of (marked (set c.self.inside.marks.items c.args.own false) ++ c.args.clause.now)
joins c = rw c.deref_mut.ensures.value at c.in_ok-mark.ensures.ok

other_in : (c : After-branch-mark) → c.args.other < length c.mark.new.marks
other_in c = omega (arith, same_size c, (in_table c).1, length-set c.self.inside.marks.items c.args.own false)

pub invariant_of-self-2 : goal.invariant_of-self-2
invariant_of-self-2 c = let d = (goal.at.invariant_of-self-2 c).In_ok-mark in let b = (goal.at.invariant_of-self-2 c).After-branch-mark in
    rw (written b) (IsMarked-set c.self.inside.vars c.mark.new.marks c.mark.new.touched.items c.args.other c.index-had.result.now (other_in b)
    (other_listed c.self.inside.marks.items c.args.own c.args.other c.args.clause.now c.mark.new.marks c.index-had.result.now (in_table b).0 (other_in b) c.requires.apart (had_is b) (joins d) c.mark.new.touched.items (is_marked b).listed) (is_marked b))

pub returns-clause-joined : goal.returns-clause-joined
returns-clause-joined c = let d = (goal.at.returns-clause-joined c).In_ok-mark in let b = (goal.at.returns-clause-joined c).After-branch-mark in
    rw (written b) (
    marked-replaced c.self.inside.marks.items c.args.own c.args.other c.args.clause.now c.mark.new.marks c.index-had.result.now (in_table b).0 (other_in b) c.requires.apart (had_is b) (joins d)
    ∙ ap (λ (m : Marked). joined m.clause c.args.own c.args.clause.now c.args.other) c.self.view_is)
