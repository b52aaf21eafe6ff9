use Rattle.std.proofs.Common.{◌∙◌, None, ap, sym, subst, arith, vec_capacity}
use Rattle.std.proofs.lemmas.List.{get_or_read}
use Rattle.px_chain.specs.Clause.{variable_of}
use Rattle.px_trail.specs.Assignment.{IsKept, StepsOver, last_level, step_in, steps_in}
use Rattle.px_trail.specs.Trail.{reason_in}
use Rattle.px_trail.proofs.Tables.{IsKept-pop, pop_over, steps_in-pop}
use Rattle.px_trail.proofs.assignment.PartialAssignment.undo.Goals as goal

pub index-requires : goal.index-requires
index-requires c =
    let is = subst (λ ls. IsKept (vec_capacity c.self.inside.literals) c.self.inside.table.items ls c.self.inside.decided) c.in-Some.ensures.items c.self.invariant in
    omega (arith, c.self.inside.table.ok.0, pop_over c.self.inside.table.items c.pop.new.self.items c.in-Some.l is.formed)

pub index_mut-requires : goal.index_mut-requires
index_mut-requires c =
    let is = subst (λ ls. IsKept (vec_capacity c.self.inside.literals) c.self.inside.table.items ls c.self.inside.decided) c.in-Some.ensures.items c.self.invariant in
    omega (arith, c.self.inside.table.ok.0, pop_over c.self.inside.table.items c.pop.new.self.items c.in-Some.l is.formed)

pub invariant_of-self : goal.invariant_of-self
invariant_of-self c =
    let is = subst (λ ls. IsKept (vec_capacity c.self.inside.literals) c.self.inside.table.items ls c.self.inside.decided) c.in-Some.ensures.items c.self.invariant in
    let lt = pop_over c.self.inside.table.items c.pop.new.self.items c.in-Some.l is.formed in
    let known = get_or_read c.self.inside.table.items (variable_of c.in-Some.l) c.index.result.now lt c.index.ensures None in
    let level = c.last_level-self-inside.ensures ∙ ap (λ k. last_level c.self.inside.decided (reason_in k)) known in
    rw (level, c.in-Some.ensures.capacity) (IsKept-pop _ c.self.inside.table.items c.pop.new.self.items c.in-Some.l c.self.inside.decided is)

pub returns-in-Some-clause-steps : goal.returns-in-Some-clause-steps
returns-in-Some-clause-steps c =
    let is = subst (λ ls. IsKept (vec_capacity c.self.inside.literals) c.self.inside.table.items ls c.self.inside.decided) c.in-Some.ensures.items c.self.invariant in (
      step_in c.self.inside.table.items c.in-Some.l,
      sym (ap (λ (a : StepsOver). a.steps) c.self.view_is) ∙ ap (steps_in c.self.inside.table.items) c.in-Some.ensures.items
          ∙ steps_in-pop c.self.inside.table.items c.pop.new.self.items c.in-Some.l is.formed,
    )
