use Rattle.std.proofs.Common.{◌≡◌, ◌∙◌, ◌∷◌, [], ap, length, length-append, refl, sym, subst, arith}
use Rattle.px_sat.specs.Search.{formula_over}
use Rattle.px_sat.specs.Turn.{TurnsTo}
use Rattle.px_sat.proofs.Answering.{found_settles, never_spent, refutation_settles, spent_settles}
use Rattle.px_sat.proofs.Settling.{learnt-push, learnt-start}
use Rattle.px_sat.proofs.solver.search.Goals as goal

pub loop-conflict-init : goal.loop-conflict-init
loop-conflict-init c = record {
  learnt = learnt-start (formula_over c.args.trail.now) c.new-log.result.items c.args.trail.now c.new-log.ensures.items refl refl c.requires.unassigned;
  count = ap length c.new-log.ensures.items;
  vars = c.requires.vars;
  empty = c.requires.empty;
  order = c.requires.order;
}

pub turn-requires-clause-order : goal.turn-requires-clause-order
turn-requires-clause-order c = c.loop-conflict.invariant.order

pub turn-requires-clause-undecided : goal.turn-requires-clause-undecided
turn-requires-clause-undecided c = c.loop-conflict.invariant.learnt.undecided

pub turn-requires-clause-vars : goal.turn-requires-clause-vars
turn-requires-clause-vars c = c.loop-conflict.invariant.vars

pub turn-requires-clause-empty : goal.turn-requires-clause-empty
turn-requires-clause-empty c = c.loop-conflict.invariant.empty

pub returns-in-Met-clause-settles : goal.returns-in-Met-clause-settles
returns-in-Met-clause-settles c =
    found_settles (formula_over c.args.trail.now) c.loop-conflict.log.items c.loop-conflict.trail c.turn.new.trail c.in-Met.values c.args.budget c.requires.formed c.loop-conflict.invariant.learnt
    c.turn.ensures.vars c.turn.ensures.clauses (subst (TurnsTo c.turn.new.trail) c.in-Met.is c.in_ok-values.ensures.turns_to)

pub returns-in-Met-clause-at_once : goal.returns-in-Met-clause-at_once
returns-in-Met-clause-at_once c = λ none. omega (arith, none, c.loop-conflict-test.true)

pub returns-in-Met-clause-enough : goal.returns-in-Met-clause-enough
returns-in-Met-clause-enough c = λ enough spent. spent

pub returns-in-Refuted-clause-settles : goal.returns-in-Refuted-clause-settles
returns-in-Refuted-clause-settles c =
    refutation_settles (formula_over c.args.trail.now) c.loop-conflict.log.items c.loop-conflict.trail c.turn.new.trail c.in-Refuted.chain c.in_ok-refutation-in-Refuted.field-0 c.loop-conflict.conflict c.args.budget
    c.loop-conflict.invariant.learnt c.turn.ensures.clauses (subst (TurnsTo c.turn.new.trail) c.in-Refuted.is c.in_ok-values.ensures.turns_to) c.in_ok-refutation-in-Refuted.ensures
    c.loop-conflict.invariant.count c.loop-conflict-test.true

pub returns-in-Refuted-clause-at_once : goal.returns-in-Refuted-clause-at_once
returns-in-Refuted-clause-at_once c = λ none. omega (arith, none, c.loop-conflict-test.true)

pub returns-in-Refuted-clause-enough : goal.returns-in-Refuted-clause-enough
returns-in-Refuted-clause-enough c = λ enough spent. spent

pub take_up-requires : goal.take_up-requires
take_up-requires c = (subst (TurnsTo c.turn.new.trail) c.in-Learnt.is c.in_ok-values.ensures.turns_to).claim_over

pub loop-conflict-preserved : goal.loop-conflict-preserved
loop-conflict-preserved c = record {
  learnt = rw c.in_ok-push-in-Learnt.ensures.items
      (learnt-push (formula_over c.args.trail.now) c.loop-conflict.log.items c.loop-conflict.trail c.turn.new.trail c.take_up.new.trail c.in-Learnt.entry c.loop-conflict.invariant.learnt c.turn.ensures.vars
      c.turn.ensures.clauses (subst (TurnsTo c.turn.new.trail) c.in-Learnt.is c.in_ok-values.ensures.turns_to) c.take_up.ensures.vars c.in_ok-take_up-in-Learnt.ensures.clauses c.in_ok-take_up-in-Learnt.ensures.undecided);
  count = omega (arith, ap length c.in_ok-push-in-Learnt.ensures.items, length-append c.loop-conflict.log.items (c.in-Learnt.entry ∷ []), c.loop-conflict.invariant.count);
  vars = c.turn.ensures.resolver_vars ∙ c.loop-conflict.invariant.vars ∙ sym c.turn.ensures.vars ∙ sym c.take_up.ensures.vars;
  empty = c.in_ok-values.ensures.empty;
  order = c.take_up.ensures.order ∙ c.loop-conflict.invariant.order ∙ sym c.turn.ensures.vars ∙ sym c.take_up.ensures.vars;
}

pub returns-clause-settles : goal.returns-clause-settles
returns-clause-settles c =
    let all : c.loop-conflict.conflict ≡ c.args.budget = omega arith in
    spent_settles (formula_over c.args.trail.now) c.loop-conflict.log.items c.from_vec.result c.loop-conflict.trail c.loop-conflict.conflict c.args.budget c.loop-conflict.invariant.learnt c.from_vec.ensures
    c.loop-conflict.invariant.count all

pub returns-clause-enough : goal.returns-clause-enough
returns-clause-enough c =
    let all : c.loop-conflict.conflict ≡ c.args.budget = omega arith in
    λ enough spent. never_spent (formula_over c.args.trail.now) c.loop-conflict.log.items c.loop-conflict.trail c.loop-conflict.conflict c.args.budget c.loop-conflict.invariant.learnt c.loop-conflict.invariant.count all enough
